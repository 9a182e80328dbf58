use Rattle.std.proofs.Common.{◌≡◌}
use Rattle.std.proofs.lemmas.Result.{IfOk-weaker}
use Rattle.board_core.specs.Board.{Board}
use Rattle.board_core.specs.Kept.{IsKept}
use Rattle.sfen_text.specs.Spelling.{sfen_of}
use Rattle.sfen_text.proofs.TextAgain.{only_text}
use Rattle.sfen_text.proofs.write.write_sfen.Goals as goal

pub returns-clause-apart : goal.returns-clause-apart
returns-clause-apart c =
    IfOk-weaker c.text_of.result (λ text. text.items ≡ sfen_of c.args.position.now) (λ text. (other : Board) → IsKept other → sfen_of other ≡ text.items → other ≡ c.args.position.now)
    (λ text e. only_text c.args.position.now text.items c.laws.ensures e) c.text_of.ensures
