-- What notes say of the positions after moves.
use Rattle.std.proofs.Common.{◌≡◌, ℕ, List, Some, slice_get, subst}
use Rattle.bit_boards.specs.declared.piece.Side.{Side}
use Rattle.board_core.specs.declared.moves.Move.{Move}
use Rattle.board_core.specs.Board.{Board}
use Rattle.shogi_rules.specs.Rules.{after}
use Rattle.notes.specs.declared.rule.Conclusion.{Conclusion}
use Rattle.notes.specs.Derivation.{Derivation}
use Rattle.notes.specs.Valid.{Says}

-- one move and one note stand at a place
pub said_there : (conclusion : Conclusion) (attacker : Side) (b : Board) (moves : List Move) (notes : List Derivation) (k : ℕ)
    (one other : Move) (note another : Derivation) → slice_get moves k ≡ Some one → slice_get notes k ≡ Some note
    → Says conclusion attacker (after b one) note → slice_get moves k ≡ Some other → slice_get notes k ≡ Some another
    → Says conclusion attacker (after b other) another
said_there conclusion attacker b moves notes k one other note another is_one is_note says is_other is_another =
    let same_move : one ≡ other = cc in
    let same_note : note ≡ another = cc in
    subst (λ (n : Derivation). Says conclusion attacker (after b other) n) same_note
    (subst (λ (m : Move). Says conclusion attacker (after b m) note) same_move says)
