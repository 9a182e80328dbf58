use Rattle.std.proofs.Common.{◌≡◌, ap, sym, subst, ◌∙◌}
use Rattle.bit_boards.specs.Kind.{other, total_of}
use Rattle.board_core.specs.Board.{Board, count_of, with_hand}
use Rattle.board_core.specs.Kept.{IsKept}
use Rattle.board_core.specs.Rest.{board_with_rest}
use Rattle.board_core.proofs.RestKept.{rest_total, rest_kept}
use Rattle.board_core.proofs.leftover.rest.Goals as goal

-- the position with the hand that was made is the one with the rest
is_rest : (c : goal.After-hand_with_rest) → with_hand c.args.position.now c.other.result c.hand_with_rest.result ≡ board_with_rest c.args.position.now
is_rest c = ap (λ s. with_hand c.args.position.now s c.hand_with_rest.result) (c.other.ensures ∙ ap other c.side.ensures)
    ∙ ap (with_hand c.args.position.now (other c.args.position.now.side)) c.hand_with_rest.ensures

pub with_hand-requires : goal.with_hand-requires
with_hand-requires c = subst IsKept (sym (is_rest c)) (rest_kept c.args.position.now c.laws.ensures)

pub returns-clause-totals : goal.returns-clause-totals
returns-clause-totals c = λ k not_king. subst (λ (b : Board). count_of b k ≡ total_of k) (sym (c.with_hand.ensures ∙ is_rest c.before))
    (rest_total c.args.position.now c.laws.ensures k not_king)
