use Rattle.std.proofs.Common.{List, rules, sym, subst}
use Rattle.board_core.specs.declared.moves.Move.{Move}
use Rattle.board_core.specs.Order.{Lists}
use Rattle.shogi_rules.specs.Tsume.{IsEvasion}
use Rattle.kif_record.proofs.Mated.{mated_where_none, other_side}
use Rattle.kif_record.proofs.record.is_mated.Goals as goal

pub returns : goal.returns
returns c = mated_where_none c.args.problem.now.position.side c.args.position.now c.as_slice.result.now c.is_empty.result (other_side _ _ (λ e. search rules))
    (subst (λ (moves : List Move). Lists (IsEvasion c.args.problem.now.position.side c.args.position.now) moves) (sym c.as_slice.ensures.moves) c.in_ok-evasions.ensures) c.is_empty.ensures
