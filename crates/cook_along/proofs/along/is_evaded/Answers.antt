use Rattle.std.proofs.Common.{ℕ, sym, subst}
use Rattle.std.specs.Prelude.{IsTrue, nat_lt}
use Rattle.board_core.specs.declared.moves.Move.{Move}
use Rattle.board_core.specs.Board.{Board}
use Rattle.board_core.specs.Order.{Lists}
use Rattle.shogi_rules.specs.Rules.{after}
use Rattle.shogi_rules.specs.Tsume.{IsEvasion}
use Rattle.cook_along.proofs.Turning.{some_listed}
use Rattle.cook_along.proofs.along.is_evaded.Goals as goal

pub returns : goal.returns
returns c =
    let p = c.args.problem.now.position in
    let P = λ (m : Move). IsEvasion p.side (after p c.args.check) m in
    subst (λ (n : ℕ). (IsTrue (nat_lt 0 n) → (m : Move) × P m) × ((m : Move) × P m → IsTrue (nat_lt 0 n))) (sym c.len.ensures)
    (some_listed P c.in_ok-evasions.evasions
    (subst (λ (b : Board). Lists (IsEvasion p.side b) c.in_ok-evasions.evasions) c.apply.ensures.position c.in_ok-evasions.ensures))
