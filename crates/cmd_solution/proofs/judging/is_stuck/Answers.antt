use Rattle.std.proofs.Common.{ℕ, sym, subst}
use Rattle.std.specs.Prelude.{IsTrue, nat_eq}
use Rattle.board_core.specs.declared.moves.Move.{Move}
use Rattle.shogi_rules.specs.Tsume.{IsEvasion}
use Rattle.cmd_solution.proofs.Replaying.{none_listed}
use Rattle.cmd_solution.proofs.judging.is_stuck.Goals as goal

pub returns : goal.returns
returns c =
    let P = λ (m : Move). IsEvasion c.args.problem.now.position.side c.args.position.now m in
    subst (λ (n : ℕ). (IsTrue (nat_eq n 0) → (e : Move) → P e → ⊥) × (((e : Move) → ¬ P e) → IsTrue (nat_eq n 0))) (sym c.len.ensures)
    (none_listed P c.in_ok-evasions.evasions c.in_ok-evasions.ensures)
