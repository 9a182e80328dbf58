use Rattle.std.proofs.Common.{◌+◌, ◌*◌, ◌≤◌, ℕ}
use Rattle.list_laws.proofs.Counted.{AreBefore}
use Rattle.shogi_rules.specs.Tsume.{IsCheck}
use Rattle.check_moves.proofs.counting.count_drop_checks.Given as goal

abbrev pub invariant-loop-kind : goal.invariant-loop-kind
invariant-loop-kind l = record {
  few : l.count ≤ 81 * l.kind-index;
  are : (before : ℕ) → AreBefore (IsCheck l.position.side l.position) 13122 before
      → AreBefore (IsCheck l.position.side l.position) (13122 + 81 * l.kind-index) (before + l.count);
}
