use Rattle.std.proofs.Common.{◌≡◌, ◌++◌, List, take}
use Rattle.board_core.specs.Board.{Board}
use Rattle.mate_facts.specs.declared.entry.MateEntry.{MateEntry}
use Rattle.cook_report.specs.Joining.{AreJoined, IsPlaced}
use Rattle.cook_report.proofs.join.join_all.Given as goal

abbrev pub invariant-loop-entry : goal.invariant-loop-entry
invariant-loop-entry l = record {
  placed : IsPlaced l.joined;
  joined : (p : Board) (seen : List MateEntry) → l.certificate.problem.side ≡ p.side → AreJoined p l.limit seen l.initial.joined.entries.items
      → AreJoined p l.limit (seen ++ take l.entry-index l.entry-items) l.joined.entries.items;
}
