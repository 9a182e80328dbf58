use Rattle.std.proofs.Common.{take}
use Rattle.cook_report.specs.Joined.{entries_in}
use Rattle.cook_report.specs.Joining.{AreJoined, IsPlaced}
use Rattle.cook_report.proofs.join.joined_entries.Given as goal

abbrev pub invariant-loop-certificate : goal.invariant-loop-certificate
invariant-loop-certificate l = record {
  placed : IsPlaced l.joined;
  joined : AreJoined l.problem.position l.limit (entries_in (take l.certificate-index l.certificates)) l.joined.entries.items;
}
