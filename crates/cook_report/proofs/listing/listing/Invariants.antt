use Rattle.std.proofs.Common.{◌≡◌, take}
use Rattle.mate_facts.specs.Entries.{positions_of}
use Rattle.cook_report.proofs.listing.listing.Given as goal

abbrev pub invariant-loop-entry : goal.invariant-loop-entry
invariant-loop-entry l = l.positions.items ≡ positions_of (take l.entry-index l.entries)
