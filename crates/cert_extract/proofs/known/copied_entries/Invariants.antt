use Rattle.std.proofs.Common.{◌≡◌, take, Contains}
use Rattle.board_core.specs.Kept.{IsKept}
use Rattle.mate_facts.specs.declared.entry.MateEntry.{MateEntry}
use Rattle.cert_extract.proofs.known.copied_entries.Given as goal

abbrev pub invariant-loop-entry : goal.invariant-loop-entry
invariant-loop-entry l = (l.copy.items ≡ take l.entry-index l.entries) × ((entry : MateEntry) → Contains l.copy.items entry → IsKept entry.at)
