use Rattle.std.proofs.Common.{◌≡◌, take}
use Rattle.mate_facts.specs.Entries.{positions_of}
use Rattle.cert_order.proofs.certificate.mate_certificate.Given as goal

abbrev pub invariant-loop-entry : goal.invariant-loop-entry
invariant-loop-entry l = l.positions.items ≡ positions_of (take l.entry-index l.entries)
