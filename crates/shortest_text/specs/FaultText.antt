-- How the faults of a text about the shortest mate print.
use Rattle.std.specs.Prelude.{ℕ, List}
use Rattle.cert_text.specs.FaultText.{certificate_fault_text}
use Rattle.bound_text.specs.FaultText.{bad_bound_text}
use Rattle.shortest_text.specs.declared.fault.ShortestFault.{ShortestFault}
use Rattle.shortest_text.specs.declared.fault.ShortestFault.TheVariants.{Certificate, Bound}

-- As the fault of the part prints.
abbrev pub shortest_fault_text : ShortestFault → List ℕ
shortest_fault_text (Certificate fault) = certificate_fault_text fault
shortest_fault_text (Bound fault) = bad_bound_text fault
