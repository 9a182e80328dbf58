-- How what ends the reading of a part ends that of the whole.
use Rattle.cert_text.specs.declared.fault.CertEnd.{CertEnd}
use Rattle.cert_text.specs.declared.fault.CertEnd.TheVariants as certificates
use Rattle.bound_text.specs.declared.fault.BoundEnd.{BoundEnd}
use Rattle.bound_text.specs.declared.fault.BoundEnd.TheVariants as bounds
use Rattle.shortest_text.specs.declared.fault.ShortestEnd.{ShortestEnd}
use Rattle.shortest_text.specs.declared.fault.ShortestEnd.TheVariants.{Fault, NoMemory}
use Rattle.shortest_text.specs.declared.fault.ShortestFault.TheVariants.{Certificate, Bound}

-- A fault of the certificate, or want of memory.
abbrev pub end_of_certificate : CertEnd → ShortestEnd
end_of_certificate (certificates.Fault fault) = Fault (Certificate fault)
end_of_certificate certificates.NoMemory = NoMemory

-- A fault of the bound, or want of memory.
abbrev pub end_of_bound : BoundEnd → ShortestEnd
end_of_bound (bounds.Fault fault) = Fault (Bound fault)
end_of_bound bounds.NoMemory = NoMemory
