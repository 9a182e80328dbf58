-- A certificate in version 2.
use Rattle.cert_text.specs.declared.certificate.Certificate.{Certificate}
use Rattle.cert_text.specs.declared.certificate.Certificate.TheVariants.{Mate, Escape}
use Rattle.hand_dominance.specs.declared.version.Version.TheVariants.{Two}

-- The certificate with the same claim, problem and entries, in version 2.
abbrev pub upgraded : Certificate → Certificate
upgraded (Mate c) = Mate (record { version = Two; problem = c.problem; entries = c.entries })
upgraded (Escape c) = Escape (record { version = Two; problem = c.problem; entries = c.entries })
