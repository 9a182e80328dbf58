-- The notes of what a valid certificate lists.
use Rattle.std.specs.Prelude.{List}
use Rattle.cert_text.specs.declared.certificate.Certificate.{Certificate}
use Rattle.cert_text.specs.declared.certificate.Certificate.TheVariants.{Mate, Escape}
use Rattle.notes.specs.Derivation.{Derivation}
use Rattle.notes.specs.Sets.{mate_leaves_of, escape_leaves_of}

-- The leaves of its entries, for its problem's attacker.
abbrev pub leaves_of : Certificate → List Derivation
leaves_of (Mate c) = mate_leaves_of c.version c.problem.side c.entries
leaves_of (Escape c) = escape_leaves_of c.version c.problem.side c.entries
