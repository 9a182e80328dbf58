-- What is said of a certificate of either kind.
use Rattle.std.specs.Prelude.{List}
use Rattle.hand_dominance.specs.declared.version.Version.{Version}
use Rattle.board_core.specs.Board.{Board}
use Rattle.cert_text.specs.declared.certificate.Certificate.{Certificate}
use Rattle.cert_text.specs.declared.certificate.Certificate.TheVariants.{Mate, Escape}
use Rattle.cert_text.specs.declared.head.Claim.{Claim}
use Rattle.cert_text.specs.declared.head.Claim.TheVariants as claims
use Rattle.cert_text.specs.Certificate.{IsMating, IsEscaping}
use Rattle.mate_facts.specs.Entries.{positions_of}

-- What a certificate claims of its problem.
abbrev pub claim_of : Certificate → Claim
claim_of (Mate c) = claims.Mate
claim_of (Escape c) = claims.Escape

-- The version that a certificate is of.
abbrev pub version_of : Certificate → Version
version_of (Mate c) = c.version
version_of (Escape c) = c.version

-- The position that a certificate is about.
abbrev pub problem_of : Certificate → Board
problem_of (Mate c) = c.problem
problem_of (Escape c) = c.problem

-- The positions that a certificate lists.
abbrev pub positions_in : Certificate → List Board
positions_in (Mate c) = positions_of c.entries
positions_in (Escape c) = c.entries

-- What a certificate of either kind keeps.
abbrev pub IsKeptBy : Certificate → Type 0
IsKeptBy (Mate c) = IsMating c
IsKeptBy (Escape c) = IsEscaping c
