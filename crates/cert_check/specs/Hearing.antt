-- A certificate and the position that it is judged for, and what is found among some of its
-- entries.
use Rattle.std.specs.Prelude.{◌≡◌, ◌<◌, ◌≤◌, ℕ, Bool, true, false, Option, Some, None}
use Rattle.bit_boards.specs.declared.piece.Side.{Side}
use Rattle.board_core.specs.Board.{Board}
use Rattle.dominance_places.specs.declared.covering.CoverPlaces.{CoverPlaces}
use Rattle.dominance_places.specs.Covering.{AreCoverPlacesOf, version_of}
use Rattle.cert_text.specs.declared.certificate.Certificate.{Certificate}
use Rattle.cert_text.specs.Kinds.{problem_of, positions_in}
use Rattle.cert_text.specs.Kinds as certificates
use Rattle.cert_check.specs.Reasons.{EntryHolds, EntryReason, IsFirstReason, RootReason, StandsFor}
use Rattle.cert_check.specs.declared.hearing.Objection.{Objection}
use Rattle.cert_check.specs.declared.verdict.Why.TheVariants.{RootMissing}

-- A case: a certificate, and the position that it is judged for.
pub record Case : Type 0 where
  pub certificate : Certificate
  pub problem : Board

-- Whether a certificate is about the position, and a listed one stands for it; where not, that is a
-- reason against it.
abbrev pub IsRootTold : Certificate → Board → Bool → Type 0
IsRootTold c p true = (problem_of c ≡ p) × StandsFor c p
IsRootTold c p false = RootReason c p RootMissing

-- What is found out before the entries are heard: where the positions of the certificate stand, as
-- its version asks, and whether it is about the position and a listed one stands for it.
pub record IsOpened (found : CoverPlaces) (told : Bool) (c : Certificate) (p : Board) : Type 0 where
  pub version : version_of found ≡ certificates.version_of c
  pub places : AreCoverPlacesOf found (positions_in c)
  pub root : IsRootTold c p told

-- The first objection among the entries from one place on and before another: its entry is one of
-- these, those before it hold what they have to, and its reason is the first against its entry.
pub record IsFirstAmong (c : Certificate) (attacker : Side) (from to : ℕ) (found : Objection) : Type 0 where
  pub begins : from ≤ found.place
  pub ends : found.place < to
  pub sooner : (place : ℕ) → from ≤ place → place < found.place → EntryHolds c attacker place
  pub first : IsFirstReason (EntryHolds c attacker found.place) (EntryReason c attacker found.place) (Some found.why)

-- What is found among the entries from one place on and before another, counted from 0: nothing
-- where each holds what its kind has to, else the first objection.
abbrev pub IsFoundIn : Certificate → Side → ℕ → ℕ → Option Objection → Type 0
IsFoundIn c attacker from to None = (place : ℕ) → from ≤ place → place < to → EntryHolds c attacker place
IsFoundIn c attacker from to (Some found) = IsFirstAmong c attacker from to found
