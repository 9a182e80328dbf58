-- What is found among the positions of a list by their places.
use Rattle.std.proofs.Common.{◌≡◌, ◌<◌, ◌↔◌, inr, ℕ, List, arith, ap, get_or, length, sym, refl, subst}
use Rattle.std.specs.Prelude.{Some, None, Option, IfSome, IsTrue, is_some, slice_get}
use Rattle.std.proofs.lemmas.Option.{get_or_from_slice_get, slice_get_within}
use Rattle.list_laws.proofs.Standing.{contained, at_place, from_map}
use Rattle.bit_boards.specs.declared.piece.Side.{Side}
use Rattle.board_core.specs.Board.{Board}
use Rattle.mate_facts.specs.declared.entry.MateEntry.{MateEntry}
use Rattle.mate_facts.specs.Entries.{positions_of}
use Rattle.hand_dominance.specs.declared.version.Version.{Version}
use Rattle.hand_dominance.specs.BorneOut.{AreKept, CoversListed, CoversStays, IsCovered}
use Rattle.dominance_places.specs.declared.covering.CoverPlaces.{CoverPlaces}
use Rattle.dominance_places.specs.declared.covering.CoverPlaces.TheVariants.{Same, Boards}
use Rattle.dominance_places.specs.Covering.{AreCoverPlacesOf}
use Rattle.dominance_places.specs.Found.{IsFoundCovered}
use Rattle.cert_check.specs.Reached.{IsFoundFor, StandsLower}

-- the positions whose places are known keep what every position keeps
pub places_kept : (places : CoverPlaces) (positions : List Board) → AreCoverPlacesOf places positions → AreKept positions
places_kept (Same places) positions are = are.kept
places_kept (Boards boards by_key) positions are = are.0.kept

-- a position that is listed covers itself
pub covers_itself : CoversStays → (version : Version) (positions : List Board) (attacker : Side) (p : Board) (o : Option ℕ) (place : ℕ) → o ≡ Some place
    → IfSome o (λ at. slice_get positions at ≡ Some p) → IsCovered version positions attacker p
covers_itself stays version positions attacker p o place e at =
    let there = subst (λ (found : Option ℕ). IfSome found (λ at. slice_get positions at ≡ Some p)) e at in
    record { listed = p; inside = contained positions place p there; covers = stays version attacker p p refl }

-- what is found by the key of a mate's position stands among the entries
pub listed_at : (entries : List MateEntry) (p : Board) (o : Option ℕ) (place : ℕ) → o ≡ Some place
    → IfSome o (λ at. slice_get (positions_of entries) at ≡ Some p) → slice_get (positions_of entries) place ≡ Some p
listed_at entries p o place e at = subst (λ (found : Option ℕ). IfSome found (λ at. slice_get (positions_of entries) at ≡ Some p)) e at

pub listed_within : (entries : List MateEntry) (p : Board) (o : Option ℕ) (place : ℕ) → o ≡ Some place
    → IfSome o (λ at. slice_get (positions_of entries) at ≡ Some p) → place < length entries
listed_within entries p o place e at =
    let f = from_map (λ (x : MateEntry). x.at) entries place p (listed_at entries p o place e at) in
    slice_get_within entries place f.0 f.1

-- an entry of lower rank with the position itself is one that it covers
pub stands_lower : CoversStays → (version : Version) (entries : List MateEntry) (attacker : Side) (rank : ℕ) (p : Board) (place : ℕ) (entry : MateEntry)
    → slice_get (positions_of entries) place ≡ Some p → (get_or entries place entry).rank.number < rank
    → StandsLower version entries attacker rank p place
stands_lower stays version entries attacker rank p place entry there lower =
    let f = from_map (λ (e : MateEntry). e.at) entries place p there in
    let same = ap (λ (e : MateEntry). e.rank.number) (get_or_from_slice_get entries place f.0 entry f.1) in
    record {
      stands = record { entry = f.0; there = f.1; covers = stays version attacker p f.0.at (sym f.2) };
      lower = omega (arith, same, lower);
    }

-- what is found without a rank is found for each
pub for_rank : (version : Version) (entries : List MateEntry) (attacker : Side) (rank : ℕ) (p q : Board) (o : Option ℕ) → p ≡ q
    → IsFoundCovered version entries attacker p o → IsFoundFor version entries attacker rank q o
for_rank version entries attacker rank p q None e f = subst (λ (b : Board). IsFoundCovered version entries attacker b None) e f
for_rank version entries attacker rank p q (Some place) e f = inr (subst (λ (b : Board). IsFoundCovered version entries attacker b (Some place)) e f)

-- what is found is listed
pub found_within : (version : Version) (entries : List MateEntry) (attacker : Side) (p : Board) (o : Option ℕ) → IsFoundCovered version entries attacker p o
    → IfSome o (λ place. place < length entries)
found_within version entries attacker p None f = tt
found_within version entries attacker p (Some place) f = slice_get_within entries place f.stands.entry f.stands.there

-- something is found exactly where the position covers a listed one
pub found_some : (version : Version) (entries : List MateEntry) (attacker : Side) (p : Board) (o : Option ℕ) → IsFoundCovered version entries attacker p o
    → IsTrue (is_some o) ↔ CoversListed version entries attacker p
found_some version entries attacker p None f = (
  (λ yes. absurd (cc)),
  (λ l. absurd (f l.listed.0 (record { entry = l.entry; there = at_place entries l.entry l.listed; covers = l.covers }))),
)
found_some version entries attacker p (Some place) f = (
  (λ yes. record { entry = f.stands.entry; listed = contained entries place f.stands.entry f.stands.there; covers = f.stands.covers }),
  (λ l. refl),
)
