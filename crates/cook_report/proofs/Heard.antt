-- What the checker finds out about lines.
use Rattle.std.proofs.Common.{◌≡◌, ◌<◌, ◌≤◌, ◌↔◌, ℕ, suc, List, [], ◌∷◌, Option, length, map, get_or, Contains, arith, refl, sym, ◌∙◌, ap, subst}
use Rattle.std.specs.Prelude.{Some, None, Bool, true, false, not, is_some, slice_get, IsTrue, IsSomeAnd, Result, Ok, Err, IfOk}
use Rattle.std.proofs.lemmas.List.{length-map}
use Rattle.list_laws.proofs.Standing.{contained, at_place}
use Rattle.bit_boards.specs.declared.piece.Side.{Side}
use Rattle.board_core.specs.declared.moves.Move.{Move}
use Rattle.board_core.specs.Board.{Board}
use Rattle.board_core.specs.Order.{Lists}
use Rattle.shogi_rules.specs.Rules.{after}
use Rattle.shogi_rules.specs.Tsume.{IsEvasion}
use Rattle.mate_facts.specs.declared.entry.MateEntry.{MateEntry}
use Rattle.hand_dominance.specs.declared.version.Version.{Version}
use Rattle.hand_dominance.specs.BorneOut.{AreKept, CoversListed, IsBorneOut}
use Rattle.mate_facts.specs.Entries.{positions_of}
use Rattle.dominance_places.specs.declared.covering.CoverPlaces.{CoverPlaces}
use Rattle.dominance_places.specs.declared.covering.CoverPlaces.TheVariants.{Same, Boards}
use Rattle.dominance_places.specs.Covering.{AreCoverPlacesOf}
use Rattle.dominance_places.specs.Found.{IsFoundCovered}
use Rattle.cert_text.specs.Certificate.{Mating}
use Rattle.cert_text.specs.Kinds.{positions_in}
use Rattle.cert_text.specs.declared.certificate.Certificate.TheVariants as certificates
use Rattle.cert_check.specs.declared.hearing.Objection.{Objection}
use Rattle.cert_check.specs.declared.verdict.Why.{Why}
use Rattle.cert_check.specs.declared.verdict.Why.TheVariants.{RootMissing, NotACheck, EvasionOutside, RankNotLower, CheckUnanswered}
use Rattle.cert_check.specs.Hearing.{Case, IsFoundIn}
use Rattle.cert_check.specs.Reasons.{MateReason}
use Rattle.cook_report.specs.declared.report.Line.{Line}
use Rattle.cook_report.specs.Report.{check_of}
use Rattle.cook_report.specs.Valid.{AreAllBorneOut}
use Rattle.cook_report.specs.Line.{IsLedTo}

-- 1. Outcomes.

pub both_ok : {E : Type 0} {X : Type 0} (P Q R : X → Type 0) (r : Result X E) → ((x : X) → P x → Q x → R x) → IfOk r P → IfOk r Q → IfOk r R
both_ok P Q R (Ok x) f p q = f x p q
both_ok P Q R (Err e) f p q = tt

pub not_none : (some none : Bool) → some ≡ not none → none ≡ false → some ≡ true
not_none some none is e = is ∙ ap not e

pub not_some : (some none : Bool) → some ≡ not none → none ≡ true → some ≡ false
not_some some none is e = is ∙ ap not e

is_none_of : (none : Bool) → false ≡ not none → none ≡ true
is_none_of true e = refl
is_none_of false e = absurd (cc)

-- 2. The checks of lines.

pub all_same : (lines : List Line) (moves : List Move) → length lines ≡ length moves
    → ((k : ℕ) (line : Line) (m : Move) → slice_get lines k ≡ Some line → slice_get moves k ≡ Some m → check_of line ≡ m) → map check_of lines ≡ moves
all_same [] [] many each = refl
all_same [] (m ∷ moves) many each = absurd (omega (arith, many))
all_same (line ∷ lines) [] many each = absurd (omega (arith, many))
all_same (line ∷ lines) (m ∷ moves) many each =
    let here = each 0 line m refl refl in
    let more = all_same lines moves (omega (arith, many)) (λ k l n at there. each (suc k) l n at there) in
    λ i. here i ∷ more i

-- 3. Where evasions lead.

pub led_all : (attacker : Side) (checked : Board) (c : Mating) (items evasions : List Move) (n : ℕ) → Lists (IsEvasion attacker checked) evasions
    → items ≡ evasions → length items ≤ n
    → ((k : ℕ) (a : Move) → k < n → get_or items k a ≡ a → CoversListed c.version c.entries attacker (after checked a)) → IsLedTo attacker checked c
led_all attacker checked c items evasions n lists same all below evasion is =
    let there = subst (λ (ms : List Move). Contains ms evasion) (sym same) (lists.complete evasion is) in
    let inside = there.1 in
    below there.0 evasion (omega (arith, inside, all)) there.2

pub evasion_at : (attacker : Side) (checked : Board) (items evasions : List Move) (i : ℕ) (m : Move) → Lists (IsEvasion attacker checked) evasions → items ≡ evasions
    → i < length items → m ≡ get_or items i m → IsEvasion attacker checked m
evasion_at attacker checked items evasions i m lists same inside is =
    lists.sound m (subst (λ (ms : List Move). Contains ms m) same (i, inside, sym is))

-- what is found is that a position covers a listed one
some_covered : (version : Version) (entries : List MateEntry) (attacker : Side) (position : Board) (o : Option ℕ) → IsFoundCovered version entries attacker position o
    → is_some o ≡ true → CoversListed version entries attacker position
some_covered version entries attacker position None found some = absurd (cc)
some_covered version entries attacker position (Some place) found some =
    record { entry = found.stands.entry; listed = contained entries place found.stands.entry found.stands.there; covers = found.stands.covers }

none_covered : (version : Version) (entries : List MateEntry) (attacker : Side) (position : Board) (o : Option ℕ) → IsFoundCovered version entries attacker position o
    → is_some o ≡ false → ¬ CoversListed version entries attacker position
none_covered version entries attacker position None found lacks l =
    found l.listed.0 (record { entry = l.entry; there = at_place entries l.entry l.listed; covers = l.covers })
none_covered version entries attacker position (Some place) found lacks l = absurd (cc)

-- the same with names of their own for what is equal
found_at : (its version : Version) (items entries : List MateEntry) (one attacker : Side) (next position : Board) (o : Option ℕ) → its ≡ version → items ≡ entries
    → one ≡ attacker → next ≡ position → IsFoundCovered its items one next o → IsFoundCovered version entries attacker position o
found_at its version items entries one attacker next position o v e a p found =
    subst (λ (b : Board). IsFoundCovered version entries attacker b o) p
    (subst (λ (s : Side). IsFoundCovered version entries s next o) a
    (subst (λ (es : List MateEntry). IsFoundCovered version es one next o) e
    (subst (λ (w : Version). IsFoundCovered w items one next o) v found)))

pub covers_there : (its version : Version) (items entries : List MateEntry) (one attacker : Side) (next position : Board) (o : Option ℕ) → its ≡ version
    → items ≡ entries → one ≡ attacker → next ≡ position → IsFoundCovered its items one next o → is_some o ≡ true → CoversListed version entries attacker position
covers_there its version items entries one attacker next position o v e a p found some =
    some_covered version entries attacker position o (found_at its version items entries one attacker next position o v e a p found) some

pub covers_none : (its version : Version) (items entries : List MateEntry) (one attacker : Side) (next position : Board) (o : Option ℕ) → its ≡ version
    → items ≡ entries → one ≡ attacker → next ≡ position → IsFoundCovered its items one next o → is_some o ≡ false → ¬ CoversListed version entries attacker position
covers_none its version items entries one attacker next position o v e a p found lacks =
    none_covered version entries attacker position o (found_at its version items entries one attacker next position o v e a p found) lacks

-- the positions whose places are known keep what every position keeps
all_kept : (places : CoverPlaces) (positions : List Board) → AreCoverPlacesOf places positions → AreKept positions
all_kept (Same places) positions are = are.kept
all_kept (Boards boards by_key) positions are = are.0.kept

pub places_kept : (places : CoverPlaces) (entries items : List MateEntry) → items ≡ entries → AreCoverPlacesOf places (positions_of items) → AreKept (positions_of entries)
places_kept places entries items same are = subst (λ (es : List MateEntry). AreKept (positions_of es)) same (all_kept places (positions_of items) are)

-- 4. What is heard of entries.

speaks_against : (version : Version) (entries : List MateEntry) (attacker : Side) (entry : MateEntry) (why : Why) → MateReason version entries attacker entry why
    → ¬ IsBorneOut version entries attacker entry
speaks_against version entries attacker entry RootMissing r b = r
speaks_against version entries attacker entry (NotACheck m) r b = r.1 b.check
speaks_against version entries attacker entry (EvasionOutside e) r b =
    let l = b.evasions e r.0 in r.1 (record { entry = l.entry; listed = l.listed; covers = l.covers })
speaks_against version entries attacker entry (RankNotLower e) r b = r.1.not_lower (b.evasions e r.0)
speaks_against version entries attacker entry (CheckUnanswered m) r b = r

of_some : {X : Type 0} (P : X → Type 0) (o : Option X) → IsSomeAnd o P → (x : X) × (o ≡ Some x) × P x
of_some P None h = absurd h
of_some P (Some x) h = (x, refl, h)

some_of : {X : Type 0} (P : X → Type 0) (o : Option X) (x : X) → o ≡ Some x → IsSomeAnd o P → P x
some_of {X} P o x is h = subst (λ (q : Option X). IsSomeAnd q P) is h

heard_so : (c : Mating) (attacker : Side) (count : ℕ) (found : Option Objection) (none : Bool) → length c.entries ≤ count
    → IsFoundIn (certificates.Mate c) attacker 0 count found → is_some found ≡ not none → IsTrue none ↔ AreAllBorneOut attacker c
heard_so c attacker count None none all holds is = (
  (λ _ entry there.
      let inside = there.1 in
      some_of (λ (e : MateEntry). IsBorneOut c.version c.entries attacker e) (slice_get c.entries there.0) entry (at_place c.entries entry there)
      (holds there.0 (omega arith) (omega (arith, inside, all)))),
  (λ _. is_none_of none is),
)
heard_so c attacker count (Some found) none all objects is = (
  (λ yes. absurd (cc)),
  (λ borne.
      let against = of_some (λ (e : MateEntry). MateReason c.version c.entries attacker e found.why) (slice_get c.entries found.place) objects.first.0 in
      absurd (speaks_against c.version c.entries attacker against.0 found.why against.2 (borne against.0 (contained c.entries found.place against.0 against.1)))),
)

-- of the copy of a certificate
pub heard : (hearing : Case) (c copy : Mating) (p : Board) (count : ℕ) (found : Option Objection) (none : Bool) → copy ≡ c
    → hearing ≡ record { certificate = certificates.Mate copy; problem = p } → count ≡ length (positions_in hearing.certificate)
    → IsFoundIn hearing.certificate hearing.problem.side 0 count found → is_some found ≡ not none → IsTrue none ↔ AreAllBorneOut p.side c
heard hearing c copy p count found none same opened many are is =
    let case = opened ∙ ap (λ (m : Mating). record { certificate = certificates.Mate m; problem = p }) same in
    let long = many ∙ (ap (λ (h : Case). length (positions_in h.certificate)) case ∙ length-map c.entries (λ (e : MateEntry). e.at)) in
    heard_so c p.side count found none (omega (arith, long)) (subst (λ (h : Case). IsFoundIn h.certificate h.problem.side 0 count found) case are) is
