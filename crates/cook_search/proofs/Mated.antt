-- A check behind each of whose evasions stands a mate.
use Rattle.std.proofs.Common.{◌≡◌, ◌<◌, ◌∙◌, ℕ, zero, suc, List, [], ◌∷◌, Contains, length, arith, ap, inr, refl, sym, subst}
use Rattle.std.specs.Prelude.{slice_get, Some}
use Rattle.std.proofs.lemmas.Option.{same_Some as same_one}
use Rattle.std.proofs.lemmas.List.Elements.{Contains-append_right, Contains-append_left, Contains-push}
use Rattle.board_core.specs.declared.moves.Move.{Move}
use Rattle.board_core.specs.Board.{Board}
use Rattle.list_laws.proofs.Standing.{at_place, first_of, none_in_none}
use Rattle.cert_text.specs.Certificate.{Mating}
use Rattle.cert_text.specs.declared.certificate.Certificate.TheVariants as certificates
use Rattle.cert_text.specs.declared.limits.TheConstants.{MOST_ENTRIES}
use Rattle.cert_check.specs.Valid.{ValidMate}
use Rattle.search_limits.specs.declared.cause.Cause.TheVariants.{Entries}
use Rattle.cook_report.specs.declared.report.Line.TheVariants.{Unknown}
use Rattle.cook_report.specs.Joined.{AnswerEach, AreValid, HaveMoreThan, entries_in}
use Rattle.cook_search.specs.Search.{Searched}
use Rattle.cook_search.specs.Found.{AreOfSearches, IsOfSearch}
use Rattle.cook_search.specs.Inside.{AreShown, IsMated}
use Rattle.cook_search.proofs.Walking.{turn_behind}

-- each certificate is behind one of the evasions
record IsBehindOne (p : Board) (searches : List Searched) (check : Move) (evasions : List Move) (c : Mating) : Type 0 where
  evasion : Move
  there : Contains evasions evasion
  of_search : IsOfSearch p searches check evasion (certificates.Mate c)

each_behind : (p : Board) (searches : List Searched) (check : Move) (evasions : List Move) (cs : List Mating) → AreOfSearches p searches check evasions cs
    → (place : ℕ) (c : Mating) → slice_get cs place ≡ Some c → IsBehindOne p searches check evasions c
each_behind p searches check [] [] of place c at = absurd (cc)
each_behind p searches check [] (d ∷ cs) of place c at = absurd of
each_behind p searches check (e ∷ es) [] of place c at = absurd of
each_behind p searches check (e ∷ es) (d ∷ cs) of zero c at = record {
  evasion = e;
  there = Contains-append_left (e ∷ []) es e (Contains-push [] e);
  of_search = subst (λ (m : Mating). IsOfSearch p searches check e (certificates.Mate m)) (same_one d c at) of.0;
}
each_behind p searches check (e ∷ es) (d ∷ cs) of (suc place) c at =
    let behind = each_behind p searches check es cs of.1 place c at in
    record { evasion = behind.evasion; there = Contains-append_right (e ∷ []) es behind.evasion behind.there; of_search = behind.of_search }

-- each evasion has one of the certificates behind it
record HasOneBehind (p : Board) (searches : List Searched) (check : Move) (cs : List Mating) (evasion : Move) : Type 0 where
  certificate : Mating
  there : Contains cs certificate
  of_search : IsOfSearch p searches check evasion (certificates.Mate certificate)

one_behind : (p : Board) (searches : List Searched) (check : Move) (evasions : List Move) (cs : List Mating) → AreOfSearches p searches check evasions cs
    → (place : ℕ) (evasion : Move) → slice_get evasions place ≡ Some evasion → HasOneBehind p searches check cs evasion
one_behind p searches check [] cs of place evasion at = absurd (cc)
one_behind p searches check (e ∷ es) [] of place evasion at = absurd of
one_behind p searches check (e ∷ es) (d ∷ cs) of zero evasion at = record {
  certificate = d;
  there = Contains-append_left (d ∷ []) cs d (Contains-push [] d);
  of_search = subst (λ (m : Move). IsOfSearch p searches check m (certificates.Mate d)) (same_one e evasion at) of.0;
}
one_behind p searches check (e ∷ es) (d ∷ cs) of (suc place) evasion at =
    let behind = one_behind p searches check es cs of.1 place evasion at in
    record { certificate = behind.certificate; there = Contains-append_right (d ∷ []) cs behind.certificate behind.there; of_search = behind.of_search }

-- the certificates' problems have the attacker to move
pub same_turns : (p : Board) (searches : List Searched) (check : Move) (evasions : List Move) (cs : List Mating) → AreShown p searches check evasions cs
    → (c : Mating) → Contains cs c → c.problem.side ≡ p.side
same_turns p searches check evasions cs shown c there =
    let behind = each_behind p searches check evasions cs shown.of_searches there.0 c (at_place cs c there) in
    ap (λ (b : Board). b.side) behind.of_search.of_note.valid.problem ∙ turn_behind p check behind.evasion (shown.all.sound behind.evasion behind.there)

-- each is valid for the problem that it is about
pub valid_each : (p : Board) (searches : List Searched) (check : Move) (evasions : List Move) (cs : List Mating) → AreShown p searches check evasions cs → AreValid cs
valid_each p searches check evasions cs shown c there =
    let behind = each_behind p searches check evasions cs shown.of_searches there.0 c (at_place cs c there) in
    let valid = behind.of_search.of_note.valid in
    subst (ValidMate c) (sym valid.problem) valid

-- each evasion leads to the problem of one
pub answer_each : (p : Board) (searches : List Searched) (check : Move) (evasions : List Move) (cs : List Mating) → AreShown p searches check evasions cs
    → AnswerEach cs p check
answer_each p searches check evasions cs shown evasion is =
    let there = shown.all.complete evasion is in
    let behind = one_behind p searches check evasions cs shown.of_searches there.0 evasion (at_place evasions evasion there) in
    (behind.certificate, behind.there, behind.of_search.of_note.valid.problem)

-- certificates that list something are behind an evasion
pub some_evades : (p : Board) (searches : List Searched) (check : Move) (evasions : List Move) (cs : List Mating) (n : ℕ) → AreShown p searches check evasions cs
    → HaveMoreThan n (entries_in cs) → 0 < length evasions
some_evades p searches check evasions [] n shown above =
    let one = first_of above.positions (omega (arith, above.more)) in
    absurd (none_in_none one.0 (above.listed one.0 one.1))
some_evades p searches check evasions (c ∷ cs) n shown above =
    let behind = each_behind p searches check evasions (c ∷ cs) shown.of_searches 0 c refl in
    let inside = behind.there.1 in
    omega (arith, inside)

-- where they list too many positions, the line tells so of one of the evasions
pub many_told : (p : Board) (searches : List Searched) (check evasion : Move) (evasions : List Move) (cs : List Mating) → Contains evasions evasion
    → AreShown p searches check evasions cs → HaveMoreThan MOST_ENTRIES (entries_in cs) → IsMated p searches check (Unknown check evasion (Entries MOST_ENTRIES))
many_told p searches check evasion evasions cs there shown above =
    let evades = shown.all.sound evasion there in
    record {
      of_check = refl;
      true_of = evades;
      kept = tt;
      told_by = inr (record {
        is_cause = refl;
        evades = evades;
        certificates = cs;
        of_all = record { evasions = evasions; all = shown.all; of_searches = shown.of_searches };
        more = above;
      });
    }
