-- Searches that are made one after the other.
use Rattle.std.proofs.Common.{◌≡◌, ◌∙◌, ◌++◌, inl, inr, List, [], ◌∷◌, Contains, append_assoc, append-nil, ap, refl, sym, subst}
use Rattle.board_core.specs.declared.moves.Move.{Move}
use Rattle.board_core.specs.Board.{Board}
use Rattle.cert_text.specs.Certificate.{Mating}
use Rattle.cert_text.specs.declared.certificate.Certificate.{Certificate}
use Rattle.cert_text.specs.declared.certificate.Certificate.TheVariants as certificates
use Rattle.search_gate.specs.Stop.{Signal}
use Rattle.search_limits.specs.Sizes.{SettingsView}
use Rattle.search_limits.specs.declared.cause.Cause.{Cause}
use Rattle.visit_log.specs.Run.{WorkerView}
use Rattle.cook_report.specs.declared.report.Line.{Line}
use Rattle.cook_report.specs.declared.report.Line.TheVariants.{Mate, Escape, Unknown}
use Rattle.cook_search.specs.Search.{AreMade, IsMade, Searched, crews_in, crews_of}
use Rattle.cook_search.specs.Found.{AreOfAll, AreOfSearches, IsMateFound, IsNoEscape, IsOfSearch, IsOpenFrom, IsToldBy, ListsTooMany, StaysOpen}

pub made_behind : (p : Board) (s : SettingsView) (a b c : List Signal) (xs ys : List Searched) → AreMade p s a b xs → AreMade p s b c ys → AreMade p s a c (xs ++ ys)
made_behind p s a b c [] ys same then = subst (λ (told : List Signal). AreMade p s told c ys) same then
made_behind p s a b c (x ∷ xs) ys made then = (made.0, made.1, made_behind p s made.0 b c xs ys made.2 then)

pub made_one : (p : Board) (s : SettingsView) (a b : List Signal) (one : Searched) → IsMade p s a b one → AreMade p s a b (one ∷ [])
made_one p s a b one made = (b, made, refl)

crews_behind : (xs ys : List Searched) → crews_of (xs ++ ys) ≡ crews_of xs ++ crews_of ys
crews_behind [] ys = refl
crews_behind (x ∷ xs) ys =
    ap (λ (cs : List (List WorkerView)). crews_in x.end ++ cs) (crews_behind xs ys) ∙ sym (append_assoc (crews_in x.end) (crews_of xs) (crews_of ys))

pub crews_one : (one : Searched) → crews_of (one ∷ []) ≡ crews_in one.end
crews_one one = append-nil (crews_in one.end)

-- the workers that more searches brought stand behind those of the first
pub brought_behind : (crews now then : List (List WorkerView)) (xs ys : List Searched) → now ≡ crews ++ crews_of xs → then ≡ now ++ crews_of ys
    → then ≡ crews ++ crews_of (xs ++ ys)
brought_behind crews now then xs ys first more =
    more ∙ ap (λ (cs : List (List WorkerView)). cs ++ crews_of ys) first ∙ append_assoc crews (crews_of xs) (crews_of ys)
    ∙ ap (λ (cs : List (List WorkerView)). crews ++ cs) (sym (crews_behind xs ys))

-- what came out of some searches comes out of more

abbrev pub AreAmong : List Searched → List Searched → Type 0
AreAmong xs ys = (one : Searched) → Contains xs one → Contains ys one

pub of_search_by_more : (p : Board) (xs ys : List Searched) (check evasion : Move) (c : Certificate) → AreAmong xs ys → IsOfSearch p xs check evasion c
    → IsOfSearch p ys check evasion c
of_search_by_more p xs ys check evasion c among of = record { end = of.end; searched = among _ of.searched; of_note = of.of_note }

pub open_by_more : (p : Board) (xs ys : List Searched) (check evasion : Move) (cause : Cause) → AreAmong xs ys → StaysOpen p xs check evasion cause
    → StaysOpen p ys check evasion cause
open_by_more p xs ys check evasion cause among open_so = record { end = open_so.end; searched = among _ open_so.searched; undecided = open_so.undecided }

pub mate_by_more : (p : Board) (xs ys : List Searched) (check evasion : Move) → AreAmong xs ys → IsMateFound p xs check evasion → IsMateFound p ys check evasion
mate_by_more p xs ys check evasion among is = record {
  certificate = is.certificate;
  of_search = of_search_by_more p xs ys check evasion (certificates.Mate is.certificate) among is.of_search;
  mate = is.mate;
}

pub no_escape_by_more : (p : Board) (xs ys : List Searched) (check evasion : Move) → AreAmong xs ys → IsNoEscape p xs check evasion → IsNoEscape p ys check evasion
no_escape_by_more p xs ys check evasion among is = elim is [
  | inl mates ↦ inl (mate_by_more p xs ys check evasion among mates)
  | inr stays ↦ inr (stays.0, open_by_more p xs ys check evasion stays.0 among stays.1)
]

pub of_searches_by_more : (p : Board) (xs ys : List Searched) (check : Move) (evasions : List Move) (cs : List Mating) → AreAmong xs ys → AreOfSearches p xs check evasions cs
    → AreOfSearches p ys check evasions cs
of_searches_by_more p xs ys check [] [] among of = tt
of_searches_by_more p xs ys check [] (c ∷ cs) among of = absurd of
of_searches_by_more p xs ys check (evasion ∷ evasions) [] among of = absurd of
of_searches_by_more p xs ys check (evasion ∷ evasions) (c ∷ cs) among of =
    (of_search_by_more p xs ys check evasion (certificates.Mate c) among of.0, of_searches_by_more p xs ys check evasions cs among of.1)

of_all_by_more : (p : Board) (xs ys : List Searched) (check : Move) (cs : List Mating) → AreAmong xs ys → AreOfAll p xs check cs → AreOfAll p ys check cs
of_all_by_more p xs ys check cs among of = record {
  evasions = of.evasions;
  all = of.all;
  of_searches = of_searches_by_more p xs ys check of.evasions cs among of.of_searches;
}

open_from_by_more : (p : Board) (xs ys : List Searched) (check evasion : Move) (cause : Cause) → AreAmong xs ys → IsOpenFrom p xs check evasion cause
    → IsOpenFrom p ys check evasion cause
open_from_by_more p xs ys check evasion cause among from = record {
  evades = from.evades;
  stays = open_by_more p xs ys check evasion cause among from.stays;
  sooner = λ other is less. mate_by_more p xs ys check other among (from.sooner other is less);
  others = λ other is. no_escape_by_more p xs ys check other among (from.others other is);
}

many_by_more : (p : Board) (xs ys : List Searched) (check evasion : Move) (cause : Cause) → AreAmong xs ys → ListsTooMany p xs check evasion cause
    → ListsTooMany p ys check evasion cause
many_by_more p xs ys check evasion cause among many = record {
  is_cause = many.is_cause;
  evades = many.evades;
  certificates = many.certificates;
  of_all = of_all_by_more p xs ys check many.certificates among many.of_all;
  more = many.more;
}

pub told_by_more : (p : Board) (xs ys : List Searched) (line : Line) → AreAmong xs ys → IsToldBy p xs line → IsToldBy p ys line
told_by_more p xs ys (Mate check c) among is = record {
  certificates = is.certificates;
  of_all = of_all_by_more p xs ys check is.certificates among is.of_all;
  version = is.version;
  entries = is.entries;
  good = is.good;
  few = is.few;
}
told_by_more p xs ys (Escape check evasion c) among is = record {
  of_search = of_search_by_more p xs ys check evasion (certificates.Escape c) among is.of_search;
  sooner = λ other is_evasion less. no_escape_by_more p xs ys check other among (is.sooner other is_evasion less);
}
told_by_more p xs ys (Unknown check evasion cause) among is = elim is [
  | inl from ↦ inl (open_from_by_more p xs ys check evasion cause among from)
  | inr many ↦ inr (many_by_more p xs ys check evasion cause among many)
]
