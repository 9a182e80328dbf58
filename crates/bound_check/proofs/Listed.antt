-- Where the entries of a bound and their positions stand.
use Rattle.std.proofs.Common.{◌≡◌, ◌≤◌, ◌↔◌, ℕ, List, get_or, arith, ap, sym, ◌∙◌}
use Rattle.std.specs.Prelude.{Some, slice_get}
use Rattle.std.specs.Option.{option_map}
use Rattle.std.proofs.lemmas.Option.{slice_get-map, get_or_from_slice_get, same_Some}
use Rattle.board_core.specs.Board.{Board}
use Rattle.mate_facts.specs.Entries.{AreApart}
use Rattle.list_laws.proofs.Standing.{contained, at_place, from_map}
use Rattle.bound_text.specs.declared.entry.BoundEntry.{BoundEntry}
use Rattle.bound_text.specs.Bound.{bounded_in}
use Rattle.bound_check.specs.Valid.{IsListedFrom}

abbrev position_of : BoundEntry → Board
position_of entry = entry.at

-- an entry that lists the position is the one that stands where the position does
listed_here : (entries : List BoundEntry) (place least : ℕ) (p : Board) (x : BoundEntry) → AreApart (bounded_in entries)
    → slice_get (bounded_in entries) place ≡ Some p → slice_get entries place ≡ Some x → IsListedFrom entries least p → least ≤ x.bound.number
listed_here entries place least p x apart found there l =
    let here = at_place entries l.entry l.listed in
    let stands : slice_get (bounded_in entries) l.listed.0 ≡ Some p = slice_get-map position_of entries l.listed.0 ∙ (ap (option_map position_of) here ∙ ap Some l.same) in
    let place_is = apart l.listed.0 place p stands found in
    let same = same_Some l.entry x (sym here ∙ (ap (slice_get entries) place_is ∙ there)) in
    let number = ap (λ (e : BoundEntry). e.bound.number) same in
    let enough = l.enough in
    omega arith

-- the position that stands at a place is listed with what the entry there says, and with nothing
-- more
pub listed_at : (entries : List BoundEntry) (place least : ℕ) (p : Board) (entry : BoundEntry) → AreApart (bounded_in entries)
    → slice_get (bounded_in entries) place ≡ Some p → entry ≡ get_or entries place entry
    → (least ≤ (get_or entries place entry).bound.number) ↔ IsListedFrom entries least p
listed_at entries place least p entry apart found is =
    let x = from_map position_of entries place p found in
    let same = get_or_from_slice_get entries place x.0 entry x.1 in
    let number = ap (λ (e : BoundEntry). e.bound.number) same in (
      (λ enough. record { entry = x.0; listed = contained entries place x.0 x.1; same = x.2; enough = omega arith }),
      (λ l. let h = listed_here entries place least p x.0 apart found x.1 l in omega arith),
    )
