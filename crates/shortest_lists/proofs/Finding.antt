-- What the entries say that are found by their positions.
use Rattle.std.proofs.Common.{◌≡◌, ◌≤◌, ◌∙◌, ℕ, List, get_or, Contains, arith, sym, subst, ap}
use Rattle.std.specs.Prelude.{Some, slice_get}
use Rattle.std.proofs.lemmas.Option.{get_or_from_slice_get, slice_get-map}
use Rattle.std.specs.Option.{option_map}
use Rattle.board_core.specs.Board.{Board}
use Rattle.board_core.specs.Text.{HasText}
use Rattle.mate_facts.specs.declared.entry.MateEntry.{MateEntry}
use Rattle.mate_facts.specs.Entries.{AreApart, IsListedWith, positions_of}
use Rattle.mate_facts.specs.Laws.{EntriesApart, EntriesAreFound}
use Rattle.cert_text.specs.Certificate.{Mating, IsMating}
use Rattle.bound_text.specs.Bound.{bounded_in}
use Rattle.bound_text.specs.declared.entry.BoundEntry.{BoundEntry}
use Rattle.shortest_lists.specs.Line.{IsListedMove}
use Rattle.bound_check.specs.Valid.{IsListedFrom}
use Rattle.list_laws.proofs.Standing.{contained, at_place, from_map}

module _ (found : EntriesAreFound) (c : Mating) (entries : List MateEntry) (place : ℕ) (b : Board) (entry : MateEntry) (same : entries ≡ c.entries)
    (at : slice_get (positions_of c.entries) place ≡ Some b) (is : entry ≡ get_or entries place entry) where
  entry_there : Contains c.entries entry × (entry.at ≡ b)
  entry_there = found c.entries place b entry at (subst (λ (es : List MateEntry). entry ≡ get_or es place entry) same is)

  pub move_there : IsListedMove c b (get_or entries place entry).by
  move_there = let there = entry_there in
      record { entry = entry; listed = there.0; same = there.1; has_move = ap (λ (e : MateEntry). e.by) is }

  pub text_there : IsMating c → HasText (get_or entries place entry).by
  text_there kept = let there = entry_there in subst (λ (e : MateEntry). HasText e.by) is (kept.listed entry there.0).has_text

  pub rank_there : (rank : ℕ) → (get_or entries place entry).rank.number ≡ rank → IsListedWith c.entries rank b
  rank_there rank its = let there = entry_there in
      record { entry = entry; listed = there.0; same = there.1; has_rank = ap (λ (e : MateEntry). e.rank.number) is ∙ its }

  pub rank_only : EntriesApart → AreApart (positions_of c.entries) → (rank : ℕ) → IsListedWith c.entries rank b → (get_or entries place entry).rank.number ≡ rank
  rank_only law apart rank ranked =
      let there = entry_there in
      let one = law c.entries apart entry ranked.entry there.0 ranked.listed (there.1 ∙ sym ranked.same) in
      sym (ap (λ (e : MateEntry). e.rank.number) is) ∙ (ap (λ (e : MateEntry). e.rank.number) one ∙ ranked.has_rank)

abbrev place_in : BoundEntry → Board
place_in entry = entry.at

module _ (bounds entries : List BoundEntry) (place : ℕ) (b : Board) (entry : BoundEntry) (same : entries ≡ bounds)
    (at : slice_get (bounded_in bounds) place ≡ Some b) where
  number_at : (x : BoundEntry) → slice_get bounds place ≡ Some x → x.bound.number ≡ (get_or entries place entry).bound.number
  number_at x there =
      ap (λ (e : BoundEntry). e.bound.number)
      (sym (subst (λ (es : List BoundEntry). get_or es place entry ≡ x) (sym same) (get_or_from_slice_get bounds place x entry there)))

  pub listed_there : (least : ℕ) → least ≤ (get_or entries place entry).bound.number → IsListedFrom bounds least b
  listed_there least enough =
      let x = from_map place_in bounds place b at in
      let number = number_at x.0 x.1 in
      record { entry = x.0; listed = contained bounds place x.0 x.1; same = x.2; enough = omega (arith, number, enough) }

  pub number_there : AreApart (bounded_in bounds) → (least : ℕ) → IsListedFrom bounds least b → least ≤ (get_or entries place entry).bound.number
  number_there apart least from =
      let stands = at_place bounds from.entry from.listed in
      let one = apart from.listed.0 place b
      (slice_get-map place_in bounds from.listed.0 ∙ (ap (option_map place_in) stands ∙ ap (λ (q : Board). Some q) from.same)) at in
      let number = number_at from.entry (subst (λ (i : ℕ). slice_get bounds i ≡ Some from.entry) one stands) in
      let enough = from.enough in
      omega (arith, number, enough)
