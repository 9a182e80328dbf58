-- What was found among the first of some places.
use Rattle.std.proofs.Common.{◌≡◌, ◌<◌, ◌≤◌, ◌+◌, ◌⊎◌, inl, inr, below_more, ℕ, option_map, List, length, get_or, Option, Some, None, slice_get, sym, subst, ap, ◌∙◌, arith}
use Rattle.std.proofs.lemmas.Bool.{cases_eq}
use Rattle.std.proofs.lemmas.List.Kept.{AllPairs-from_increasing}
use Rattle.std.proofs.lemmas.Option.{get_or_from_slice_get, slice_get_within, slice_get-get_or, slice_get-map, same_Some}
use Rattle.std.specs.List.Sorted.{IsStrictlyIncreasing}
use Rattle.list_laws.proofs.Standing.{at_place, from_map}
use Rattle.mate_facts.specs.Entries.{positions_of}
use Rattle.position_places.specs.Boards.{ArePlacesOnBoard}
use Rattle.bit_boards.specs.declared.piece.Side.{Side}
use Rattle.board_core.specs.Board.{Board}
use Rattle.mate_facts.specs.declared.entry.MateEntry.{MateEntry}
use Rattle.hand_dominance.specs.declared.version.Version.TheVariants.{Two}
use Rattle.hand_dominance.specs.Dominance.{Dominates}
use Rattle.dominance_places.proofs.Listed.{place_here}
use Rattle.dominance_places.specs.declared.found.Best.{Best}
use Rattle.dominance_places.specs.Best.{IsBetter}
use Rattle.dominance_places.specs.Found.{ComesBefore, IsFoundCovered, StandsCovered}

-- No entry that the position dominates stands at the place that is the k-th of these.
abbrev pub IsNoneAt : Side → List MateEntry → Board → List ℕ → ℕ → Type 0
IsNoneAt attacker entries position places k = (place : ℕ) → slice_get places k ≡ Some place → ¬ StandsCovered Two entries attacker position place

-- The entry at a place comes before what the position dominates at the k-th of these places.
abbrev pub IsBeforeAt : Side → List MateEntry → Board → List ℕ → ℕ → MateEntry → ℕ → Type 0
IsBeforeAt attacker entries position places place entry k = (other : ℕ) → slice_get places k ≡ Some other
    → (below : StandsCovered Two entries attacker position other) → ComesBefore place entry other below.entry

-- What was found is the best of those at the first n places.
pub record IsBestOf (attacker : Side) (entries : List MateEntry) (position : Board) (places : List ℕ) (n : ℕ) (best : Best) : Type 0 where
  pub stands : StandsCovered Two entries attacker position best.place
  pub ranked : stands.entry.rank.number ≡ best.rank
  pub at : ℕ
  pub soon : at < n
  pub there : slice_get places at ≡ Some best.place
  pub least : (k : ℕ) → k < n → IsBeforeAt attacker entries position places best.place stands.entry k

abbrev pub Among : Side → List MateEntry → Board → List ℕ → ℕ → Option Best → Type 0
Among attacker entries position places n None = (k : ℕ) → k < n → IsNoneAt attacker entries position places k
Among attacker entries position places n (Some best) = IsBestOf attacker entries position places n best

-- 1. WHAT STANDS AT A PLACE.

pub entry_within : (entries : List MateEntry) (position : Board) (places : List ℕ) (i : ℕ) → ArePlacesOnBoard (positions_of entries) position places → i < length places
    → get_or places i 0 < length entries
entry_within entries position places i are low =
    let here = place_here (positions_of entries) position places i are low in
    let found = from_map (λ (e : MateEntry). e.at) entries (get_or places i 0) here.other here.there in
    slice_get_within entries (get_or places i 0) found.0 found.1

-- The entry at a place, and its board.
pub record EntryHere (entries : List MateEntry) (position : Board) (place : ℕ) (entry : MateEntry) : Type 0 where
  pub there : slice_get entries place ≡ Some entry
  pub cells : position.cells ≡ entry.at.cells
  pub turn : position.side ≡ entry.at.side

pub entry_here : (entries : List MateEntry) (position : Board) (places : List ℕ) (i : ℕ) (entry : MateEntry) → ArePlacesOnBoard (positions_of entries) position places
    → i < length places → entry ≡ get_or entries (get_or places i 0) entry → EntryHere entries position (get_or places i 0) entry
entry_here entries position places i entry are low is =
    let here = place_here (positions_of entries) position places i are low in
    let found = from_map (λ (e : MateEntry). e.at) entries (get_or places i 0) here.other here.there in
    let same : found.0 ≡ entry = sym (get_or_from_slice_get entries (get_or places i 0) found.0 entry found.1) ∙ sym is in
    let at : here.other ≡ entry.at = sym found.2 ∙ ap (λ (e : MateEntry). e.at) same in
    record {
      there = found.1 ∙ ap Some same;
      cells = sym (sym (ap (λ (b : Board). b.cells) at) ∙ here.same.0);
      turn = sym (sym (ap (λ (b : Board). b.side) at) ∙ here.same.1);
    }

-- 2. ONE MORE PLACE.

-- What stands at the place that was looked at last is the entry that was read there.
last_is : (attacker : Side) (entries : List MateEntry) (position : Board) (places : List ℕ) (n : ℕ) (entry : MateEntry)
    → EntryHere entries position (get_or places n 0) entry → (place : ℕ) → slice_get places n ≡ Some place
    → (stands : StandsCovered Two entries attacker position place) → (get_or places n 0 ≡ place) × (stands.entry ≡ entry)
last_is attacker entries position places n entry here place there stands =
    let place_is : get_or places n 0 ≡ place = get_or_from_slice_get places n place 0 there in
    let same : Some stands.entry ≡ Some entry = sym stands.there ∙ subst (λ (m : ℕ). slice_get entries m ≡ Some entry) place_is here.there in
    (place_is, same_Some stands.entry entry same)

-- It isn't dominated.
none_last : (attacker : Side) (entries : List MateEntry) (position : Board) (places : List ℕ) (n : ℕ) (entry : MateEntry)
    → EntryHere entries position (get_or places n 0) entry → ¬ Dominates attacker position entry.at → IsNoneAt attacker entries position places n
none_last attacker entries position places n entry here not place there stands =
    let last = last_is attacker entries position places n entry here place there stands in
    not (subst (λ (e : MateEntry). Dominates attacker position e.at) last.1 stands.covers)

-- What isn't dominated changes nothing.
pub more_same : (attacker : Side) (entries : List MateEntry) (position : Board) (places : List ℕ) (n : ℕ) (entry : MateEntry) (best : Option Best)
    → EntryHere entries position (get_or places n 0) entry → ¬ Dominates attacker position entry.at → Among attacker entries position places n best
    → Among attacker entries position places (n + 1) best
more_same attacker entries position places n entry None here not so_far =
    below_more (IsNoneAt attacker entries position places) n so_far (none_last attacker entries position places n entry here not)
more_same attacker entries position places n entry (Some best) here not so_far = record {
  stands = so_far.stands;
  ranked = so_far.ranked;
  at = so_far.at;
  soon = let soon = so_far.soon in omega (arith, soon);
  there = so_far.there;
  least = below_more (IsBeforeAt attacker entries position places best.place so_far.stands.entry) n so_far.least
      (λ other there below. absurd (none_last attacker entries position places n entry here not other there below));
}

-- Two numbers of which one isn't above the other: the less comes before, else the place.
before_or_same : (rank other_rank place other_place : ℕ) → rank ≤ other_rank → place ≤ other_place
    → (rank < other_rank) ⊎ ((rank ≡ other_rank) × (place ≤ other_place))
before_or_same rank other_rank place other_place no_more sooner =
    elim (cases_eq rank other_rank) [ inl same ↦ inr (same, sooner) | inr apart ↦ inl (omega (arith, apart, no_more)) ]

-- What comes before another has no greater rank.
less_than : {first other next place other_place : ℕ} {best_rank next_rank : ℕ} → (first < other) ⊎ ((first ≡ other) × (place ≤ other_place))
    → first ≡ best_rank → next ≡ next_rank → next_rank < best_rank → next < other
less_than (inl below) first_is next_is less = omega (arith, below, first_is, next_is, less)
less_than (inr same) first_is next_is less =
    let equal = same.0 in
    omega (arith, equal, first_is, next_is, less)

-- What is dominated, and of less rank than all so far, is the best.
newer_best : (attacker : Side) (entries : List MateEntry) (position : Board) (places : List ℕ) (n : ℕ) (entry : MateEntry) (next : Best)
    → n < length places → EntryHere entries position (get_or places n 0) entry → Dominates attacker position entry.at
    → get_or places n 0 ≡ next.place → entry.rank.number ≡ next.rank
    → ((k : ℕ) → k < n → IsBeforeAt attacker entries position places next.place entry k) → IsBestOf attacker entries position places (n + 1) next
newer_best attacker entries position places n entry next low here above place_is rank_is before = record {
  stands = record { entry = entry; there = subst (λ (m : ℕ). slice_get entries m ≡ Some entry) place_is here.there; covers = above };
  ranked = rank_is;
  at = n;
  soon = omega arith;
  there = slice_get-get_or places n 0 low ∙ ap Some place_is;
  least = below_more (IsBeforeAt attacker entries position places next.place entry) n before
      (λ other there below.
      let last = last_is attacker entries position places n entry here other there below in
      let ranks : entry.rank.number ≡ below.entry.rank.number = sym (ap (λ (e : MateEntry). e.rank.number) last.1) in
      let same : next.place ≡ other = sym place_is ∙ last.0 in
      inr (ranks, omega (arith, same)));
}

-- What is dominated, and not of less rank than the best so far, changes nothing.
older_best : (attacker : Side) (entries : List MateEntry) (position : Board) (places : List ℕ) (n : ℕ) (entry : MateEntry) (first : Best)
    → n < length places → IsStrictlyIncreasing places → EntryHere entries position (get_or places n 0) entry
    → first.rank ≤ entry.rank.number → IsBestOf attacker entries position places n first → IsBestOf attacker entries position places (n + 1) first
older_best attacker entries position places n entry first low rising here no_less so_far = record {
  stands = so_far.stands;
  ranked = so_far.ranked;
  at = so_far.at;
  soon = let soon = so_far.soon in omega (arith, soon);
  there = so_far.there;
  least = below_more (IsBeforeAt attacker entries position places first.place so_far.stands.entry) n so_far.least
      (λ other there below.
      let last = last_is attacker entries position places n entry here other there below in
      let ranks : below.entry.rank.number ≡ entry.rank.number = ap (λ (e : MateEntry). e.rank.number) last.1 in
      let ranked = so_far.ranked in
      let rises : get_or places so_far.at 0 < get_or places n 0 = AllPairs-from_increasing places rising so_far.at n 0 so_far.soon low in
      let first_is : get_or places so_far.at 0 ≡ first.place = get_or_from_slice_get places so_far.at first.place 0 so_far.there in
      let place_is = last.0 in
      before_or_same so_far.stands.entry.rank.number below.entry.rank.number first.place other
      (omega (arith, ranks, ranked, no_less)) (omega (arith, rises, first_is, place_is)));
}

-- The better of what was found and what is dominated is the best.
pub more_better : (attacker : Side) (entries : List MateEntry) (position : Board) (places : List ℕ) (n : ℕ) (entry : MateEntry) (best : Option Best)
    (next result : Best) → n < length places → IsStrictlyIncreasing places → EntryHere entries position (get_or places n 0) entry
    → Dominates attacker position entry.at → get_or places n 0 ≡ next.place → entry.rank.number ≡ next.rank
    → Among attacker entries position places n best → IsBetter best next result → IsBestOf attacker entries position places (n + 1) result
more_better attacker entries position places n entry None next result low rising here above place_is rank_is so_far is =
    subst (IsBestOf attacker entries position places (n + 1)) (sym is)
    (newer_best attacker entries position places n entry next low here above place_is rank_is
    (λ k lower other there below. absurd (so_far k lower other there below)))
more_better attacker entries position places n entry (Some first) next result low rising here above place_is rank_is so_far (inr less) =
    subst (IsBestOf attacker entries position places (n + 1)) (sym less.0)
    (newer_best attacker entries position places n entry next low here above place_is rank_is
    (λ k lower other there below.
    inl (less_than (so_far.least k lower other there below) so_far.ranked rank_is less.1)))
more_better attacker entries position places n entry (Some first) next result low rising here above place_is rank_is so_far (inl no_less) =
    let least = no_less.1 in
    subst (IsBestOf attacker entries position places (n + 1)) (sym no_less.0)
    (older_best attacker entries position places n entry first low rising here (omega (arith, least, rank_is)) so_far)

-- 3. ALL PLACES.

-- What the position dominates stands at one of the places.
placed : (attacker : Side) (entries : List MateEntry) (position : Board) (places : List ℕ) (n place : ℕ)
    → ArePlacesOnBoard (positions_of entries) position places → length places ≤ n → StandsCovered Two entries attacker position place
    → (k : ℕ) × (k < n) × (slice_get places k ≡ Some place)
placed attacker entries position places n place are all stands =
    let inside = are.all place (record {
      other = stands.entry.at;
      there = slice_get-map (λ (e : MateEntry). e.at) entries place ∙ ap (option_map (λ (e : MateEntry). e.at)) stands.there;
      same = (sym stands.covers.cells, sym stands.covers.turn);
    }) in
    let within = slice_get_within places inside.0 place (at_place places place inside) in
    (inside.0, omega (arith, within, all), at_place places place inside)

pub none_below : (attacker : Side) (entries : List MateEntry) (position : Board) (places : List ℕ) (n : ℕ)
    → ArePlacesOnBoard (positions_of entries) position places → length places ≤ n → Among attacker entries position places n None
    → IsFoundCovered Two entries attacker position None
none_below attacker entries position places n are all among = λ place stands.
    let at = placed attacker entries position places n place are all stands in
    among at.0 at.1 place at.2 stands

pub best_below : (attacker : Side) (entries : List MateEntry) (position : Board) (places : List ℕ) (n : ℕ) (best : Best)
    → ArePlacesOnBoard (positions_of entries) position places → length places ≤ n → Among attacker entries position places n (Some best)
    → IsFoundCovered Two entries attacker position (Some best.place)
best_below attacker entries position places n best are all among = record {
  stands = among.stands;
  least = λ other below.
      let at = placed attacker entries position places n other are all below in
      among.least at.0 at.1 other at.2 below;
}
