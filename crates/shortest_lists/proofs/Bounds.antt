-- What is listed while a bound is read from facts.
use Rattle.std.proofs.Common.{◌≡◌, ◌<◌, ◌≤◌, ◌+◌, ◌-◌, ◌++◌, ◌⊎◌, ◌∙◌, inl, inr, ℕ, zero, List, [], ◌∷◌, length, Contains, arith, refl, sym, subst, ap}
use Rattle.std.specs.Prelude.{Some, slice_get, true}
use Rattle.std.proofs.lemmas.Option.{slice_get_within, same_Some}
use Rattle.std.proofs.lemmas.List.{length-map}
use Rattle.std.proofs.lemmas.List.Elements.{Contains-push_cases, Contains-push}
use Rattle.bit_boards.specs.declared.piece.Side.{Side}
use Rattle.board_core.specs.declared.moves.Move.{Move}
use Rattle.board_core.specs.Board.{Board, kings_of}
use Rattle.board_core.specs.Order.{Lists}
use Rattle.board_core.specs.Kept.{IsKept}
use Rattle.shogi_rules.specs.Rules.{IsQuiet, after}
use Rattle.shogi_rules.specs.Tsume.{IsProblem, IsCheck, IsEvasion}
use Rattle.shogi_rules.proofs.Offered.{after_evasion}
use Rattle.mate_def.specs.Mate.{HasEvasionTo, CanEvadeTo}
use Rattle.position_places.specs.Places.{ArePlacesOf}
use Rattle.cert_text.specs.Certificate.{IsEntry}
use Rattle.bound_text.specs.Bound.{bounded_in}
use Rattle.bound_text.specs.declared.entry.BoundEntry.{BoundEntry}
use Rattle.bound_check.specs.Valid.{IsListedFrom, Keeps, IsHeld, IsValidBound}
use Rattle.list_laws.proofs.Standing.{contained, at_place, from_map, contains_map, get_cases, more, of_all}
use Rattle.shortest_facts.specs.Facts.{Known, AreBorneOut, StandsForAttacker, HoldsOut, HasNoCheck}
use Rattle.shortest_lists.specs.Reached.{IsReached, IsBoundStep}
use Rattle.shortest_lists.specs.Placing.{IsPlaced, HasNoPlace, StandOn}
use Rattle.shortest_lists.specs.Ends.{IsEndFor}
use Rattle.shortest_lists.specs.BoundWalk.{IsBoundWalk, IsBoundListed, AreBoundEntries}
use Rattle.shortest_lists.specs.declared.bound.BoundWalk.{BoundWalk}
use Rattle.shortest_lists.specs.declared.ends.ListEnd.{ListEnd}
use Rattle.shortest_lists.specs.declared.ends.ListEnd.TheVariants.{TooMany, NoMemory}
use Rattle.shortest_lists.proofs.Putting.{reached_self, reached_more, more_reached, stand_same, stand_more, stand_on, longer_by, some_at, stood, none_in, none_apart}
use Rattle.shortest_lists.proofs.Mates.{problem_after}

abbrev place_in : BoundEntry → Board
place_in entry = entry.at

bounded_pushed : (entries : List BoundEntry) (entry : BoundEntry) → bounded_in (entries ++ entry ∷ []) ≡ bounded_in entries ++ entry.at ∷ []
bounded_pushed [] entry = refl
bounded_pushed (first ∷ entries) entry = let more = bounded_pushed entries entry in λ i. first.at ∷ more i

pub as_many : (entries : List BoundEntry) → length (bounded_in entries) ≡ length entries
as_many entries = length-map entries place_in

-- 1. A position that is yet to be listed, with a number.

pub record IsBoundNext (k : Known) (p q : Board) (number : ℕ) : Type 0 where
  pub is_entry : IsEntry p q
  pub kept : IsKept q
  pub more : HasNoCheck k.attacker q ⊎ (number < (k.at q).least)
  pub reached : IsReached (IsBoundStep k) p q

-- what the facts say of a listed position that has a check
module _ (k : Known) (p : Board) (most place : ℕ) (walk : BoundWalk) (same : k.attacker ≡ p.side) (borne_out : AreBorneOut k)
    (is : IsBoundWalk k p most place walk) (entry : BoundEntry) (at : slice_get walk.entries.items place ≡ Some entry) where
  pub listed : IsBoundListed k p entry
  listed = is.listed entry (contained walk.entries.items place entry at)

  turn : entry.at.side ≡ k.attacker
  turn = listed.is_entry.side ∙ sym same

  pub stands : StandsForAttacker k entry.at
  stands = borne_out.attacker entry.at listed.kept turn

  pub least_above : (check : Move) → IsCheck k.attacker entry.at check → entry.bound.number < (k.at entry.at).least
  least_above check is_check = elim listed.more [
    | inl none ↦ absurd (none check is_check)
    | inr above ↦ above
  ]

  -- where its number is 1, each check has an evasion
  pub held_at_one : entry.bound.number ≡ 1 → (entries : List BoundEntry) → IsHeld entries k.attacker entry
  held_at_one one entries check is_check =
      let above = least_above check is_check in
      let has = stands.evaded (omega (arith, above, one)) check is_check in
      record { evasion = has.evasion; is_evasion = has.is_evasion; leads = λ some. absurd (omega (arith, some, one)) }

  -- above it, so does what the facts say of the position after a check
  module _ (check : Move) (is_check : IsCheck k.attacker entry.at check) (some : 1 < entry.bound.number) (checked : Board)
      (e : checked ≡ after entry.at check) where
    long : (k.at entry.at).least ≤ (k.at checked).least + 1
    long = let above = least_above check is_check in
        subst (λ (b : Board). (k.at entry.at).least ≤ (k.at b).least + 1) (sym e) (stands.longer (omega (arith, above, some)) check is_check)

    pub checked_above : 1 < (k.at checked).least
    checked_above = let above = least_above check is_check in let l = long in omega (arith, above, some, l)

    pub next_held : (evasion : Move) (next : Board) → (k.at checked).by ≡ Some evasion → HoldsOut k checked evasion → next ≡ after checked evasion
        → IsKept next → IsQuiet next → ((side : Side) → kings_of checked side ≡ kings_of entry.at side)
        → ((side : Side) → kings_of next side ≡ kings_of checked side) → IsBoundNext k p next (entry.bound.number - 1)
    next_held evasion next by holds f kept quiet kings more_kings = record {
      is_entry = record {
        is_problem = problem_after k.attacker entry.at checked next evasion listed.is_entry.is_problem turn holds.is_evasion f quiet kings more_kings;
        side = ap (λ (a : Board). a.side) f ∙ (after_evasion k.attacker checked evasion holds.is_evasion ∙ same);
      };
      kept = kept;
      more = elim holds.long [
        | inl none ↦ inl (subst (HasNoCheck k.attacker) (sym f) none)
        | inr as_long ↦ inr (
            let above = least_above check is_check in
            let l = long in
            let there = subst (λ (b : Board). (k.at checked).least ≤ (k.at b).least) (sym f) as_long in
            omega (arith, above, l, there, some))
      ];
      reached = reached_more (IsBoundStep k) p entry.at next listed.reached (record {
        check = check;
        is_check = is_check;
        evasion = evasion;
        by = subst (λ (b : Board). (k.at b).by ≡ Some evasion) e by;
        long = subst (λ (b : Board). 1 < (k.at b).least) e checked_above;
        leads = sym (f ∙ ap (λ (b : Board). after b evasion) e);
      });
    }

    -- an evasion to the check leads to a listed position
    pub evaded_to : (entries : List BoundEntry) (evasion : Move) (next : Board) → IsEvasion k.attacker checked evasion → next ≡ after checked evasion
        → Contains (bounded_in entries) next → HasEvasionTo k.attacker (Contains (bounded_in entries)) entry.at check
    evaded_to entries evasion next is_evasion f there = record {
      evasion = evasion;
      is_evasion = subst (λ (b : Board). IsEvasion k.attacker b evasion) e is_evasion;
      leads = subst (Contains (bounded_in entries)) (f ∙ ap (λ (b : Board). after b evasion) e) there;
    }

    pub led_back : (entries : List BoundEntry) → CanEvadeTo p.side (Contains (bounded_in entries)) checked
        → HasEvasionTo k.attacker (Contains (bounded_in entries)) entry.at check
    led_back entries can =
        evaded_to entries can.evasion (after checked can.evasion)
        (subst (λ (side : Side). IsEvasion side checked can.evasion) (sym same) can.is_evasion) refl can.leads

-- 2. It is listed.

still_contains : (xs ys : List BoundEntry) → StandOn xs ys → (b : Board) → Contains (bounded_in xs) b → Contains (bounded_in ys) b
still_contains xs ys stand b c =
    let found = from_map place_in xs c.0 b (at_place (bounded_in xs) b c) in
    subst (Contains (bounded_in ys)) found.2 (contains_map place_in ys found.0 (contained ys c.0 found.0 (stand c.0 found.0 found.1)))

pub walk_same : (k : Known) (p : Board) (most place : ℕ) (old new : BoundWalk) → IsBoundWalk k p most place old
    → new.entries.items ≡ old.entries.items → ArePlacesOf new.places (bounded_in old.entries.items) → IsBoundWalk k p most place new
walk_same k p most place old new walk e placed = record {
  placed = subst (λ (es : List BoundEntry). ArePlacesOf new.places (bounded_in es)) (sym e) placed;
  few = subst (λ (es : List BoundEntry). length es ≤ most) (sym e) walk.few;
  listed = λ entry c. walk.listed entry (subst (λ (es : List BoundEntry). Contains es entry) e c);
  falls = λ i j earlier later le at there.
      walk.falls i j earlier later le (subst (λ (es : List BoundEntry). slice_get es i ≡ Some earlier) e at)
      (subst (λ (es : List BoundEntry). slice_get es j ≡ Some later) e there);
  near = λ i here other at there.
      walk.near i here other (subst (λ (es : List BoundEntry). slice_get es place ≡ Some here) e at)
      (subst (λ (es : List BoundEntry). slice_get es i ≡ Some other) e there);
}

module _ (k : Known) (p : Board) (most place : ℕ) (old new : BoundWalk) (entry next : BoundEntry) (walk : IsBoundWalk k p most place old)
    (at : slice_get old.entries.items place ≡ Some entry) (number : next.bound.number ≡ entry.bound.number - 1) (some : 1 < entry.bound.number)
    (e : new.entries.items ≡ old.entries.items ++ next ∷ []) where
  cases : (i : ℕ) (x : BoundEntry) → slice_get new.entries.items i ≡ Some x
      → (slice_get old.entries.items i ≡ Some x) ⊎ ((i ≡ length old.entries.items) × (next ≡ x))
  cases i x there = get_cases old.entries.items next i x (subst (λ (es : List BoundEntry). slice_get es i ≡ Some x) e there)

  number_of : (x : BoundEntry) → next ≡ x → x.bound.number ≡ entry.bound.number - 1
  number_of x same = subst (λ (y : BoundEntry). y.bound.number ≡ entry.bound.number - 1) same number

  still_falls : (i j : ℕ) (earlier later : BoundEntry) → i ≤ j → slice_get new.entries.items i ≡ Some earlier → slice_get new.entries.items j ≡ Some later
      → later.bound.number ≤ earlier.bound.number
  still_falls i j earlier later le here there = elim (cases j later there) [
    | inl old_later ↦ elim (cases i earlier here) [
      | inl old_earlier ↦ walk.falls i j earlier later le old_earlier old_later
      | inr new_earlier ↦
          let inside = slice_get_within old.entries.items j later old_later in
          let behind = new_earlier.0 in
          absurd (omega (arith, inside, behind, le))
    ]
    | inr new_later ↦ elim (cases i earlier here) [
      | inl old_earlier ↦
          let close = walk.near i entry earlier at old_earlier in
          let its = number_of later new_later.1 in
          omega (arith, close, its, some)
      | inr new_earlier ↦
          let one = number_of earlier new_earlier.1 in
          let two = number_of later new_later.1 in
          omega (arith, one, two)
    ]
  ]

  still_near : (i : ℕ) (here other : BoundEntry) → slice_get new.entries.items place ≡ Some here → slice_get new.entries.items i ≡ Some other
      → here.bound.number ≤ other.bound.number + 1
  still_near i here other at_here there =
      let inside = slice_get_within old.entries.items place entry at in
      let same = same_Some entry here (sym (stand_more old.entries.items old.entries.items new.entries.items next e (stand_same old.entries.items) place entry at) ∙ at_here) in
      let its : entry.bound.number ≡ here.bound.number = ap (λ (x : BoundEntry). x.bound.number) same in
      elim (cases i other there) [
        | inl before ↦ (let close = walk.near i entry other at before in omega (arith, close, its))
        | inr now ↦ (let that = number_of other now.1 in omega (arith, its, that, some))
      ]

  pub walk_more : (q : Board) → next.at ≡ q → IsBoundNext k p q (entry.bound.number - 1) → length (bounded_in old.entries.items) < most
      → ArePlacesOf new.places (bounded_in old.entries.items ++ q ∷ []) → IsBoundWalk k p most place new
  walk_more q about may room placed = record {
    placed = subst (ArePlacesOf new.places)
        (sym (ap bounded_in e ∙ (bounded_pushed old.entries.items next ∙ ap (λ (b : Board). bounded_in old.entries.items ++ b ∷ []) about))) placed;
    few = (let long = longer_by old.entries.items new.entries.items next e in let many = as_many old.entries.items in omega (arith, long, many, room));
    listed = λ other c. elim (Contains-push_cases old.entries.items next other (subst (λ (es : List BoundEntry). Contains es other) e c)) [
      | inl before ↦ walk.listed other before
      | inr same ↦ subst (IsBoundListed k p) same (record {
        is_entry = subst (IsEntry p) (sym about) may.is_entry;
        kept = subst IsKept (sym about) may.kept;
        more = subst (λ (b : Board). HasNoCheck k.attacker b ⊎ (next.bound.number < (k.at b).least)) (sym about)
            (subst (λ (n : ℕ). HasNoCheck k.attacker q ⊎ (n < (k.at q).least)) (sym number) may.more);
        reached = subst (IsReached (IsBoundStep k) p) (sym about) may.reached;
      })
    ];
    falls = still_falls;
    near = still_near;
  }

pub last_listed : (entries longer : List BoundEntry) (entry : BoundEntry) → longer ≡ entries ++ entry ∷ [] → Contains (bounded_in longer) entry.at
last_listed entries longer entry e =
    contains_map place_in longer entry (subst (λ (es : List BoundEntry). Contains es entry) (sym e) (Contains-push entries entry))

-- the next one is dealt with
pub walk_on : (k : Known) (p : Board) (most place : ℕ) (walk : BoundWalk) → IsBoundWalk k p most place walk → place < length walk.entries.items
    → IsBoundWalk k p most (place + 1) walk
walk_on k p most place walk is inside = record {
  placed = is.placed;
  few = is.few;
  listed = is.listed;
  falls = is.falls;
  near = λ i here other at there.
      let before = some_at walk.entries.items place inside in
      let low = is.falls place (place + 1) before.0 here (omega arith) before.1 at in
      let close = is.near i before.0 other before.1 there in
      omega (arith, low, close);
}

-- 3. It isn't, since there is no room.

pub bound_full : (k : Known) (p q : Board) (most place number : ℕ) (walk : BoundWalk) → IsBoundWalk k p most place walk → IsBoundNext k p q number
    → (end : ListEnd) → HasNoPlace (bounded_in walk.entries.items) q most end → IsEndFor (IsBoundStep k) p most end
bound_full k p q most place number walk is next NoMemory none = tt
bound_full k p q most place number walk is next TooMany none =
    more_reached (IsBoundStep k) p q most (bounded_in walk.entries.items) is.placed.apart none.0 none.1
    (λ b c.
    let found = from_map place_in walk.entries.items c.0 b (at_place (bounded_in walk.entries.items) b c) in
    subst (IsReached (IsBoundStep k) p) found.2 (is.listed found.0 (contained walk.entries.items c.0 found.0 found.1)).reached)
    next.reached

-- 4. The problem is listed first.

pub root_next : (k : Known) (p : Board) (within : ℕ) → IsProblem p → IsKept p → within < (k.at p).least → IsBoundNext k p p within
root_next k p within accepted kept known = record {
  is_entry = record { is_problem = accepted; side = refl };
  kept = kept;
  more = inr known;
  reached = reached_self (IsBoundStep k) p;
}

pub begun_none : (k : Known) (p : Board) (most place : ℕ) (walk : BoundWalk) → walk.entries.items ≡ [] → ArePlacesOf walk.places []
    → IsBoundWalk k p most place walk
begun_none k p most place walk e placed = record {
  placed = subst (λ (es : List BoundEntry). ArePlacesOf walk.places (bounded_in es)) (sym e) placed;
  few = subst (λ (es : List BoundEntry). length es ≤ most) (sym e) (omega arith);
  listed = λ entry c. absurd (none_in entry (subst (λ (es : List BoundEntry). Contains es entry) e c));
  falls = λ i j earlier later le at there. absurd (none_here i earlier at);
  near = λ i here other at there. absurd (none_here i other there);
}
  where
    none_here : (i : ℕ) (x : BoundEntry) → slice_get walk.entries.items i ≡ Some x → ⊥
    none_here i x at = none_in x (subst (λ (es : List BoundEntry). Contains es x) e (contained walk.entries.items i x at))

pub begun_full : (k : Known) (p : Board) (most : ℕ) → (end : ListEnd) → HasNoPlace [] p most end → IsEndFor (IsBoundStep k) p most end
begun_full k p most NoMemory none = tt
begun_full k p most TooMany none =
    more_reached (IsBoundStep k) p p most [] none_apart none.0 none.1 (λ b c. absurd (none_in b c)) (reached_self (IsBoundStep k) p)

alone : {X : Type 0} (xs : List X) (x y : X) (i : ℕ) → xs ≡ x ∷ [] → slice_get xs i ≡ Some y → x ≡ y
alone {X} xs x y i e at = elim (get_cases [] x i y (subst (λ (l : List X). slice_get l i ≡ Some y) e at)) [
  | inl before ↦ absurd (let inside = slice_get_within [] i y before in omega arith)
  | inr same ↦ same.1
]

pub begun_walk : (k : Known) (p : Board) (most within : ℕ) (new : BoundWalk) (entry : BoundEntry) → IsBoundNext k p p within → entry.at ≡ p
    → entry.bound.number ≡ within → IsPlaced new.places [] p most true → new.entries.items ≡ entry ∷ [] → IsBoundWalk k p most 0 new
begun_walk k p most within new entry next about number placed e = record {
  placed = subst (ArePlacesOf new.places) (ap (λ (b : Board). b ∷ []) (sym about) ∙ sym (ap bounded_in e)) placed.2;
  few = subst (λ (es : List BoundEntry). length es ≤ most) (sym e) (let room = placed.1 in omega (arith, room));
  listed = λ other c. subst (IsBoundListed k p) (alone new.entries.items entry other c.0 e (at_place new.entries.items other c)) (record {
    is_entry = subst (IsEntry p) (sym about) next.is_entry;
    kept = subst IsKept (sym about) next.kept;
    more = subst (λ (b : Board). HasNoCheck k.attacker b ⊎ (entry.bound.number < (k.at b).least)) (sym about)
        (subst (λ (n : ℕ). HasNoCheck k.attacker p ⊎ (n < (k.at p).least)) (sym number) next.more);
    reached = subst (IsReached (IsBoundStep k) p) (sym about) next.reached;
  });
  falls = λ i j earlier later le at there.
      let one = ap (λ (x : BoundEntry). x.bound.number) (alone new.entries.items entry earlier i e at) in
      let two = ap (λ (x : BoundEntry). x.bound.number) (alone new.entries.items entry later j e there) in
      omega (arith, one, two);
  near = λ i here other at there.
      let one = ap (λ (x : BoundEntry). x.bound.number) (alone new.entries.items entry here 0 e at) in
      let two = ap (λ (x : BoundEntry). x.bound.number) (alone new.entries.items entry other i e there) in
      omega (arith, one, two);
}

pub begun_root : (p : Board) (within : ℕ) (entries : List BoundEntry) (entry : BoundEntry) → entry.at ≡ p → entry.bound.number ≡ within
    → entries ≡ entry ∷ [] → IsListedFrom entries within p
begun_root p within entries entry about number e = record {
  entry = entry;
  listed = subst (λ (es : List BoundEntry). Contains es entry) (sym e) (zero, omega arith, refl);
  same = about;
  enough = omega (arith, number);
}

-- 5. The checks of an entry are gone through.

pub record AreAnswered (k : Known) (p : Board) (most place : ℕ) (begun : List BoundEntry) (walk : BoundWalk) (items : List Move) (n : ℕ) : Type 0 where
  pub walks : IsBoundWalk k p most place walk
  pub stand : StandOn begun walk.entries.items
  pub each : (i : ℕ) (m : Move) → i < n → slice_get items i ≡ Some m → (entry : BoundEntry) → slice_get begun place ≡ Some entry
      → HasEvasionTo k.attacker (Contains (bounded_in walk.entries.items)) entry.at m

still_evaded : (attacker : Side) (b : Board) (check : Move) (xs ys : List BoundEntry) → StandOn xs ys
    → HasEvasionTo attacker (Contains (bounded_in xs)) b check → HasEvasionTo attacker (Contains (bounded_in ys)) b check
still_evaded attacker b check xs ys stand has =
    record { evasion = has.evasion; is_evasion = has.is_evasion; leads = still_contains xs ys stand _ has.leads }

pub answered_more : (k : Known) (p : Board) (most place : ℕ) (begun : List BoundEntry) (walk new : BoundWalk) (items : List Move) (n : ℕ) (m : Move)
    → AreAnswered k p most place begun walk items n → slice_get items n ≡ Some m → IsBoundWalk k p most place new
    → StandOn walk.entries.items new.entries.items
    → ((entry : BoundEntry) → slice_get walk.entries.items place ≡ Some entry
    → HasEvasionTo k.attacker (Contains (bounded_in new.entries.items)) entry.at m)
    → AreAnswered k p most place begun new items (n + 1)
answered_more k p most place begun walk new items n m are here walks stand this = record {
  walks = walks;
  stand = stand_on begun walk.entries.items new.entries.items are.stand stand;
  each = more (λ (x : Move). (entry : BoundEntry) → slice_get begun place ≡ Some entry
      → HasEvasionTo k.attacker (Contains (bounded_in new.entries.items)) entry.at x) items n m here
      (λ entry at. this entry (are.stand place entry at))
      (λ i x less there entry at. still_evaded k.attacker entry.at x walk.entries.items new.entries.items stand (are.each i x less there entry at));
}

-- a listed position keeps the number
keeps : (k : Known) (p : Board) (most place : ℕ) (walk : BoundWalk) → IsBoundWalk k p most place walk → (entry : BoundEntry)
    → slice_get walk.entries.items place ≡ Some entry → (b : Board) → Contains (bounded_in walk.entries.items) b
    → Keeps walk.entries.items entry.bound.number b
keeps k p most place walk is entry at b c = λ some.
    let found = from_map place_in walk.entries.items c.0 b (at_place (bounded_in walk.entries.items) b c) in
    let close = is.near c.0 entry found.0 at found.1 in
    record {
      entry = found.0;
      listed = contained walk.entries.items c.0 found.0 found.1;
      same = found.2;
      enough = omega (arith, close);
    }

pub held_all : (k : Known) (p : Board) (most place : ℕ) (begun : List BoundEntry) (walk : BoundWalk) (items checks : List Move) (n : ℕ)
    (here : BoundEntry) → k.attacker ≡ p.side → slice_get begun place ≡ Some here → Lists (IsCheck p.side here.at) checks → items ≡ checks
    → length items ≤ n → AreAnswered k p most place begun walk items n → (entry : BoundEntry) → slice_get begun place ≡ Some entry
    → IsHeld walk.entries.items k.attacker entry
held_all k p most place begun walk items checks n here same at lists as_listed whole are entry there =
    subst (IsHeld walk.entries.items k.attacker) (same_Some here entry (sym at ∙ there)) (λ check is_check.
    let of_side = subst (λ (side : Side). IsCheck side here.at check) same is_check in
    let has = of_all (λ (m : Move). (x : BoundEntry) → slice_get begun place ≡ Some x
    → HasEvasionTo k.attacker (Contains (bounded_in walk.entries.items)) x.at m) items checks n as_listed whole are.each check
    (lists.complete check of_side) here at in
    record {
      evasion = has.evasion;
      is_evasion = has.is_evasion;
      leads = keeps k p most place walk are.walks here (are.stand place here at) _ has.leads;
    })

-- 6. The entries are gone through.

pub record AreHeld (k : Known) (p : Board) (most within : ℕ) (walk : BoundWalk) (n : ℕ) : Type 0 where
  pub walks : IsBoundWalk k p most n walk
  pub root : 0 < within → IsListedFrom walk.entries.items within p
  pub each : (i : ℕ) (entry : BoundEntry) → i < n → slice_get walk.entries.items i ≡ Some entry → IsHeld walk.entries.items k.attacker entry

still_listed : (xs ys : List BoundEntry) → StandOn xs ys → (least : ℕ) (b : Board) → IsListedFrom xs least b → IsListedFrom ys least b
still_listed xs ys stand least b from = record {
  entry = from.entry;
  listed = contained ys from.listed.0 from.entry (stand from.listed.0 from.entry (at_place xs from.entry from.listed));
  same = from.same;
  enough = from.enough;
}

still_held : (attacker : Side) (xs ys : List BoundEntry) → StandOn xs ys → (entry : BoundEntry) → IsHeld xs attacker entry → IsHeld ys attacker entry
still_held attacker xs ys stand entry held = λ check is_check.
    let has = held check is_check in
    record { evasion = has.evasion; is_evasion = has.is_evasion; leads = λ some. still_listed xs ys stand _ _ (has.leads some) }

pub held_more : (k : Known) (p : Board) (most within : ℕ) (walk new : BoundWalk) (n : ℕ) → AreHeld k p most within walk n
    → n < length walk.entries.items → IsBoundWalk k p most n new → StandOn walk.entries.items new.entries.items
    → ((entry : BoundEntry) → slice_get walk.entries.items n ≡ Some entry → IsHeld new.entries.items k.attacker entry)
    → AreHeld k p most within new (n + 1)
held_more k p most within walk new n are inside still stand this =
    let entry = some_at walk.entries.items n inside in
    let longer = slice_get_within new.entries.items n entry.0 (stand n entry.0 entry.1) in
    record {
      walks = walk_on k p most n new still longer;
      root = λ some. still_listed walk.entries.items new.entries.items stand within p (are.root some);
      each = λ i x less at.
          more (IsHeld new.entries.items k.attacker) walk.entries.items n entry.0 entry.1 (this entry.0 entry.1)
          (λ j y below there. still_held k.attacker walk.entries.items new.entries.items stand y (are.each j y below there)) i x less
          (stood walk.entries.items new.entries.items stand i x (omega arith) at);
    }

-- 7. All are.

pub bound_listed : (k : Known) (p : Board) (most place : ℕ) (walk : BoundWalk) → IsBoundWalk k p most place walk → AreBoundEntries p walk.entries.items
bound_listed k p most place walk is = record {
  problems = λ entry c. (is.listed entry c).is_entry;
  kept = λ entry c. (is.listed entry c).kept;
  apart = is.placed.apart;
}

pub valid_listed : (k : Known) (p : Board) (most within n : ℕ) (walk : BoundWalk) → k.attacker ≡ p.side → AreHeld k p most within walk n
    → length walk.entries.items ≤ n → IsValidBound walk.entries.items p within
valid_listed k p most within n walk same are whole = record {
  root = are.root;
  held = λ entry c.
      subst (λ (side : Side). IsHeld walk.entries.items side entry) same
      (are.each c.0 entry (let inside = c.1 in omega (arith, inside, whole)) (at_place walk.entries.items entry c));
}
