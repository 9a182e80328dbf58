-- What is listed while a mate is read from facts.
use Rattle.std.proofs.Common.{◌≡◌, ◌<◌, ◌≤◌, ◌+◌, ◌++◌, ◌∙◌, ◌↔◌, inl, inr, ℕ, zero, suc, List, [], ◌∷◌, length, get_or, Contains, arith, refl, sym, subst, ap}
use Rattle.std.specs.Prelude.{Some, slice_get, true, false}
use Rattle.std.proofs.lemmas.Option.{slice_get_within, same_Some}
use Rattle.std.proofs.lemmas.List.{length-map}
use Rattle.std.proofs.lemmas.List.Elements.{Contains-push_cases, Contains-push}
use Rattle.bit_boards.specs.declared.piece.Side.{Side}
use Rattle.bit_boards.specs.Kind.{other}
use Rattle.board_core.specs.declared.moves.Move.{Move}
use Rattle.board_core.specs.Board.{Board, kings_of}
use Rattle.board_core.specs.Order.{Lists}
use Rattle.board_core.specs.Kept.{IsKept}
use Rattle.board_core.specs.Text.{HasText}
use Rattle.shogi_rules.specs.Rules.{IsQuiet, after}
use Rattle.shogi_rules.specs.Tsume.{IsProblem, IsCheck, IsEvasion}
use Rattle.shogi_rules.proofs.Offered.{after_evasion}
use Rattle.mate_def.specs.Mate.{after_both}
use Rattle.mate_facts.specs.declared.entry.MateEntry.{MateEntry}
use Rattle.mate_facts.specs.Entries.{IsListedWith, positions_of}
use Rattle.hand_dominance.specs.declared.version.Version.TheVariants.{One}
use Rattle.hand_dominance.specs.BorneOut.{CoversLower, IsBorneOut}
use Rattle.position_places.specs.Places.{ArePlacesOf}
use Rattle.cert_text.specs.Certificate.{IsEntry, Mating}
use Rattle.cert_order.specs.Entries.{AreMateEntries, HaveSame}
use Rattle.list_laws.proofs.Standing.{contained, at_place, from_map, contains_map, more, of_all}
use Rattle.shortest_facts.specs.declared.fact.TheConstants.{NEVER}
use Rattle.shortest_facts.specs.Facts.{Known, Mates}
use Rattle.shortest_lists.specs.Reached.{IsReached, LeadsTo, IsMateStep, IsOfFact}
use Rattle.shortest_lists.specs.Placing.{IsPlaced, HasNoPlace, StandOn}
use Rattle.shortest_lists.specs.Ends.{IsEndFor}
use Rattle.shortest_lists.specs.MateWalk.{IsMateWalk, IsMateListed, IsFollowed, HasRankIn}
use Rattle.shortest_lists.specs.declared.mate.MateWalk.{MateWalk}
use Rattle.shortest_lists.specs.declared.ends.ListEnd.{ListEnd}
use Rattle.shortest_lists.specs.declared.ends.ListEnd.TheVariants.{TooMany, NoMemory}
use Rattle.shortest_lists.proofs.Putting.{reached_self, reached_more, more_reached, stand_more, longer_by, some_at, stood, item_at, none_in, none_apart}

abbrev place_in : MateEntry → Board
place_in entry = entry.at

pub positions_pushed : (entries : List MateEntry) (entry : MateEntry) → positions_of (entries ++ entry ∷ []) ≡ positions_of entries ++ entry.at ∷ []
positions_pushed [] entry = refl
positions_pushed (first ∷ entries) entry = let more = positions_pushed entries entry in λ i. first.at ∷ more i

pub as_many : (entries : List MateEntry) → length (positions_of entries) ≡ length entries
as_many entries = length-map entries place_in

-- 1. A position that is yet to be listed.

pub record IsMateNext (k : Known) (p q : Board) : Type 0 where
  pub is_entry : IsEntry p q
  pub low : (k.at q).most < NEVER
  pub reached : IsReached (IsMateStep k) p q

-- what the facts say of it
pub record IsFactOf (k : Known) (q : Board) (entry : MateEntry) : Type 0 where
  pub at : entry.at ≡ q
  pub kept : IsKept q
  pub rank : entry.rank.number ≡ (k.at q).most
  pub by : (k.at q).by ≡ Some entry.by
  pub mates : Mates k q entry.by

pub root_next : (k : Known) (p : Board) → IsProblem p → (k.at p).most < NEVER → IsMateNext k p p
root_next k p accepted low = record {
  is_entry = record { is_problem = accepted; side = refl };
  low = low;
  reached = reached_self (IsMateStep k) p;
}

-- a problem stays one after a check and an evasion
pub problem_after : (attacker : Side) (b checked next : Board) (evasion : Move) → IsProblem b → b.side ≡ attacker → IsEvasion attacker checked evasion
    → next ≡ after checked evasion → IsQuiet next → ((side : Side) → kings_of checked side ≡ kings_of b side)
    → ((side : Side) → kings_of next side ≡ kings_of checked side) → IsProblem next
problem_after attacker b checked next evasion accepted turn is_evasion e quiet kings more_kings = record {
  has_king =
      let to_move : next.side ≡ attacker = ap (λ (a : Board). a.side) e ∙ after_evasion attacker checked evasion is_evasion in
      let king = subst (λ (side : Side). 0 < kings_of b (other side)) (turn ∙ sym to_move) accepted.has_king in
      let one = more_kings (other next.side) in
      let two = kings (other next.side) in
      omega (arith, king, one, two);
  quiet = quiet;
}

pub next_followed : (k : Known) (p checked next : Board) (entry : MateEntry) (evasion : Move) → k.attacker ≡ p.side → IsMateListed k p entry
    → checked ≡ after entry.at entry.by → next ≡ after checked evasion → IsEvasion k.attacker checked evasion → IsQuiet next
    → ((side : Side) → kings_of checked side ≡ kings_of entry.at side) → ((side : Side) → kings_of next side ≡ kings_of checked side)
    → IsMateNext k p next
next_followed k p checked next entry evasion same listed e f is_evasion quiet kings more_kings =
    let is = subst (λ (b : Board). IsEvasion k.attacker b evasion) e is_evasion in
    let there : after_both entry.at entry.by evasion ≡ next = sym (f ∙ ap (λ (b : Board). after b evasion) e) in
    let turn : entry.at.side ≡ k.attacker = listed.is_entry.side ∙ sym same in
    record {
      is_entry = record {
        is_problem = problem_after k.attacker entry.at checked next evasion listed.is_entry.is_problem turn is_evasion f quiet kings more_kings;
        side = ap (λ (a : Board). a.side) f ∙ (after_evasion k.attacker checked evasion is_evasion ∙ same);
      };
      low = subst (λ (b : Board). (k.at b).most < NEVER) there
          (let faster = listed.mates.faster evasion is in let low = listed.low in omega (arith, faster, low));
      reached = reached_more (IsMateStep k) p entry.at next listed.reached
          (record { check = entry.by; by = listed.by; evasion = evasion; is_evasion = is; leads = there });
    }

-- an evasion of the list leads to one
pub next_at : (k : Known) (p : Board) (most : ℕ) (walk : MateWalk) (place : ℕ) (entry : MateEntry) (checked next : Board) (items evasions : List Move)
    (n : ℕ) (evasion : Move) → k.attacker ≡ p.side → IsMateWalk k p most walk → slice_get walk.entries.items place ≡ Some entry
    → checked ≡ after entry.at entry.by → next ≡ after checked evasion → Lists (IsEvasion p.side checked) evasions → items ≡ evasions
    → n < length items → evasion ≡ get_or items n evasion → IsQuiet next
    → ((side : Side) → kings_of checked side ≡ kings_of entry.at side) → ((side : Side) → kings_of next side ≡ kings_of checked side)
    → IsMateNext k p next
next_at k p most walk place entry checked next items evasions n evasion same is at e f lists as_listed inside read quiet kings more_kings =
    next_followed k p checked next entry evasion same (is.listed entry (contained walk.entries.items place entry at)) e f
    (subst (λ (side : Side). IsEvasion side checked evasion) (sym same)
    (item_at (IsEvasion p.side checked) items evasions lists as_listed n evasion inside read)) quiet kings more_kings

-- 2. It is listed.

pub listed_of : (k : Known) (p q : Board) (entry : MateEntry) → IsMateNext k p q → IsFactOf k q entry → IsMateListed k p entry
listed_of k p q entry next fact = record {
  is_entry = subst (IsEntry p) (sym fact.at) next.is_entry;
  kept = subst IsKept (sym fact.at) fact.kept;
  low = subst (λ (b : Board). (k.at b).most < NEVER) (sym fact.at) next.low;
  rank = fact.rank ∙ ap (λ (b : Board). (k.at b).most) (sym fact.at);
  by = subst (λ (b : Board). (k.at b).by ≡ Some entry.by) (sym fact.at) fact.by;
  mates = subst (λ (b : Board). Mates k b entry.by) (sym fact.at) fact.mates;
  reached = subst (IsReached (IsMateStep k) p) (sym fact.at) next.reached;
}

pub still_contains : (xs ys : List MateEntry) → StandOn xs ys → (b : Board) → Contains (positions_of xs) b → Contains (positions_of ys) b
still_contains xs ys stand b c =
    let found = from_map place_in xs c.0 b (at_place (positions_of xs) b c) in
    subst (Contains (positions_of ys)) found.2 (contains_map place_in ys found.0 (contained ys c.0 found.0 (stand c.0 found.0 found.1)))

pub walk_same : (k : Known) (p : Board) (most : ℕ) (old new : MateWalk) → IsMateWalk k p most old → new.entries.items ≡ old.entries.items
    → ArePlacesOf new.places (positions_of old.entries.items) → IsMateWalk k p most new
walk_same k p most old new walk e placed = record {
  placed = subst (λ (es : List MateEntry). ArePlacesOf new.places (positions_of es)) (sym e) placed;
  few = subst (λ (es : List MateEntry). length es ≤ most) (sym e) walk.few;
  listed = λ entry c. walk.listed entry (subst (λ (es : List MateEntry). Contains es entry) e c);
}

pub walk_more : (k : Known) (p : Board) (most : ℕ) (old new : MateWalk) (entry : MateEntry) → IsMateWalk k p most old → IsMateListed k p entry
    → length (positions_of old.entries.items) < most → new.entries.items ≡ old.entries.items ++ entry ∷ []
    → ArePlacesOf new.places (positions_of old.entries.items ++ entry.at ∷ []) → IsMateWalk k p most new
walk_more k p most old new entry walk listed room e placed = record {
  placed = subst (ArePlacesOf new.places) (sym (ap positions_of e ∙ positions_pushed old.entries.items entry)) placed;
  few = (let long = longer_by old.entries.items new.entries.items entry e in let many = as_many old.entries.items in omega (arith, long, many, room));
  listed = λ other c. elim (Contains-push_cases old.entries.items entry other (subst (λ (es : List MateEntry). Contains es other) e c)) [
    | inl before ↦ walk.listed other before
    | inr same ↦ subst (IsMateListed k p) same listed
  ];
}

-- 3. It isn't, since there is no room.

pub mate_full : (k : Known) (p q : Board) (most : ℕ) (walk : MateWalk) → IsMateWalk k p most walk → IsMateNext k p q → (end : ListEnd)
    → HasNoPlace (positions_of walk.entries.items) q most end → IsEndFor (IsMateStep k) p most end
mate_full k p q most walk is next NoMemory none = tt
mate_full k p q most walk is next TooMany none =
    more_reached (IsMateStep k) p q most (positions_of walk.entries.items) is.placed.apart none.0 none.1
    (λ b c.
    let found = from_map place_in walk.entries.items c.0 b (at_place (positions_of walk.entries.items) b c) in
    subst (IsReached (IsMateStep k) p) found.2 (is.listed found.0 (contained walk.entries.items c.0 found.0 found.1)).reached)
    next.reached

-- 4. The problem is listed first.

pub begun_full : (k : Known) (p : Board) (most : ℕ) → (end : ListEnd) → HasNoPlace [] p most end → IsEndFor (IsMateStep k) p most end
begun_full k p most NoMemory none = tt
begun_full k p most TooMany none =
    more_reached (IsMateStep k) p p most [] none_apart none.0 none.1 (λ b c. absurd (none_in b c)) (reached_self (IsMateStep k) p)

pub begun_walk : (k : Known) (p : Board) (most : ℕ) (new : MateWalk) (entry : MateEntry) → IsMateNext k p p → IsFactOf k p entry
    → IsPlaced new.places [] p most true → new.entries.items ≡ entry ∷ [] → IsMateWalk k p most new
begun_walk k p most new entry next fact placed e = record {
  placed = subst (ArePlacesOf new.places) (ap (λ (b : Board). b ∷ []) (sym fact.at) ∙ sym (ap positions_of e)) placed.2;
  few = subst (λ (es : List MateEntry). length es ≤ most) (sym e) (let room = placed.1 in omega (arith, room));
  listed = λ other c. elim (Contains-push_cases [] entry other (subst (λ (es : List MateEntry). Contains es other) e c)) [
    | inl before ↦ absurd (none_in other before)
    | inr same ↦ subst (IsMateListed k p) same (listed_of k p p entry next fact)
  ];
}

pub begun_root : (k : Known) (p : Board) (entries : List MateEntry) (entry : MateEntry) → IsFactOf k p entry → entries ≡ entry ∷ []
    → HasRankIn k entries p
begun_root k p entries entry fact e = record {
  entry = entry;
  listed = subst (λ (es : List MateEntry). Contains es entry) (sym e) (zero, omega arith, refl);
  same = fact.at;
  has_rank = fact.rank;
}

-- 5. The evasions to a check are gone through.

pub record IsFollowing (k : Known) (p : Board) (most : ℕ) (begun : List MateEntry) (walk : MateWalk) (checked : Board) (items : List Move) (n : ℕ) : Type 0 where
  pub walks : IsMateWalk k p most walk
  pub stand : StandOn begun walk.entries.items
  pub each : (i : ℕ) (m : Move) → i < n → slice_get items i ≡ Some m → Contains (positions_of walk.entries.items) (after checked m)

module _ (k : Known) (p : Board) (most : ℕ) (begun : List MateEntry) (walk : MateWalk) (checked : Board) (items : List Move) (n : ℕ)
    (is : IsFollowing k p most begun walk checked items n) (m : Move) (here : slice_get items n ≡ Some m) (next : Board) (e : next ≡ after checked m)
    (new : MateWalk) where
  pub following_new : (entry : MateEntry) → IsMateNext k p next → IsFactOf k next entry
      → IsPlaced new.places (positions_of walk.entries.items) next most true → new.entries.items ≡ walk.entries.items ++ entry ∷ []
      → IsFollowing k p most begun new checked items (n + 1)
  following_new entry may fact placed pushed =
      let more_stand = stand_more walk.entries.items walk.entries.items new.entries.items entry pushed (λ i x at. at) in
      record {
        walks = walk_more k p most walk new entry is.walks (listed_of k p next entry may fact) placed.1 pushed
            (subst (λ (b : Board). ArePlacesOf new.places (positions_of walk.entries.items ++ b ∷ [])) (sym fact.at) placed.2);
        stand = stand_more begun walk.entries.items new.entries.items entry pushed is.stand;
        each = more (λ (x : Move). Contains (positions_of new.entries.items) (after checked x)) items n m here
            (subst (Contains (positions_of new.entries.items)) (fact.at ∙ e)
            (contains_map place_in new.entries.items entry
            (subst (λ (es : List MateEntry). Contains es entry) (sym pushed) (Contains-push walk.entries.items entry))))
            (λ i x less at. still_contains walk.entries.items new.entries.items more_stand (after checked x) (is.each i x less at));
      }

  pub following_old : IsPlaced new.places (positions_of walk.entries.items) next most false → new.entries.items ≡ walk.entries.items
      → IsFollowing k p most begun new checked items (n + 1)
  following_old placed same = record {
    walks = walk_same k p most walk new is.walks same placed.1;
    stand = subst (StandOn begun) (sym same) is.stand;
    each = subst (λ (es : List MateEntry). (i : ℕ) (x : Move) → i < n + 1 → slice_get items i ≡ Some x → Contains (positions_of es) (after checked x)) (sym same)
        (more (λ (x : Move). Contains (positions_of walk.entries.items) (after checked x)) items n m here
        (subst (Contains (positions_of walk.entries.items)) e placed.0) is.each);
  }

-- 6. The entries are gone through.

pub record AreFollowed (k : Known) (p : Board) (most : ℕ) (walk : MateWalk) (n : ℕ) : Type 0 where
  pub walks : IsMateWalk k p most walk
  pub root : HasRankIn k walk.entries.items p
  pub each : (i : ℕ) (entry : MateEntry) → i < n → slice_get walk.entries.items i ≡ Some entry → IsFollowed k walk.entries.items entry

still_followed : (k : Known) (xs ys : List MateEntry) → StandOn xs ys → (entry : MateEntry) → IsFollowed k xs entry → IsFollowed k ys entry
still_followed k xs ys stand entry is = record { text = is.text; evasions = λ evasion h. still_contains xs ys stand _ (is.evasions evasion h) }

still_rooted : (k : Known) (xs ys : List MateEntry) → StandOn xs ys → (p : Board) → HasRankIn k xs p → HasRankIn k ys p
still_rooted k xs ys stand p root = record {
  entry = root.entry;
  listed = contained ys root.listed.0 root.entry (stand root.listed.0 root.entry (at_place xs root.entry root.listed));
  same = root.same;
  has_rank = root.has_rank;
}

pub followed_more : (k : Known) (p : Board) (most : ℕ) (walk new : MateWalk) (n : ℕ) → AreFollowed k p most walk n → n < length walk.entries.items
    → IsMateWalk k p most new → StandOn walk.entries.items new.entries.items
    → ((entry : MateEntry) → slice_get walk.entries.items n ≡ Some entry → IsFollowed k new.entries.items entry) → AreFollowed k p most new (n + 1)
followed_more k p most walk new n are inside still stand this =
    let entry = some_at walk.entries.items n inside in
    record {
      walks = still;
      root = still_rooted k walk.entries.items new.entries.items stand p are.root;
      each = λ i x less at.
          more (IsFollowed k new.entries.items) walk.entries.items n entry.0 entry.1 (this entry.0 entry.1)
          (λ j y below there. still_followed k walk.entries.items new.entries.items stand y (are.each j y below there)) i x less
          (stood walk.entries.items new.entries.items stand i x (omega arith) at);
    }

-- 7. All are.

listed_below : (k : Known) (p : Board) (most : ℕ) (walk : MateWalk) → IsMateWalk k p most walk → (b : Board) (rank : ℕ)
    → Contains (positions_of walk.entries.items) b → (k.at b).most < rank → CoversLower One walk.entries.items p.side rank b
listed_below k p most walk is b rank c less =
    let found = from_map place_in walk.entries.items c.0 b (at_place (positions_of walk.entries.items) b c) in
    let listed = contained walk.entries.items c.0 found.0 found.1 in
    let has = (is.listed found.0 listed).rank in
    let same = ap (λ (a : Board). (k.at a).most) found.2 in
    record { entry = found.0; listed = listed; covers = sym found.2; lower = omega (arith, has, same, less) }

pub borne_out : (k : Known) (p : Board) (most n : ℕ) (walk : MateWalk) → k.attacker ≡ p.side → AreFollowed k p most walk n
    → length walk.entries.items ≤ n → (entry : MateEntry) → Contains walk.entries.items entry → IsBorneOut One walk.entries.items p.side entry
borne_out k p most n walk same are whole entry c =
    let listed = are.walks.listed entry c in
    let inside = c.1 in
    let followed = are.each c.0 entry (omega (arith, inside, whole)) (at_place walk.entries.items entry c) in
    record {
      check = subst (λ (side : Side). IsCheck side entry.at entry.by) same listed.mates.is_check;
      evasions = λ evasion h.
          let is = subst (λ (side : Side). IsEvasion side (after entry.at entry.by) evasion) (sym same) h in
          listed_below k p most walk are.walks (after_both entry.at entry.by evasion) entry.rank.number (followed.evasions evasion is)
          (let faster = listed.mates.faster evasion is in let has = listed.rank in omega (arith, faster, has));
    }

pub mate_listed : (k : Known) (p : Board) (most n : ℕ) (walk : MateWalk) → k.attacker ≡ p.side → AreFollowed k p most walk n
    → length walk.entries.items ≤ n → AreMateEntries One p walk.entries.items
mate_listed k p most n walk same are whole = record {
  listed = record { entry = are.root.entry; listed = are.root.listed; covers = sym are.root.same };
  borne_out = borne_out k p most n walk same are whole;
  problems = λ entry c. (are.walks.listed entry c).is_entry;
  kept = λ entry c. (are.walks.listed entry c).kept;
  texts = λ entry c. (are.each c.0 entry (let inside = c.1 in omega (arith, inside, whole)) (at_place walk.entries.items entry c)).text;
  apart = are.walks.placed.apart;
}

-- what is reached is listed
pub all_reached : (k : Known) (p : Board) (most n : ℕ) (walk : MateWalk) → AreFollowed k p most walk n → length walk.entries.items ≤ n
    → (steps : ℕ) (q : Board) → LeadsTo (IsMateStep k) p steps q → Contains (positions_of walk.entries.items) q
all_reached k p most n walk are whole zero q same =
    subst (Contains (positions_of walk.entries.items)) (are.root.same ∙ same) (contains_map place_in walk.entries.items are.root.entry are.root.listed)
all_reached k p most n walk are whole (suc steps) q (b, before, step) =
    let c = all_reached k p most n walk are whole steps b before in
    let found = from_map place_in walk.entries.items c.0 b (at_place (positions_of walk.entries.items) b c) in
    let entry : MateEntry = found.0 in
    let inside = slice_get_within walk.entries.items c.0 entry found.1 in
    let followed = are.each c.0 entry (omega (arith, inside, whole)) found.1 in
    let by = (are.walks.listed entry (contained walk.entries.items c.0 entry found.1)).by in
    let check = same_Some entry.by step.check (sym by ∙ (ap (λ (a : Board). (k.at a).by) found.2 ∙ step.by)) in
    let there : after entry.at entry.by ≡ after b step.check = ap (λ (a : Board). after a entry.by) found.2 ∙ ap (λ (m : Move). after b m) check in
    subst (Contains (positions_of walk.entries.items)) (ap (λ (a : Board). after a step.evasion) there ∙ step.leads)
    (followed.evasions step.evasion (subst (λ (a : Board). IsEvasion k.attacker a step.evasion) (sym there) step.is_evasion))

-- the evasions of an entry were all gone through
pub followed_all : (k : Known) (p : Board) (most : ℕ) (begun : List MateEntry) (walk : MateWalk) (place : ℕ) (entry : MateEntry) (checked : Board)
    (items evasions : List Move) (n : ℕ) → k.attacker ≡ p.side → slice_get begun place ≡ Some entry → checked ≡ after entry.at entry.by
    → Lists (IsEvasion p.side checked) evasions → items ≡ evasions → length items ≤ n → HasText entry.by
    → IsFollowing k p most begun walk checked items n → (other : MateEntry) → slice_get begun place ≡ Some other → IsFollowed k walk.entries.items other
followed_all k p most begun walk place entry checked items evasions n same at e lists as_listed whole text is other there =
    subst (IsFollowed k walk.entries.items) (same_Some entry other (sym at ∙ there)) (record {
      text = text;
      evasions = λ evasion h.
          let of_side = subst (λ (side : Side). IsEvasion side (after entry.at entry.by) evasion) same h in
          let listed = lists.complete evasion (subst (λ (b : Board). IsEvasion p.side b evasion) (sym e) of_side) in
          subst (λ (b : Board). Contains (positions_of walk.entries.items) (after b evasion)) e
          (of_all (λ (m : Move). Contains (positions_of walk.entries.items) (after checked m)) items evasions n as_listed whole is.each evasion listed);
    })

pub rank_there : (k : Known) (p : Board) (c : Mating) (entries : List MateEntry) → HaveSame c.entries entries → HasRankIn k entries p
    → IsListedWith c.entries (k.at p).most p
rank_there k p c entries same root = record {
  entry = root.entry;
  listed = (same root.entry).1 root.listed;
  same = root.same;
  has_rank = root.has_rank;
}

-- the same entries, in another order
module _ (k : Known) (p : Board) (c : Mating) (entries : List MateEntry) (same : HaveSame c.entries entries) where
  pub entries_there : ((entry : MateEntry) → Contains entries entry → IsMateListed k p entry) → (entry : MateEntry) → Contains c.entries entry
      → IsOfFact k entry
  entries_there listed entry there = let is = listed entry ((same entry).0 there) in record { rank = is.rank; by = is.by }

  pub positions_there : ((entry : MateEntry) → Contains entries entry → IsMateListed k p entry)
      → ((q : Board) → IsReached (IsMateStep k) p q → Contains (positions_of entries) q) → (q : Board)
      → Contains (positions_of c.entries) q ↔ IsReached (IsMateStep k) p q
  positions_there listed all q = (
    (λ there.
        let found = from_map place_in c.entries there.0 q (at_place (positions_of c.entries) q there) in
        subst (IsReached (IsMateStep k) p) found.2 (listed found.0 ((same found.0).0 (contained c.entries there.0 found.0 found.1))).reached),
    (λ reached.
        let there = all q reached in
        let found = from_map place_in entries there.0 q (at_place (positions_of entries) q there) in
        subst (Contains (positions_of c.entries)) found.2
        (contains_map place_in c.entries found.0 ((same found.0).1 (contained entries there.0 found.0 found.1)))),
  )
