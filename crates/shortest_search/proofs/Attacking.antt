-- What the loops of a visit have found out, and what follows at their end.
use Rattle.std.proofs.Common.{◌≡◌, ◌⊎◌, ◌<◌, ◌≤◌, ◌+◌, inl, inr, ◌∙◌, ℕ, List, length, map, get_or, Contains, arith, sym, ap, subst, ⊎_elim, min, max}
use Rattle.std.specs.Prelude.{◌-◌, ◌^◌, Bool, Some, None, Option, slice_get, IsSomeAnd}
use Rattle.std.specs.List.Sorted.{IsPermutation}
use Rattle.std.proofs.lemmas.Bool.{cases_eq}
use Rattle.std.proofs.lemmas.List.Sorted.{Contains-permutation, IsPermutation-sym}
use Rattle.std.proofs.lemmas.Option.{slice_get_within, get_or_from_slice_get}
use Rattle.bit_boards.specs.declared.piece.Side.{Side}
use Rattle.board_core.specs.declared.moves.Move.{Move}
use Rattle.board_core.specs.Board.{Board}
use Rattle.board_core.specs.Kept.{IsKept}
use Rattle.board_core.specs.Order.{Lists}
use Rattle.list_laws.proofs.Standing.{contained, at_place, first_of, from_map}
use Rattle.search_gate.specs.Polls.{IsPolledForEach}
use Rattle.search_gate.specs.Stop.{Signal, polled}
use Rattle.shogi_rules.specs.Rules.{after}
use Rattle.shogi_rules.specs.Tsume.{IsCheck, IsEvasion}
use Rattle.shogi_rules.proofs.Offered.{kept_after}
use Rattle.shogi_rules.proofs.ToMove.{after_check}
use Rattle.mate_def.specs.Mate.{HasEvasionTo, after_both}
use Rattle.shortest_facts.specs.declared.fact.TheConstants.{NEVER}
use Rattle.shortest_facts.specs.Facts.{Known, AreBorneOut, IsBetter, HasNoCheck, HoldsOut}
use Rattle.shortest_facts.specs.Keys.{known_of}
use Rattle.shortest_search.specs.declared.child.Child.{Child}
use Rattle.shortest_search.specs.declared.run.Run.{Run}
use Rattle.shortest_search.specs.Children.{AreAll, IsKnownCheck, IsKnownEvasion, IsNext}
use Rattle.shortest_search.specs.Visit.{GoesOn, TakesMore, TakesNoMore}

-- Of the first checks of a list each has an evasion, and a mate is known to take so many moves from
-- where it leads, where that is more than one.
pub record LastsFrom (k : Known) (b : Board) (moves : List Move) (n low : ℕ) : Type 0 where
  pub some : 1 ≤ low
  pub few : low ≤ NEVER
  pub evaded : (i : ℕ) (m : Move) → i < n → slice_get moves i ≡ Some m → HasEvasionTo k.attacker (λ next. Unit {0}) b m
  pub long : 1 < low → (i : ℕ) (m : Move) → i < n → slice_get moves i ≡ Some m → low ≤ (k.at (after b m)).least

-- From where the first children lead a mate is known to take so many moves, more than the number.
pub record LastChecks (k : Known) (b : Board) (children : List Child) (n fewer low : ℕ) : Type 0 where
  pub more : fewer < low
  pub few : low ≤ NEVER
  pub long : (i : ℕ) (child : Child) → i < n → slice_get children i ≡ Some child → low ≤ (k.at (after b child.by)).least

-- Where the first children lead is known to be mate in so many moves, no more than the number.
pub record MatedEvasions (k : Known) (b : Board) (children : List Child) (n within high : ℕ) : Type 0 where
  pub few : high ≤ within
  pub fast : (i : ℕ) (child : Child) → i < n → slice_get children i ≡ Some child → (k.at (after b child.by)).most ≤ high

-- The stop signalled nothing by now, between so many expansions and so many.
pub record StaysQuiet (made made_after : ℕ) (before after_it : Signal) : Type 0 where
  pub polled : IsPolledForEach made made_after before after_it
  pub quiet : after_it.raised ≡ before.raised

-- 1. WHAT GOES ON.

polled_on : (m n o : ℕ) (a b c : Signal) → IsPolledForEach m n a b → IsPolledForEach n o b c → n ≤ o → IsPolledForEach m o a c
polled_on m n o a b c one two more = record {
  polled = record {
    armed = two.polled.armed ∙ one.polled.armed;
    arms = two.polled.arms ∙ one.polled.arms;
    early = two.polled.early ∙ one.polled.early;
  };
  each = λ low.
      let i = two.each low in
      let h = one.each (omega (arith, low, i, more)) in
      omega (arith, h, i);
}

pub polled_once : (made : ℕ) (s after_it : Signal) (stops : Bool) → after_it ≡ polled s stops → IsPolledForEach made (made + 1) s after_it
polled_once made s after_it stops e = record {
  polled = record {
    armed = ap (λ (x : Signal). x.armed) e;
    arms = ap (λ (x : Signal). x.arms) e;
    early = ap (λ (x : Signal). x.early) e;
  };
  each = λ low. let h = polls in omega (arith, h, low);
}
  where
    polls : after_it.polls ≡ min (s.polls + 1) (2 ^ 64 - 1)
    polls = ap (λ (x : Signal). x.polls) e

-- an expansion that wasn't made needs no poll
pub polled_more : (made : ℕ) (a b : Signal) → IsPolledForEach made (made + 1) a b → IsPolledForEach made made a b
polled_more made a b p = record {
  polled = p.polled;
  each = λ low. let h = p.each low in omega (arith, h);
}

pub quiet_on : (m n o : ℕ) (a b c : Signal) → StaysQuiet m n a b → IsPolledForEach n o b c → n ≤ o → c.raised ≡ b.raised → StaysQuiet m o a c
quiet_on m n o a b c before polled more same = record {
  polled = polled_on m n o a b c before.polled polled more;
  quiet = same ∙ before.quiet;
}

pub better_on : (k l m : Known) → IsBetter k l → IsBetter l m → IsBetter k m
better_on k l m one two = record {
  same = two.same ∙ one.same;
  least = λ b kept. let h = one.least b kept in let i = two.least b kept in omega (arith, h, i);
  most = λ b kept. let h = one.most b kept in let i = two.most b kept in omega (arith, h, i);
}

pub run_on : (a b c : Run) → GoesOn a b → GoesOn b c → GoesOn a c
run_on a b c one two = record {
  borne_out = two.borne_out;
  better = better_on (known_of a.facts) (known_of b.facts) (known_of c.facts) one.better two.better;
  same_most = two.same_most ∙ one.same_most;
  made = (let h = one.made in let i = two.made in omega (arith, h, i));
  within = two.within;
}

-- 2. CHILDREN.

pub child_at : (P : Child → Type 0) (W : Move → Type 0) (children sorted items : List Child) (i : ℕ) (child : Child) → AreAll P W children
    → IsPermutation children sorted → items ≡ sorted → i < length items → child ≡ get_or items i child → P child
child_at P W children sorted items i child all moved e inside is =
    all.each child (Contains-permutation sorted children child (IsPermutation-sym children sorted moved)
    (subst (λ (cs : List Child). Contains cs child) e (i, inside, sym is)))

-- Each wanted move is that of a child at some place.
pub record Stands (items : List Child) (move : Move) : Type 0 where
  pub place : ℕ
  pub child : Child
  pub there : slice_get items place ≡ Some child
  pub same : child.by ≡ move

pub move_at : (P : Child → Type 0) (W : Move → Type 0) (children sorted items : List Child) (move : Move) → AreAll P W children
    → IsPermutation children sorted → items ≡ sorted → W move → Stands items move
move_at P W children sorted items move all moved e wanted =
    let c = all.all move wanted in
    let found = from_map (λ (x : Child). x.by) children c.0 move (at_place (map (λ (x : Child). x.by) children) move c) in
    let child = found.0 in
    let there = subst (λ (cs : List Child). Contains cs child) (sym e) (Contains-permutation children sorted child moved (contained children c.0 child found.1)) in
    record { place = there.0; child = child; there = at_place items child there; same = found.2 }

pub lift_check : (k l : Known) (b : Board) (child : Child) → IsKept b → IsBetter k l → IsKnownCheck k b child → IsKnownCheck l b child
lift_check k l b child kept better known = record {
  is_check = subst (λ (s : Side). IsCheck s b child.by) (sym better.same) known.is_check;
  most = λ finite evasion is.
      let before = subst (λ (s : Side). IsEvasion s (after b child.by) evasion) better.same is in
      let h = known.most finite evasion before in
      let falls = better.most (after_both b child.by evasion) (kept_after (after b child.by) evasion (kept_after b child.by kept known.is_check.legal) before.legal) in
      omega (arith, h, falls);
  least = λ more. let h = known.least more in let rises = better.least (after b child.by) (kept_after b child.by kept known.is_check.legal) in omega (arith, h, rises);
}

pub lift_evasion : (k l : Known) (b : Board) (child : Child) → IsKept b → IsBetter k l → IsKnownEvasion k b child → IsKnownEvasion l b child
lift_evasion k l b child kept better known =
    let there = kept_after b child.by kept known.is_evasion.legal in
    record {
      is_evasion = subst (λ (s : Side). IsEvasion s b child.by) (sym better.same) known.is_evasion;
      most = (let h = known.most in let falls = better.most (after b child.by) there in omega (arith, h, falls));
      least = ⊎_elim (λ (none : HasNoCheck k.attacker (after b child.by)). inl (subst (λ (s : Side). HasNoCheck s (after b child.by)) (sym better.same) none))
          (λ (h : child.least ≤ (k.at (after b child.by)).least). let rises = better.least (after b child.by) there in inr (omega (arith, h, rises))) known.least;
    }

-- 3. THE LOOP OVER CHECKS.

below_cases : (i n : ℕ) → i < n + 1 → (i < n) ⊎ (i ≡ n)
below_cases i n h = ⊎_elim (λ (e : i ≡ n). inr e) (λ (e : i ≡ n → ⊥). inl (omega (arith, h, e))) (cases_eq i n)

at_last : {X : Type 0} (items : List X) (n : ℕ) (child c : X) → child ≡ get_or items n child → slice_get items n ≡ Some c → child ≡ c
at_last items n child c is there = is ∙ get_or_from_slice_get items n c child there

-- One check more was tried; the others lead where they led.
pub lasts_on : (k l : Known) (b : Board) (items : List Child) (n fewer low least next : ℕ) (child : Child) → IsKept b → IsBetter k l
    → ((i : ℕ) (c : Child) → slice_get items i ≡ Some c → IsCheck k.attacker b c.by)
    → LastChecks k b items n fewer low → n < length items → child ≡ get_or items n child → TakesMore l (after b child.by) fewer least → next ≡ min low least
    → LastChecks l b items (n + 1) fewer next
lasts_on k l b items n fewer low least next child kept better checks so_far inside is tried e =
    let more = so_far.more in
    let few = so_far.few in
    let also = tried.more in
    let known = tried.known in
    record {
      more = grind (arith, e, more, also);
      few = grind (arith, e, few);
      long = λ i c h there.
          ⊎_elim (λ (before : i < n).
          let rises = better.least (after b c.by) (kept_after b c.by kept (checks i c there).legal) in
          let long = so_far.long i c before there in
          grind (arith, e, rises, long))
          (λ (last : i ≡ n).
          let same : child ≡ c = at_last items n child c is (subst (λ (m : ℕ). slice_get items m ≡ Some c) last there) in
          let here : least ≤ (l.at (after b c.by)).least = subst (λ (x : Child). least ≤ (l.at (after b x.by)).least) same known in
          grind (arith, e, here))
          (below_cases i n h);
    }

pub none_tried : (k : Known) (b : Board) (items : List Child) (fewer low : ℕ) → fewer < low → low ≤ NEVER → LastChecks k b items 0 fewer low
none_tried k b items fewer low more few = record { more = more; few = few; long = λ i c h there. absurd (omega (arith, h)) }

-- A check that lasts has an evasion.
pub evaded_if : (k : Known) (b : Board) (check : Move) (low : ℕ) → IsKept b → AreBorneOut k → IsCheck k.attacker b check → 1 < low
    → low ≤ (k.at (after b check)).least → HasEvasionTo k.attacker (λ next. Unit {0}) b check
evaded_if k b check low kept all is more long =
    let stands = all.defender (after b check) (kept_after b check kept is.legal) (after_check k.attacker b check is) in
    by_move (k.at (after b check)).by (stands.holds_out (omega (arith, more, long)))
  where
    by_move : (o : Option Move) → IsSomeAnd o (HoldsOut k (after b check)) → HasEvasionTo k.attacker (λ next. Unit {0}) b check
    by_move (Some evasion) h = record { evasion = evasion; is_evasion = h.is_evasion; leads = tt }
    by_move None h = absurd h

pub all_evaded : (k : Known) (b : Board) (items : List Child) (n fewer low : ℕ) → IsKept b → AreBorneOut k → length items ≤ n → 1 ≤ fewer
    → LastChecks k b items n fewer low → ((check : Move) → IsCheck k.attacker b check → Stands items check)
    → (check : Move) → IsCheck k.attacker b check → HasEvasionTo k.attacker (λ next. Unit {0}) b check
all_evaded k b items n fewer low kept all long some lasts stand check is =
    let s = stand check is in
    let inside = slice_get_within items s.place s.child s.there in
    let h = subst (λ (m : Move). low ≤ (k.at (after b m)).least) s.same (lasts.long s.place s.child (omega (arith, inside, long)) s.there) in
    evaded_if k b check low kept all is (let m = lasts.more in omega (arith, m, some)) h

pub next_below : (low next least : ℕ) → IsNext low next → low ≤ least → next ≤ least + 1
next_below low next least (inl e) h = omega (arith, e, h)
next_below low next least (inr e) h = (let a = e.0 in let b = e.1 in omega (arith, a, b, h))

pub all_longer : (k : Known) (b : Board) (items : List Child) (n fewer low next : ℕ) → length items ≤ n
    → LastChecks k b items n fewer low → ((check : Move) → IsCheck k.attacker b check → Stands items check) → IsNext low next
    → (check : Move) → IsCheck k.attacker b check → next ≤ (k.at (after b check)).least + 1
all_longer k b items n fewer low next long lasts stand is_next check is =
    let s = stand check is in
    let inside = slice_get_within items s.place s.child s.there in
    let h = subst (λ (m : Move). low ≤ (k.at (after b m)).least) s.same (lasts.long s.place s.child (omega (arith, inside, long)) s.there) in
    next_below low next (k.at (after b check)).least is_next h

-- 4. THE LOOP OVER EVASIONS.

pub mated_on : (k l : Known) (b : Board) (items : List Child) (n within high most next : ℕ) (child : Child) → IsKept b → IsBetter k l
    → ((i : ℕ) (c : Child) → slice_get items i ≡ Some c → IsEvasion k.attacker b c.by)
    → MatedEvasions k b items n within high → n < length items → child ≡ get_or items n child → TakesNoMore l (after b child.by) within most → next ≡ max high most
    → MatedEvasions l b items (n + 1) within next
mated_on k l b items n within high most next child kept better evasions so_far inside is tried e =
    let few = so_far.few in
    let also = tried.few in
    let known = tried.known in
    record {
      few = grind (arith, e, few, also);
      fast = λ i c h there.
          ⊎_elim (λ (before : i < n).
          let falls = better.most (after b c.by) (kept_after b c.by kept (evasions i c there).legal) in
          let fast = so_far.fast i c before there in
          grind (arith, e, falls, fast))
          (λ (last : i ≡ n).
          let same : child ≡ c = at_last items n child c is (subst (λ (m : ℕ). slice_get items m ≡ Some c) last there) in
          let here : (l.at (after b c.by)).most ≤ most = subst (λ (x : Child). (l.at (after b x.by)).most ≤ most) same known in
          grind (arith, e, here))
          (below_cases i n h);
    }

pub all_mated : (k : Known) (b : Board) (items : List Child) (n within high : ℕ) → length items ≤ n
    → MatedEvasions k b items n within high → ((evasion : Move) → IsEvasion k.attacker b evasion → Stands items evasion)
    → (evasion : Move) → IsEvasion k.attacker b evasion → (k.at (after b evasion)).most ≤ high
all_mated k b items n within high long mated stand evasion is =
    let s = stand evasion is in
    let inside = slice_get_within items s.place s.child s.there in
    subst (λ (m : Move). (k.at (after b m)).most ≤ high) s.same (mated.fast s.place s.child (omega (arith, inside, long)) s.there)

-- 5. A MATE AT ONCE.

pub check_at : (attacker side : Side) (b : Board) (listed items : List Move) (i : ℕ) (m : Move) → attacker ≡ side → Lists (IsCheck side b) listed → items ≡ listed
    → i < length items → m ≡ get_or items i m → IsCheck attacker b m
check_at attacker side b listed items i m same lists e inside is =
    subst (λ (s : Side). IsCheck s b m) (sym same) (lists.sound m (subst (λ (ms : List Move). Contains ms m) e (i, inside, sym is)))

pub none_yet : (k : Known) (b : Board) (moves : List Move) → LastsFrom k b moves 0 NEVER
none_yet k b moves = record {
  some = omega arith;
  few = omega arith;
  evaded = λ i m h there. absurd (omega (arith, h));
  long = λ more i m h there. absurd (omega (arith, h));
}

-- An evasion stands in a list that isn't empty.
pub first_evasion : (attacker side : Side) (b next : Board) (check : Move) (evasions : List Move) → attacker ≡ side → next ≡ after b check
    → Lists (IsEvasion side next) evasions → 0 < length evasions → HasEvasionTo attacker (λ next. Unit {0}) b check
first_evasion attacker side b next check evasions same e lists some =
    let f = first_of evasions some in
    record {
      evasion = f.0;
      is_evasion = subst (λ (s : Side). IsEvasion s (after b check) f.0) (sym same) (subst (λ (x : Board). IsEvasion side x f.0) e (lists.sound f.0 f.1));
      leads = tt;
    }

pub once_on : (k : Known) (b next : Board) (moves : List Move) (n low least lasts new : ℕ) (check : Move) → LastsFrom k b moves n low → n < length moves
    → check ≡ get_or moves n check → next ≡ after b check → HasEvasionTo k.attacker (λ next. Unit {0}) b check → least ≡ (k.at next).least
    → lasts ≡ max least 1 → new ≡ min low lasts → LastsFrom k b moves (n + 1) new
once_on k b next moves n low least lasts new check so_far inside is e evaded known big small =
    let some = so_far.some in
    let few = so_far.few in
    record {
      some = grind (arith, small, big, some);
      few = grind (arith, small, few);
      evaded = λ i m h there.
          ⊎_elim (λ (before : i < n). so_far.evaded i m before there)
          (λ (last : i ≡ n).
          subst (λ (x : Move). HasEvasionTo k.attacker (λ next. Unit {0}) b x) (at_last moves n check m is (subst (λ (j : ℕ). slice_get moves j ≡ Some m) last there)) evaded)
          (below_cases i n h);
      long = λ more i m h there.
          ⊎_elim (λ (before : i < n).
          let h1 : 1 < low = grind (arith, small, more) in
          let long = so_far.long h1 i m before there in
          grind (arith, small, long))
          (λ (last : i ≡ n).
          let same : check ≡ m = at_last moves n check m is (subst (λ (j : ℕ). slice_get moves j ≡ Some m) last there) in
          let here : least ≡ (k.at (after b m)).least = known ∙ (ap (λ (x : Board). (k.at x).least) e ∙ ap (λ (x : Move). (k.at (after b x)).least) same) in
          grind (arith, small, big, more, here))
          (below_cases i n h);
    }

-- Each listed check stands at a place.
place_of : (attacker side : Side) (b : Board) (listed items : List Move) (check : Move) → attacker ≡ side → Lists (IsCheck side b) listed → items ≡ listed
    → IsCheck attacker b check → Contains items check
place_of attacker side b listed items check same lists e is =
    subst (λ (ms : List Move). Contains ms check) (sym e) (lists.complete check (subst (λ (s : Side). IsCheck s b check) same is))

pub once_evaded : (k : Known) (side : Side) (b : Board) (listed items : List Move) (n low : ℕ) → k.attacker ≡ side → Lists (IsCheck side b) listed → items ≡ listed
    → length items ≤ n → LastsFrom k b items n low → (check : Move) → IsCheck k.attacker b check → HasEvasionTo k.attacker (λ next. Unit {0}) b check
once_evaded k side b listed items n low same lists e long lasts check is =
    let c = place_of k.attacker side b listed items check same lists e is in
    let inside = c.1 in
    lasts.evaded c.0 check (omega (arith, inside, long)) (at_place items check c)

pub once_longer : (k : Known) (side : Side) (b : Board) (listed items : List Move) (n low next : ℕ) → k.attacker ≡ side → Lists (IsCheck side b) listed → items ≡ listed
    → length items ≤ n → LastsFrom k b items n low → IsNext low next → 2 < next → (check : Move) → IsCheck k.attacker b check
    → next ≤ (k.at (after b check)).least + 1
once_longer k side b listed items n low next same lists e long lasts is_next more check is =
    let c = place_of k.attacker side b listed items check same lists e is in
    let inside = c.1 in
    next_below low next (k.at (after b check)).least is_next
    (lasts.long (above_one low next is_next more) c.0 check (omega (arith, inside, long)) (at_place items check c))
  where
    above_one : (low next : ℕ) → IsNext low next → 2 < next → 1 < low
    above_one low next (inl e) h = omega (arith, e, h)
    above_one low next (inr e) h = (let a = e.1 in omega (arith, a))

pub no_evasion : (attacker side : Side) (next : Board) (evasions : List Move) (n : ℕ) (evasion : Move) → attacker ≡ side → Lists (IsEvasion side next) evasions
    → n ≡ length evasions → n ≡ 0 → IsEvasion attacker next evasion → ⊥
no_evasion attacker side next evasions n evasion same lists long none is =
    let c = lists.complete evasion (subst (λ (s : Side). IsEvasion s next evasion) same is) in
    let inside = c.1 in
    omega (arith, inside, long, none)
