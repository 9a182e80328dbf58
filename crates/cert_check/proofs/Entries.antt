-- The first reason against one entry.
use Rattle.std.proofs.Common.{◌≡◌, ◌<◌, ◌≤◌, ◌+◌, ℕ, List, get_or, length, arith, ap, sym, ◌∙◌, subst, inl, inr, ⊎_elim}
use Rattle.std.specs.Prelude.{Some, None}
use Rattle.std.proofs.lemmas.Option.{get_or_from_slice_get}
use Rattle.bit_boards.specs.declared.piece.Side.{Side}
use Rattle.board_core.specs.declared.moves.Move.{Move}
use Rattle.mate_facts.specs.declared.entry.MateEntry.{MateEntry}
use Rattle.board_core.specs.Board.{Board}
use Rattle.board_core.specs.Order.{order_of, Lists, PlacesInOrder}
use Rattle.shogi_rules.specs.Rules.{after}
use Rattle.shogi_rules.specs.Tsume.{IsCheck, IsEvasion}
use Rattle.mate_def.specs.Mate.{HasEvasionTo, after_both}
use Rattle.hand_dominance.specs.declared.version.Version.{Version}
use Rattle.hand_dominance.specs.BorneOut.{CoversListed, CoversLower, IsBorneOut, IsCovered, IsHeld}
use Rattle.dominance_places.specs.Found.{IsFoundCovered, StandsCovered}
use Rattle.cert_check.specs.Reached.{IsFoundFor}
use Rattle.cert_check.specs.Reasons.{IsNotLower, MateReason, IsEvasionJudged, EscapeReason, IsFirstReason, reason_order}
use Rattle.cert_check.specs.declared.verdict.Why.{Why}
use Rattle.cert_check.specs.declared.verdict.Why.TheVariants.{RootMissing, NotACheck, EvasionOutside, RankNotLower, CheckUnanswered}
use Rattle.cert_check.proofs.Listing.{before_in, held_at}
use Rattle.list_laws.proofs.Standing.{contained, at_place}

-- 1. The judgement on an evasion.

-- what is read at the place that was found is the entry that stands there
read_there : (version : Version) (entries : List MateEntry) (attacker : Side) (p : Board) (place : ℕ) (entry : MateEntry)
    → (s : StandsCovered version entries attacker p place) → (get_or entries place entry).rank.number ≡ s.entry.rank.number
read_there version entries attacker p place entry s =
    ap (λ (x : MateEntry). x.rank.number) (get_or_from_slice_get entries place s.entry entry s.there)

pub none_found : (version : Version) (entries : List MateEntry) (attacker : Side) (p : Board) → IsFoundCovered version entries attacker p None
    → ¬ CoversListed version entries attacker p
none_found version entries attacker p found l =
    found l.listed.0 (record { entry = l.entry; there = at_place entries l.entry l.listed; covers = l.covers })

lower_there : (version : Version) (entries : List MateEntry) (attacker : Side) (p : Board) (place rank : ℕ) (entry : MateEntry)
    → StandsCovered version entries attacker p place
    → (get_or entries place entry).rank.number < rank → CoversLower version entries attacker rank p
lower_there version entries attacker p place rank entry s lower =
    let same = read_there version entries attacker p place entry s in
    record {
      entry = s.entry;
      listed = contained entries place s.entry s.there;
      covers = s.covers;
      lower = omega (arith, same, lower);
    }

pub found_lower : (version : Version) (entries : List MateEntry) (attacker : Side) (p : Board) (place rank : ℕ) (entry : MateEntry)
    → IsFoundFor version entries attacker rank p (Some place)
    → (get_or entries place entry).rank.number < rank → CoversLower version entries attacker rank p
found_lower version entries attacker p place rank entry (inl s) lower = lower_there version entries attacker p place rank entry s.stands lower
found_lower version entries attacker p place rank entry (inr f) lower = lower_there version entries attacker p place rank entry f.stands lower

pub found_not_lower : (version : Version) (entries : List MateEntry) (attacker : Side) (p : Board) (place rank : ℕ) (entry : MateEntry)
    → IsFoundFor version entries attacker rank p (Some place)
    → rank ≤ (get_or entries place entry).rank.number → IsNotLower version entries attacker rank p
found_not_lower version entries attacker p place rank entry (inl s) not_lower =
    let same = read_there version entries attacker p place entry s.stands in
    let w = s.lower in
    absurd (omega (arith, same, not_lower, w))
found_not_lower version entries attacker p place rank entry (inr f) not_lower =
    let same = read_there version entries attacker p place entry f.stands in
    record {
      listed = record { entry = f.stands.entry; listed = contained entries place f.stands.entry f.stands.there; covers = f.stands.covers };
      not_lower = λ l.
          let w = l.lower in
          ⊎_elim (λ (less : f.stands.entry.rank.number < l.entry.rank.number). omega (arith, same, not_lower, w, less))
          (λ (tied : (f.stands.entry.rank.number ≡ l.entry.rank.number) × (place ≤ l.listed.0)).
          let e = tied.0 in omega (arith, same, not_lower, w, e))
          (f.least l.listed.0 (record { entry = l.entry; there = at_place entries l.entry l.listed; covers = l.covers }));
    }

-- 2. A mate's entry.

covers_listed : (version : Version) (entries : List MateEntry) (attacker : Side) (rank : ℕ) (p : Board) → CoversLower version entries attacker rank p
    → CoversListed version entries attacker p
covers_listed version entries attacker rank p l = record { entry = l.entry; listed = l.listed; covers = l.covers }

none_sooner : PlacesInOrder → (version : Version) (entries : List MateEntry) (attacker : Side) (entry : MateEntry) (evasions : List Move) (i : ℕ) (x : Move)
    → IsCheck attacker entry.at entry.by → Lists (IsEvasion attacker (after entry.at entry.by)) evasions
    → i < length evasions → x ≡ get_or evasions i x
    → ((k : ℕ) (a : Move) → k < i → get_or evasions k a ≡ a → CoversLower version entries attacker entry.rank.number (after_both entry.at entry.by a))
    → (sooner : Why) → reason_order sooner < 1 + order_of x → MateReason version entries attacker entry sooner → ⊥
none_sooner places version entries attacker entry evasions i x check l h is below RootMissing lt r = r
none_sooner places version entries attacker entry evasions i x check l h is below (NotACheck m) lt r = r.1 check
none_sooner places version entries attacker entry evasions i x check l h is below (EvasionOutside a) lt r =
    let there = l.complete a r.0 in
    let sooner = before_in places (IsEvasion attacker (after entry.at entry.by)) evasions l a there i x h is (omega arith) in
    r.1 (covers_listed version entries attacker entry.rank.number _ (below there.0 a sooner there.2))
none_sooner places version entries attacker entry evasions i x check l h is below (RankNotLower a) lt r =
    let there = l.complete a r.0 in
    let sooner = before_in places (IsEvasion attacker (after entry.at entry.by)) evasions l a there i x h is (omega arith) in
    r.1.not_lower (below there.0 a sooner there.2)
none_sooner places version entries attacker entry evasions i x check l h is below (CheckUnanswered m) lt r = r

first_here : PlacesInOrder → (version : Version) (entries : List MateEntry) (attacker : Side) (entry : MateEntry) (evasions : List Move) (i : ℕ) (x : Move) (why : Why)
    → IsCheck attacker entry.at entry.by → Lists (IsEvasion attacker (after entry.at entry.by)) evasions
    → i < length evasions → x ≡ get_or evasions i x
    → ((k : ℕ) (a : Move) → k < i → get_or evasions k a ≡ a → CoversLower version entries attacker entry.rank.number (after_both entry.at entry.by a))
    → IsEvasionJudged version entries attacker entry.rank.number (after_both entry.at entry.by x) x (Some why)
    → IsFirstReason (IsBorneOut version entries attacker entry) (MateReason version entries attacker entry) (Some why)
first_here places version entries attacker entry evasions i x RootMissing check l h is below j = absurd j
first_here places version entries attacker entry evasions i x (NotACheck m) check l h is below j = absurd j
first_here places version entries attacker entry evasions i x (EvasionOutside m) check l h is below j =
    subst (λ (y : Move). IsFirstReason (IsBorneOut version entries attacker entry) (MateReason version entries attacker entry) (Some (EvasionOutside y))) (sym j.0)
    ((held_at (IsEvasion attacker (after entry.at entry.by)) evasions l i x h is, j.1), none_sooner places version entries attacker entry evasions i x check l h is below)
first_here places version entries attacker entry evasions i x (RankNotLower m) check l h is below j =
    subst (λ (y : Move). IsFirstReason (IsBorneOut version entries attacker entry) (MateReason version entries attacker entry) (Some (RankNotLower y))) (sym j.0)
    ((held_at (IsEvasion attacker (after entry.at entry.by)) evasions l i x h is, j.1), none_sooner places version entries attacker entry evasions i x check l h is below)
first_here places version entries attacker entry evasions i x (CheckUnanswered m) check l h is below j = absurd j

pub first_against : PlacesInOrder → (version : Version) (entries : List MateEntry) (attacker : Side) (entry : MateEntry) (checked next : Board)
    (evasions : List Move) (i : ℕ) (x : Move) (why : Why) → checked ≡ after entry.at entry.by → next ≡ after checked x
    → IsCheck attacker entry.at entry.by → Lists (IsEvasion attacker checked) evasions → i < length evasions → x ≡ get_or evasions i x
    → ((k : ℕ) (a : Move) → k < i → get_or evasions k a ≡ a → CoversLower version entries attacker entry.rank.number (after checked a))
    → IsEvasionJudged version entries attacker entry.rank.number next x (Some why)
    → IsFirstReason (IsBorneOut version entries attacker entry) (MateReason version entries attacker entry) (Some why)
first_against places version entries attacker entry checked next evasions i x why e f check l h is below j =
    first_here places version entries attacker entry evasions i x why check
    (subst (λ (b : Board). Lists (IsEvasion attacker b) evasions) e l) h is
    (λ k a lt at. subst (λ (b : Board). CoversLower version entries attacker entry.rank.number (after b a)) e (below k a lt at))
    (subst (λ (b : Board). IsEvasionJudged version entries attacker entry.rank.number b x (Some why)) (f ∙ ap (λ (b : Board). after b x) e) j)

pub borne_out : (version : Version) (entries : List MateEntry) (attacker : Side) (entry : MateEntry) (checked : Board) (evasions : List Move) (n : ℕ)
    → checked ≡ after entry.at entry.by → IsCheck attacker entry.at entry.by → Lists (IsEvasion attacker checked) evasions → length evasions ≤ n
    → ((k : ℕ) (a : Move) → k < n → get_or evasions k a ≡ a → CoversLower version entries attacker entry.rank.number (after checked a))
    → IsBorneOut version entries attacker entry
borne_out version entries attacker entry checked evasions n e check l h below = record {
  check = check;
  evasions = λ a is_evasion.
      let there = l.complete a (subst (λ (b : Board). IsEvasion attacker b a) (sym e) is_evasion) in
      let w = there.1 in
      subst (λ (b : Board). CoversLower version entries attacker entry.rank.number (after b a)) e (below there.0 a (omega arith) there.2);
}

-- 3. An escape's entry.

pub answered_into : (version : Version) (positions : List Board) (attacker : Side) (b checked next : Board) (check evasion : Move)
    → checked ≡ after b check → next ≡ after checked evasion → IsEvasion attacker checked evasion → IsCovered version positions attacker next
    → HasEvasionTo attacker (IsCovered version positions attacker) b check
answered_into version positions attacker b checked next check evasion e f is_evasion listed = record {
  evasion = evasion;
  is_evasion = subst (λ (x : Board). IsEvasion attacker x evasion) e is_evasion;
  leads = subst (IsCovered version positions attacker) (f ∙ ap (λ (x : Board). after x evasion) e) listed;
}

pub none_answered : (version : Version) (positions : List Board) (attacker : Side) (b checked : Board) (check : Move) (evasions : List Move) (n : ℕ)
    → checked ≡ after b check → Lists (IsEvasion attacker checked) evasions → length evasions ≤ n
    → ((k : ℕ) (a : Move) → k < n → get_or evasions k a ≡ a → IsCovered version positions attacker (after checked a) → ⊥)
    → HasEvasionTo attacker (IsCovered version positions attacker) b check → ⊥
none_answered version positions attacker b checked check evasions n e l h none into =
    let there = l.complete into.evasion (subst (λ (x : Board). IsEvasion attacker x into.evasion) (sym e) into.is_evasion) in
    let w = there.1 in
    none there.0 into.evasion (omega arith) there.2 (subst (λ (x : Board). IsCovered version positions attacker (after x into.evasion)) (sym e) into.leads)

none_unanswered_sooner : PlacesInOrder → (version : Version) (positions : List Board) (attacker : Side) (b : Board) (checks : List Move) (i : ℕ) (x : Move)
    → Lists (IsCheck attacker b) checks → i < length checks → x ≡ get_or checks i x
    → ((k : ℕ) (m : Move) → k < i → get_or checks k m ≡ m → HasEvasionTo attacker (IsCovered version positions attacker) b m)
    → (sooner : Why) → reason_order sooner < 1 + order_of x → EscapeReason version positions attacker b sooner → ⊥
none_unanswered_sooner places version positions attacker b checks i x l h is below RootMissing lt r = r
none_unanswered_sooner places version positions attacker b checks i x l h is below (NotACheck m) lt r = r
none_unanswered_sooner places version positions attacker b checks i x l h is below (EvasionOutside m) lt r = r
none_unanswered_sooner places version positions attacker b checks i x l h is below (RankNotLower m) lt r = r
none_unanswered_sooner places version positions attacker b checks i x l h is below (CheckUnanswered m) lt r =
    let there = l.complete m r.0 in
    let sooner = before_in places (IsCheck attacker b) checks l m there i x h is (omega arith) in
    r.1 (below there.0 m sooner there.2)

pub first_unanswered : PlacesInOrder → (version : Version) (positions : List Board) (attacker : Side) (b : Board) (checks : List Move) (i : ℕ) (x : Move)
    → Lists (IsCheck attacker b) checks → i < length checks → x ≡ get_or checks i x
    → (HasEvasionTo attacker (IsCovered version positions attacker) b x → ⊥)
    → ((k : ℕ) (m : Move) → k < i → get_or checks k m ≡ m → HasEvasionTo attacker (IsCovered version positions attacker) b m)
    → IsFirstReason (IsHeld version positions attacker b) (EscapeReason version positions attacker b) (Some (CheckUnanswered x))
first_unanswered places version positions attacker b checks i x l h is unanswered below =
    ((held_at (IsCheck attacker b) checks l i x h is, unanswered), none_unanswered_sooner places version positions attacker b checks i x l h is below)

pub all_answered : (version : Version) (positions : List Board) (attacker : Side) (b : Board) (checks : List Move) (n : ℕ)
    → Lists (IsCheck attacker b) checks → length checks ≤ n
    → ((k : ℕ) (m : Move) → k < n → get_or checks k m ≡ m → HasEvasionTo attacker (IsCovered version positions attacker) b m)
    → IsHeld version positions attacker b
all_answered version positions attacker b checks n l h below check is_check =
    let there = l.complete check is_check in
    let w = there.1 in
    below there.0 check (omega arith) there.2
