-- The evasion that lasts longest, among the first of them.
use Rattle.std.proofs.Common.{◌≡◌, ◌<◌, ◌≤◌, ◌+◌, inl, inr, ℕ, List, get_or, length, arith, ap, sym, ◌∙◌, subst}
use Rattle.std.specs.Prelude.{Some, None, Option}
use Rattle.bit_boards.specs.declared.piece.Side.{Side}
use Rattle.board_core.specs.declared.moves.Move.{Move}
use Rattle.board_core.specs.Board.{Board}
use Rattle.board_core.specs.Order.{order_of, Lists, PlacesInOrder}
use Rattle.shogi_rules.specs.Rules.{after}
use Rattle.shogi_rules.specs.Tsume.{IsEvasion}
use Rattle.cert_text.specs.Certificate.{Mating}
use Rattle.play_line.specs.Line.{IsRankAt, IsDefence}
use Rattle.play_line.specs.Lasting.{IsLonger}
use Rattle.play_line.specs.declared.defence.Lasting.{Lasting}
use Rattle.play_line.proofs.Listed.{in_order}
use Rattle.list_laws.proofs.Standing.{each_more}

-- none of the first evasions has a higher rank
abbrev pub NoneHigher : Mating → Side → Board → List Move → ℕ → ℕ → Type 0
NoneHigher c attacker b evasions n highest = (k : ℕ) (x : Move) → k < n → get_or evasions k x ≡ x → (rank : ℕ) → IsRankAt c attacker (after b x) rank → rank ≤ highest

-- the evasion is the first of the highest rank
pub record IsBest (c : Mating) (attacker : Side) (b : Board) (evasions : List Move) (n highest : ℕ) (evasion : Move) : Type 0 where
  pub place : ℕ
  pub sooner : place < n
  pub there : get_or evasions place evasion ≡ evasion
  pub leads : IsRankAt c attacker (after b evasion) highest
  pub first : (k : ℕ) (x : Move) → k < n → get_or evasions k x ≡ x → IsRankAt c attacker (after b x) highest → order_of evasion ≤ order_of x

-- what is known of the first evasions
abbrev pub AreJudged : Mating → Side → Board → List Move → ℕ → Option Lasting → Type 0
AreJudged c attacker b evasions n None = n ≡ 0
AreJudged c attacker b evasions n (Some longest) = NoneHigher c attacker b evasions n longest.rank × IsBest c attacker b evasions n longest.rank longest.by

-- the rank of an evasion, and that it is its only one
pub record HasOnlyRank (c : Mating) (attacker : Side) (b : Board) (x : Move) (rank : ℕ) : Type 0 where
  pub has : IsRankAt c attacker (after b x) rank
  pub only : (other : ℕ) → IsRankAt c attacker (after b x) other → other ≡ rank

-- none is higher among the first and one more
higher_none : (c : Mating) (attacker : Side) (b : Board) (evasions : List Move) (n highest : ℕ) (x : Move) (rank : ℕ)
    → n < length evasions → x ≡ get_or evasions n x → HasOnlyRank c attacker b x rank → rank ≤ highest → NoneHigher c attacker b evasions n highest
    → NoneHigher c attacker b evasions (n + 1) highest
higher_none c attacker b evasions n highest x rank h is has low known =
    each_more (λ (y : Move). (r : ℕ) → IsRankAt c attacker (after b y) r → r ≤ highest) evasions n x h is
    (λ r at. let e = has.only r at in omega arith) known

-- one more that is above all before it is the best
higher : (c : Mating) (attacker : Side) (b : Board) (evasions : List Move) (n : ℕ) (x : Move) (rank : ℕ)
    → n < length evasions → x ≡ get_or evasions n x → HasOnlyRank c attacker b x rank
    → ((k : ℕ) (y : Move) → k < n → get_or evasions k y ≡ y → (r : ℕ) → IsRankAt c attacker (after b y) r → r < rank)
    → AreJudged c attacker b evasions (n + 1) (Some (record { by = x; rank = rank }))
higher c attacker b evasions n x rank h is has above = (
  higher_none c attacker b evasions n rank x rank h is has (omega arith) (λ k y lt e r at. let w = above k y lt e r at in omega arith),
  record {
    place = n;
    sooner = omega arith;
    there = sym is;
    leads = has.has;
    first = each_more (λ (y : Move). IsRankAt c attacker (after b y) rank → order_of x ≤ order_of y) evasions n x h is
        (λ at. omega arith)
        (λ k y lt e at. let w = above k y lt e rank at in absurd (omega arith));
  },
)

-- the best stays the best
still_best : PlacesInOrder → (c : Mating) (attacker : Side) (b : Board) (evasions : List Move) (n : ℕ) (a : Move) (highest : ℕ) (x : Move)
    → Lists (IsEvasion attacker b) evasions → n < length evasions → x ≡ get_or evasions n x
    → IsBest c attacker b evasions n highest a → IsBest c attacker b evasions (n + 1) highest a
still_best places c attacker b evasions n a highest x l h is best = record {
  place = best.place;
  sooner = (let s = best.sooner in omega arith);
  there = best.there;
  leads = best.leads;
  first = each_more (λ (y : Move). IsRankAt c attacker (after b y) highest → order_of a ≤ order_of y) evasions n x h is
      (λ at. in_order places evasions l.rises best.place n a x best.sooner h best.there is)
      best.first;
}

-- the longest of the first and one more
pub longest_more : PlacesInOrder → (c : Mating) (attacker : Side) (b : Board) (evasions : List Move) (n : ℕ) (longest : Option Lasting) (next : Lasting)
    (x : Move) (rank : ℕ) (new : Lasting) → Lists (IsEvasion attacker b) evasions → n < length evasions → x ≡ get_or evasions n x
    → HasOnlyRank c attacker b x rank → next ≡ record { by = x; rank = rank } → IsLonger longest next new → AreJudged c attacker b evasions n longest
    → AreJudged c attacker b evasions (n + 1) (Some new)
longest_more places c attacker b evasions n None next x rank new l h is has made longer none =
    subst (λ (m : Lasting). AreJudged c attacker b evasions (n + 1) (Some m)) (sym (longer ∙ made))
    (higher c attacker b evasions n x rank h is has (λ k y lt e r at. absurd (omega arith)))
longest_more places c attacker b evasions n (Some first) next x rank new l h is has made (inl above) known =
    let of_next : next.rank ≡ rank = ap (λ (m : Lasting). m.rank) made in
    let w = above.0 in
    subst (λ (m : Lasting). AreJudged c attacker b evasions (n + 1) (Some m)) (sym (above.1 ∙ made))
    (higher c attacker b evasions n x rank h is has (λ k y lt e r at. let v = known.0 k y lt e r at in omega arith))
longest_more places c attacker b evasions n (Some first) next x rank new l h is has made (inr below) known =
    let of_next : next.rank ≡ rank = ap (λ (m : Lasting). m.rank) made in
    let w = below.0 in
    subst (λ (m : Lasting). AreJudged c attacker b evasions (n + 1) (Some m)) (sym below.1) (
      higher_none c attacker b evasions n first.rank x rank h is has (omega arith) known.0,
      still_best places c attacker b evasions n first.by first.rank x l h is known.1,
    )

-- the move of what lasts longest
abbrev pub move_of : Option Lasting → Option Move
move_of None = None
move_of (Some longest) = Some longest.by

-- all are judged
pub judged : (c : Mating) (attacker : Side) (b : Board) (evasions : List Move) (n : ℕ) (longest : Option Lasting)
    → Lists (IsEvasion attacker b) evasions → length evasions ≤ n → n ≤ length evasions → AreJudged c attacker b evasions n longest
    → IsDefence c attacker b (move_of longest)
judged c attacker b evasions n None l h g none = λ evasion is_evasion.
    let there = l.complete evasion is_evasion in
    let w = there.1 in
    absurd (omega arith)
judged c attacker b evasions n (Some longest) l h g known =
    let best = known.1 in
    let s = best.sooner in
    record {
      is_evasion = l.sound longest.by (best.place, omega arith, best.there);
      rank = longest.rank;
      leads = best.leads;
      highest = λ other lower is_evasion at.
          let there = l.complete other is_evasion in
          let w = there.1 in
          known.0 there.0 other (omega arith) there.2 lower at;
      first = λ other is_evasion at.
          let there = l.complete other is_evasion in
          let w = there.1 in
          best.first there.0 other (omega arith) there.2 at;
    }

-- the same, of what the code holds
pub evasions_here : (attacker : Side) (b : Board) (evasions items : List Move) → items ≡ evasions → Lists (IsEvasion attacker b) evasions
    → Lists (IsEvasion attacker b) items
evasions_here attacker b evasions items same l = subst (λ (ms : List Move). Lists (IsEvasion attacker b) ms) (sym same) l

pub evasion_at : (attacker : Side) (b : Board) (evasions : List Move) → Lists (IsEvasion attacker b) evasions → (n : ℕ) (x : Move)
    → n < length evasions → x ≡ get_or evasions n x → IsEvasion attacker b x
evasion_at attacker b evasions l n x h is = l.sound x (n, h, sym is)
