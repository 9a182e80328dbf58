-- What one seat that has every part says of the desk.
use Rattle.std.proofs.Common.{◌≡◌, ℕ, ◌+◌, ◌<◌, ◌≤◌, Bool, List, [], length, slice_index, sym, refl, ap, ◌∙◌, cond, arith}
use Rattle.std.specs.Prelude.{sum_by, min, Option, Some, None, IsSome, IsNone, IsTrue, IfSome, is_some}
use Rattle.std.proofs.Math.Nat.{min-eq_left, min-eq_right, min-le_right}
use native.Mathlib.Decide.{dec_le}
use lib.ListN.{get_elem?}
use mathlib.Core.Option.{some}
use Rattle.atomic_table.specs.Table.{State, Final, Seen}
use Rattle.notes.specs.Derivation.{Derivation}
use Rattle.unit_desk.specs.Desk.{IsAnswerTo}
use Rattle.word_desk.specs.declared.view.TheConstants.{MOST_SEATS}
use Rattle.word_desk.specs.declared.view.View.{View}
use Rattle.word_desk.specs.Rule.{sum_to, count_above, IsFit, IsKept}
use Rattle.word_desk.specs.WordDesk.{WordDeskView, numbers_to, seat_of, times, once_to, AreEachTo, Ends}
use Rattle.view_sums.proofs.Views.{All-at}
use Rattle.word_desk.proofs.Sums.{cut, one_of, sum_to-cut, sum_to-ones, sum_by-ones, sum_to-one_of, once_to-le, sum_by-numbers_to, length-parts}
use Rattle.word_desk.proofs.Fits.{drawn_weight, claimed_weight, alone}

-- what the rule says of a view that has every part
pub record IsAll (words : List ℕ) (v : View) : Type 0 where
  pub tickets : ℕ
  pub winners : ℕ
  pub draws : (weight : ℕ → ℕ) → sum_by weight v.drawn + sum_by weight v.missed ≡ sum_to weight tickets
  pub claims : (weight : ℕ → ℕ) → sum_by weight v.claimed ≡ sum_to weight (slice_index words 1)
  pub wins : cond v.won 1 0 ≡ winners
  pub once : winners ≤ 1
  pub met : IsTrue v.met → winners ≡ 1
  pub missed : winners ≡ 0 → v.missed ≡ []

pub closes : (id : ℕ) (v : View) (words slots : List ℕ) → v.parts ≡ MOST_SEATS
    → Final (Seen (λ (s : State ℕ View). IsKept s.words s.views) id v) words slots → IsAll words v
closes id v words slots every f =
    let s : State ℕ View = f.0 in
    let k : IsKept s.words s.views = f.1.0 in
    let at : get_elem? s.views id ≡ some v = f.1.1 in
    let is : s.words ≡ words = f.2 in
    let parts : sum_by (λ u. u.parts) s.views ≡ v.parts = k.parts ∙ sym every in
    let fit = All-at (IsFit k.winners) s.views id v k.fit at in
    record {
      tickets = k.tickets;
      winners = k.winners;
      draws = λ weight. sym (alone (drawn_weight weight) k.winners refl s.views id v k.fit at parts) ∙ k.draws weight;
      claims = λ weight. sym (alone (claimed_weight weight) k.winners refl s.views id v k.fit at parts) ∙ (k.claims weight ∙ ap (λ ws. sum_to weight (slice_index ws 1)) is);
      wins = sym (alone (λ u. cond u.won 1 0) k.winners refl s.views id v k.fit at parts) ∙ k.wins;
      once = k.once;
      met = fit.met;
      missed = fit.missed;
    }

-- NUMBERS THAT ARE EACH ONCE, CUT AT A LIMIT.

-- what lies within the limit of such numbers weighs what those up to the lesser of both weigh
kept_weight : (limit last : ℕ) (numbers : List ℕ) → ((weight : ℕ → ℕ) → sum_by weight numbers ≡ sum_to weight last)
    → (weight : ℕ → ℕ) → sum_by weight (numbers_to limit numbers) ≡ sum_to weight (min last limit)
kept_weight limit last numbers all weight =
    sum_by-numbers_to limit weight numbers ∙ (all (cut limit weight) ∙ sum_to-cut limit weight last)

kept_length : (limit last : ℕ) (numbers : List ℕ) → ((weight : ℕ → ℕ) → sum_by weight numbers ≡ sum_to weight last)
    → length (numbers_to limit numbers) ≡ min last limit
kept_length limit last numbers all =
    sym (sum_by-ones (numbers_to limit numbers)) ∙ (kept_weight limit last numbers all (λ _. 1) ∙ sum_to-ones (min last limit))

all_length : (limit last : ℕ) (numbers : List ℕ) → ((weight : ℕ → ℕ) → sum_by weight numbers ≡ sum_to weight last)
    → length (numbers_to limit numbers) + count_above limit numbers ≡ last
all_length limit last numbers all = length-parts limit numbers ∙ (sym (sum_by-ones numbers) ∙ (all (λ _. 1) ∙ sum_to-ones last))

-- they are the numbers from 1 to the lesser of the limit and of how many there are
pub kept_each : (limit last : ℕ) (numbers : List ℕ) → ((weight : ℕ → ℕ) → sum_by weight numbers ≡ sum_to weight last)
    → AreEachTo (min (length (numbers_to limit numbers) + count_above limit numbers) limit) (numbers_to limit numbers)
kept_each limit last numbers all number =
    kept_weight limit last numbers all (one_of number)
    ∙ (sum_to-one_of number (min last limit)
    ∙ ap (λ z. once_to (min z limit) number) (sym (all_length limit last numbers all)))

least : (last limit : ℕ) → min last limit < last → min last limit ≡ limit
least last limit h = go (dec_le last limit)
  where
    go : Dec (last ≤ limit) → min last limit ≡ limit
    go (yes d) = let e = min-eq_left d in absurd (omega (arith, e, h))
    go (no d) = min-eq_right (omega (arith, d))

-- where some lie above the limit, the others are as many as it
pub kept_all : (limit last : ℕ) (numbers : List ℕ) → ((weight : ℕ → ℕ) → sum_by weight numbers ≡ sum_to weight last)
    → 0 < count_above limit numbers → length (numbers_to limit numbers) ≡ limit
kept_all limit last numbers all more =
    let len = kept_length limit last numbers all in
    let whole = all_length limit last numbers all in
    len ∙ least last limit (omega (arith, len, whole, more))

-- where there are others too, none is twice
pub kept_apart : (limit last : ℕ) (numbers others : List ℕ) → ((weight : ℕ → ℕ) → sum_by weight numbers + sum_by weight others ≡ sum_to weight last)
    → (number : ℕ) → times number (numbers_to limit numbers) ≤ once_to limit number
kept_apart limit last numbers others all number =
    let here = sum_by-numbers_to limit (one_of number) numbers in
    let both = all (cut limit (one_of number)) in
    let to = sum_to-cut limit (one_of number) last in
    let once = sum_to-one_of number (min last limit) in
    let most = once_to-le (min last limit) limit number (min-le_right last limit) in
    omega (arith, here, both, to, once, most)

-- THE END.

won_some : (b : Bool) (winners : ℕ) (o : Option Derivation) → b ≡ is_some o → cond b 1 0 ≡ winners → winners ≡ 1 → IsSome o
won_some b winners None e f g = let z : ◌≡◌ {A = ℕ} 0 1 = sym (ap (λ (c : Bool). cond {A = ℕ} c 1 0) e) ∙ (f ∙ g) in absurd (omega (arith, z))
won_some b winners (Some note) e f g = refl

nobody_won : (b : Bool) (winners : ℕ) (o : Option Derivation) → b ≡ is_some o → cond b 1 0 ≡ winners → IsNone o → winners ≡ 0
nobody_won b winners o e f none = sym f ∙ ap (λ (c : Bool). cond {A = ℕ} c 1 0) (e ∙ none)

pub ends : (desk : WordDeskView) (words : List ℕ) (v : View) (its_drawn its_claimed : ℕ) (its_note : Option Derivation)
    → IsAll words v → IfSome its_note (IsAnswerTo desk.position) → its_drawn ≡ length (numbers_to desk.expansions v.drawn) → its_claimed ≡ min (slice_index words 1) desk.room → v.won ≡ is_some its_note
    → Ends (seat_of desk v its_note) its_drawn its_claimed its_note
ends desk words v its_drawn its_claimed its_note all answer counter claimed_is won =
    let expansions : ℕ = desk.expansions in
    let room : ℕ = desk.room in
    let claims : ℕ = slice_index words 1 in
    let claimed_len : its_claimed ≡ length (numbers_to room v.claimed) = claimed_is ∙ sym (kept_length room claims v.claimed all.claims) in
    let none_missed : IsNone its_note → v.missed ≡ [] = λ none. all.missed (nobody_won v.won all.winners its_note won all.wins none) in
    let open_draws : IsNone its_note → (weight : ℕ → ℕ) → sum_by weight v.drawn ≡ sum_to weight all.tickets = λ none weight.
    let gone : sum_by weight v.missed ≡ 0 = ap (sum_by weight) (none_missed none) in
    let both = all.draws weight in omega (arith, gone, both) in
    record {
      drawn = counter;
      claimed = claimed_len;
      note = refl;
      answer = answer;
      met = λ m. won_some v.won all.winners its_note won all.wins (all.met m);
      apart = kept_apart expansions all.tickets v.drawn v.missed all.draws;
      visits = λ none number.
          let gone : length v.missed ≡ 0 = ap length (none_missed none) in
          let same : count_above expansions v.drawn + length v.missed ≡ count_above expansions v.drawn = omega (arith, gone) in
          kept_each expansions all.tickets v.drawn (open_draws none) number
          ∙ ap (λ z. once_to (min (length (numbers_to expansions v.drawn) + z) expansions) number) (sym same);
      claims = kept_each room claims v.claimed all.claims;
      all_drawn = λ none more.
          let gone : length v.missed ≡ 0 = ap length (none_missed none) in
          counter ∙ kept_all expansions all.tickets v.drawn (open_draws none) (omega (arith, gone, more));
      all_claimed = λ more. claimed_len ∙ kept_all room claims v.claimed all.claims more;
    }
