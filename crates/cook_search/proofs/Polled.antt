-- Stops that are polled again and again.
use Rattle.std.proofs.Common.{◌≡◌, ◌≤◌, ◌∙◌, ℕ, zero, suc, List, [], ◌∷◌, length, map, arith, ap, refl, subst}
use Rattle.std.proofs.lemmas.List.{length-map}
use Rattle.search_gate.specs.Stop.{Signal}
use Rattle.search_gate.specs.Polls.{ArePolled, IsPolled}

polled_again : (a b c : Signal) → IsPolled a b → IsPolled b c → IsPolled a c
polled_again a b c first then = record {
  armed = then.armed ∙ first.armed;
  arms = then.arms ∙ first.arms;
  early = then.early ∙ first.early;
}

-- what isn't polled is polled no time
pub all_polled : (workers : ℕ) (xs : List Signal) → ArePolled workers xs xs
all_polled zero xs = refl
all_polled (suc workers) [] = refl
all_polled (suc workers) (x ∷ xs) = (record { armed = refl; arms = refl; early = refl }, all_polled workers xs)

pub all_polled_again : (workers : ℕ) (a b c : List Signal) → ArePolled workers a b → ArePolled workers b c → ArePolled workers a c
all_polled_again zero a b c first then = then ∙ first
all_polled_again (suc workers) [] b c first then =
    subst (λ (xs : List Signal). ArePolled (suc workers) xs c) first then
all_polled_again (suc workers) (x ∷ a) [] c first then = absurd first
all_polled_again (suc workers) (x ∷ a) (y ∷ b) [] first then = absurd then
all_polled_again (suc workers) (x ∷ a) (y ∷ b) (z ∷ c) first then =
    (polled_again x y z first.0 then.0, all_polled_again workers a b c first.1 then.1)

-- there are as many as before
pub as_many : (workers : ℕ) (a b : List Signal) → ArePolled workers a b → length b ≡ length a
as_many zero a b same = ap length same
as_many (suc workers) [] b same = ap length same
as_many (suc workers) (x ∷ a) [] both = absurd both
as_many (suc workers) (x ∷ a) (y ∷ b) both = ap suc (as_many workers a b both.1)

-- the same of stops, which tell them
pub stops_stay : {T : Type 0} (signal : T → Signal) (workers n : ℕ) (before after : List T) → ArePolled workers (map signal before) (map signal after)
    → n ≤ length before → n ≤ length after
stops_stay signal workers n before after polled enough =
    omega (arith, as_many workers (map signal before) (map signal after) polled, length-map before signal, length-map after signal, enough)
