-- What squares sets have that were made from others.
use Rattle.std.proofs.Common.{◌≡◌, ◌&&◌, ◌||◌, ◌⊎◌, inl, inr, Bool, true, false, not, sym, ◌∙◌, refl}
use Rattle.std.proofs.lemmas.Bool.{true≢false}

-- what two sets share
pub shared : (r a b : Bool) → r ≡ (a && b) → a ≡ true → b ≡ true → r ≡ true
shared r true b e h k = e ∙ k
shared r false b e h k = absurd (true≢false (sym h))

pub first_of : (r a b : Bool) → r ≡ (a && b) → r ≡ true → a ≡ true
first_of r true b e h = refl
first_of r false b e h = absurd (true≢false (sym h ∙ e))

pub second_of : (r a b : Bool) → r ≡ (a && b) → r ≡ true → b ≡ true
second_of r true b e h = sym e ∙ h
second_of r false b e h = absurd (true≢false (sym h ∙ e))

-- what the one has and the other hasn't
pub remains : (r a b : Bool) → r ≡ (a && not b) → a ≡ true → b ≡ false → r ≡ true
remains r true true e h k = absurd (true≢false k)
remains r true false e h k = e
remains r false b e h k = absurd (true≢false (sym h))

pub not_taken : (r a b : Bool) → r ≡ (a && not b) → r ≡ true → b ≡ false
not_taken r true true e h = absurd (true≢false (sym h ∙ e))
not_taken r true false e h = refl
not_taken r false b e h = absurd (true≢false (sym h ∙ e))

-- what either has
pub from_first : (r a b : Bool) → r ≡ (a || b) → a ≡ true → r ≡ true
from_first r true b e h = e
from_first r false b e h = absurd (true≢false (sym h))

pub from_second : (r a b : Bool) → r ≡ (a || b) → b ≡ true → r ≡ true
from_second r true b e h = e
from_second r false b e h = e ∙ h

pub either_of : (r a b : Bool) → r ≡ (a || b) → r ≡ true → (a ≡ true) ⊎ (b ≡ true)
either_of r true b e h = inl refl
either_of r false b e h = inr (sym e ∙ h)

pub is_some : (p : Bool) → (p ≡ true → ⊥) → not p ≡ true
is_some true h = absurd (h refl)
is_some false h = refl
