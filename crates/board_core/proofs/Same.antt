-- Lists that a comparison calls the same are the same.
use Rattle.std.proofs.Common.{◌≡◌, List, [], ◌∷◌, Bool, true, refl, ap, ◌∙◌}
use lib.Pointwise.{pointwise}
use Rattle.std.proofs.lemmas.Bool.{and_parts}

pub list_same-exact : {A : Type 0} (E : A → A → Bool) → ((a b : A) → E a b ≡ true → a ≡ b) → (xs ys : List A) → pointwise E xs ys ≡ true → xs ≡ ys
list_same-exact E exact [] [] h = refl
list_same-exact E exact [] (y ∷ ys) h = absurd (cc)
list_same-exact E exact (x ∷ xs) [] h = absurd (cc)
list_same-exact E exact (x ∷ xs) (y ∷ ys) h =
    let first : x ≡ y = exact x y ((and_parts _ _ h).0) in
    let rest : xs ≡ ys = list_same-exact E exact xs ys ((and_parts _ _ h).1) in
    ap (λ z. z ∷ xs) first ∙ ap (λ zs. y ∷ zs) rest
