-- No position stands at two places of a list that rises.
use Rattle.std.proofs.Common.{◌≡◌, ℕ, zero, suc, List, [], ◌∷◌, ap, refl, subst}
use Rattle.std.specs.Prelude.{Some, slice_get}
use Rattle.std.specs.Cmp.Lexicographic.{slice_cmp}
use Rattle.std.specs.Ordering.{nat_cmp}
use Rattle.std.specs.declared.cmp.Ordering.TheVariants.{Less}
use Rattle.std.proofs.lemmas.Cmp.{nat_list_cmp_total, tied_itself}
use Rattle.std.proofs.lemmas.Option.{same_Some}
use Rattle.board_core.specs.Board.{Board}
use Rattle.cert_text.specs.Certificate.{IsBefore, IsRising}

not_less : (x : List ℕ) → slice_cmp nat_cmp x x ≡ Less → ⊥
not_less x h = let e = tied_itself nat_list_cmp_total x in cc

less_on : (x y z : List ℕ) → slice_cmp nat_cmp x y ≡ Less → slice_cmp nat_cmp y z ≡ Less → slice_cmp nat_cmp x z ≡ Less
less_on x y z h k = nat_list_cmp_total.trans x y z h k

-- The first position comes before all others.
before_all : (a : Board) (rest : List Board) → IsRising (a ∷ rest) → (j : ℕ) (b : Board) → slice_get rest j ≡ Some b → IsBefore a b
before_all a [] r j b e = absurd (cc)
before_all a (c ∷ rest) r zero b e = subst (λ (x : Board). IsBefore a x) (same_Some c b e) r.0
before_all a (c ∷ rest) r (suc j) b e =
    let first : IsBefore a c = r.0 in
    let then : IsBefore c b = before_all c rest r.1 j b e in
    search (less_on)

-- It isn't among the others.
not_behind : (a : Board) (rest : List Board) → IsRising (a ∷ rest) → (j : ℕ) (b : Board) → Some a ≡ Some b → slice_get rest j ≡ Some b → ⊥
not_behind a rest r j b same e =
    let h : IsBefore b b = subst (λ (x : Board). IsBefore x b) (same_Some a b same) (before_all a rest r j b e) in
    search (not_less)

rising_tail : (a : Board) (rest : List Board) → IsRising (a ∷ rest) → IsRising rest
rising_tail a [] r = tt
rising_tail a (b ∷ rest) r = r.1

pub rising_apart : (positions : List Board) → IsRising positions → (i j : ℕ) (b : Board) → slice_get positions i ≡ Some b
    → slice_get positions j ≡ Some b → i ≡ j
rising_apart [] r i j b ei ej = absurd (cc)
rising_apart (p ∷ ps) r zero zero b ei ej = refl
rising_apart (p ∷ ps) r zero (suc j) b ei ej = absurd (not_behind p ps r j b ei ej)
rising_apart (p ∷ ps) r (suc i) zero b ei ej = absurd (not_behind p ps r i b ej ei)
rising_apart (p ∷ ps) r (suc i) (suc j) b ei ej = ap suc (rising_apart ps (rising_tail p ps r) i j b ei ej)
