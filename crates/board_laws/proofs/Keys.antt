-- Keys compare alike only where they are the same, and are the same only for one position.
use Rattle.std.proofs.Common.{◌≡◌, ℕ, List, true, ap, refl, subst, ◌∙◌}
use Rattle.std.specs.Ordering.{is_eq, ordering_reverse}
use Rattle.std.specs.declared.cmp.Ordering.{Ordering}
use Rattle.std.specs.declared.cmp.Ordering.TheVariants.{Less, Equal, Greater}
use Rattle.std.specs.Cmp.{IsTotalOrder}
use Rattle.std.proofs.lemmas.Cmp.{on_total, nat_list_cmp_total, tied_itself}
use Rattle.std.proofs.lemmas.Map.Lookups.{CmpEqualImpliesEq, exact_bytes}
use Rattle.board_core.specs.declared.keys.Key.{Key}
use Rattle.board_core.specs.KeyOrder.{key_cmp}
-- equal keys are those of equal positions; what a hand's counts are at most
pub use Rattle.board_core.proofs.KeyExact.{cells_exact, key_exact as position_exact, hand_small, modest_black, modest_white}

pub key_total : IsTotalOrder key_cmp
key_total = on_total (λ (k : Key). k.0) nat_list_cmp_total

pub key_exact : CmpEqualImpliesEq key_cmp
key_exact a b h = ap (λ (words : List ℕ). record { 0 = words }) (exact_bytes a.0 b.0 h)

pub equal_of : (o : Ordering) → is_eq o ≡ true → o ≡ Equal
equal_of Less h = cc
equal_of Equal h = refl
equal_of Greater h = cc

-- a test that two keys are the same
pub same_from_test : (a b : Key) → is_eq (key_cmp a b) ≡ true → a ≡ b
same_from_test a b h = key_exact a b (equal_of (key_cmp a b) h)

-- keys of the same words are one
pub same_key : (a b : Key) → a.0 ≡ b.0 → a ≡ b
same_key a b e = ap (λ (words : List ℕ). record { 0 = words }) e

pub test_from_same : (a b : Key) → a ≡ b → is_eq (key_cmp a b) ≡ true
test_from_same a b e = subst (λ (k : Key). is_eq (key_cmp a k) ≡ true) e (ap is_eq (tied_itself key_total a))

pub test_itself : (a : Key) → is_eq (key_cmp a a) ≡ true
test_itself a = ap is_eq (tied_itself key_total a)

-- a key isn't below itself
pub not_below_itself : (a b : Key) → a ≡ b → key_cmp a b ≡ Less → ⊥
not_below_itself a b e h =
    let same = test_from_same a b e in
    let less = ap is_eq h in
    cc

pub greater_back : (a b : Key) → key_cmp a b ≡ Greater → key_cmp b a ≡ Less
greater_back a b h = key_total.antisymm b a ∙ ap ordering_reverse h

pub less_back : (a b : Key) → key_cmp a b ≡ Less → key_cmp b a ≡ Greater
less_back a b h = key_total.antisymm b a ∙ ap ordering_reverse h
