-- Each table is what its definition says, by computing it.
use Rattle.std.proofs.Common.{◌≡◌, ℕ, ◌+◌, ◌-◌, ◌<◌, ◌%◌, ◌/◌, ◌&&◌, Bool, true, false, not, [], get_or, refl, ap, ◌∙◌, arith, Option, Some, None, IfSome, IfNone}
use Rattle.std.proofs.lemmas.Bool.{both_ways, agree_below, agree_below_at}
use Rattle.bit_boards.specs.declared.direction.Direction.{Direction}
use Rattle.bit_boards.specs.declared.direction.Direction.TheVariants.{Up, UpRight, Right, DownRight, Down, DownLeft, Left, UpLeft}
use Rattle.bit_boards.specs.declared.tables.TheConstants.{RAYS, LINES, AROUND, TOWARD}
use Rattle.bit_boards.specs.Direction.{place_of, LiesToward}
use Rattle.bit_boards.specs.Movement.{share_line, are_near}
use Rattle.bit_boards.proofs.Masked.{bits_where, for_each_square, each_at}
use Rattle.bit_boards.proofs.Ahead.{ahead, ahead_is, ahead_by, apart}

rays_are : (d : Direction) → get_or RAYS (place_of d) [] ≡ for_each_square (ahead d)
rays_are Up = refl
rays_are UpRight = refl
rays_are Right = refl
rays_are DownRight = refl
rays_are Down = refl
rays_are DownLeft = refl
rays_are Left = refl
rays_are UpLeft = refl

pub ray_is : (d : Direction) (place from : ℕ) → place ≡ place_of d → from < 81
    → get_or (get_or RAYS place []) from 0 ≡ bits_where (ahead d from)
ray_is d place from at h = ap (λ p. get_or (get_or RAYS p []) from 0) at ∙ (ap (λ row. get_or row from 0) (rays_are d) ∙ each_at (ahead d) from h)

pub lines_are : (s : ℕ) → s < 81 → get_or LINES s 0 ≡ bits_where (share_line s)
lines_are s h = let e : LINES ≡ for_each_square share_line = refl in ap (λ t. get_or t s 0) e ∙ each_at share_line s h

pub around_are : (s : ℕ) → s < 81 → get_or AROUND s 0 ≡ bits_where (are_near s)
around_are s h = let e : AROUND ≡ for_each_square are_near = refl in ap (λ t. get_or t s 0) e ∙ each_at are_near s h

-- ---- the direction from one square to another

abbrev none_of : (Direction → Bool) → Bool
none_of p = not (p Up) && (not (p UpRight) && (not (p Right) && (not (p DownRight) && (not (p Down) && (not (p DownLeft) && (not (p Left) && not (p UpLeft)))))))

none_is : (p : Direction → Bool) → none_of p ≡ true → (d : Direction) → p d ≡ false
none_is p h Up = grind arith
none_is p h UpRight = grind arith
none_is p h Right = grind arith
none_is p h DownRight = grind arith
none_is p h Down = grind arith
none_is p h DownLeft = grind arith
none_is p h Left = grind arith
none_is p h UpLeft = grind arith

abbrev pub looked_up : ℕ → ℕ → Option Direction
looked_up a b = get_or (get_or TOWARD (b / 9 + 8 - a / 9) []) (b % 9 + 8 - a % 9) None

abbrev right : Option Direction → ℕ → ℕ → Bool
right None a b = none_of (λ d. ahead d a b)
right (Some d) a b = ahead d a b

all_right : (a b : ℕ) → a < 81 → b < 81 → right (looked_up a b) a b ≡ true
all_right a b ha hb =
    agree_below_at (λ y. right (looked_up a y) a y) (λ _. true) 81 b
    (agree_below_at (λ x. agree_below (λ y. right (looked_up x y) x y) (λ _. true) 81) (λ _. true) 81 a refl ha) hb

some_right : (found : Option Direction) (a b : ℕ) → b < 81 → right found a b ≡ true → IfSome found (λ d. LiesToward d a b)
some_right None a b hb h = tt
some_right (Some d) a b hb h = (hb, apart a b, ahead_is d a b h)

none_right : (found : Option Direction) (a b : ℕ) → right found a b ≡ true → IfNone found ((d : Direction) → LiesToward d a b → ⊥)
none_right None a b h = λ d lies. both_ways _ (none_is (λ x. ahead x a b) h d) (ahead_by d a lies.1 b lies.2)
none_right (Some d) a b h = tt

pub toward_is : (a b : ℕ) → a < 81 → b < 81 → IfSome (looked_up a b) (λ d. LiesToward d a b)
toward_is a b ha hb = some_right (looked_up a b) a b hb (all_right a b ha hb)

pub toward_none : (a b : ℕ) → a < 81 → b < 81 → IfNone (looked_up a b) ((d : Direction) → LiesToward d a b → ⊥)
toward_none a b ha hb = none_right (looked_up a b) a b (all_right a b ha hb)
