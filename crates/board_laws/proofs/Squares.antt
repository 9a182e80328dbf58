-- Squares that are near, on one line, or as high as each other.
use Rattle.std.proofs.Common.{◌≡◌, ◌≤◌, ◌/◌, ◌%◌, ◌-◌, ◌⊎◌, inl, inr, ℕ, true, arith, ap, ◌∙◌}
use Rattle.std.proofs.lemmas.Bool.{leb-true, eqb-true, and_parts, or_cases}
use Rattle.bit_boards.specs.declared.piece.Side.{Side}
use Rattle.bit_boards.specs.declared.piece.Side.TheVariants.{Black, White}
use Rattle.bit_boards.specs.Square.{height}
use Rattle.bit_boards.specs.Movement.{distance, on_line, in_reach, share_line}
-- heights are as far apart as rows
pub use Rattle.bit_boards.proofs.Stepping.{heights_apart}

pub level : (side : Side) (a b : ℕ) → height side a ≡ height side b → a % 9 ≡ b % 9
level Black a b e = omega arith
level White a b e = e

pub level_back : (side : Side) (a b : ℕ) → a % 9 ≡ b % 9 → height side a ≡ height side b
level_back Black a b e = ap (λ x. 8 - x) e
level_back White a b e = e

pub nowhere : (x : ℕ) → distance x x ≡ 0
nowhere x = omega arith

-- near is a square beside, or a knight's jump away
pub near_parts : (aside along : ℕ) → in_reach aside along ≡ true → ((aside ≤ 1) × (along ≤ 1)) ⊎ ((aside ≡ 1) × (along ≡ 2))
near_parts aside along h = elim (or_cases _ _ h) [
  | inl beside ↦ let parts = and_parts _ _ (and_parts _ _ beside).0 in inl (leb-true _ _ parts.0, leb-true _ _ parts.1)
  | inr jump ↦ let parts = and_parts _ _ jump in inr (eqb-true _ _ parts.0, eqb-true _ _ parts.1)
]

pub line_back : (a b : ℕ) → share_line a b ≡ share_line b a
line_back a b =
    let files : distance (a / 9) (b / 9) ≡ distance (b / 9) (a / 9) = omega arith in
    let rows : distance (a % 9) (b % 9) ≡ distance (b % 9) (a % 9) = omega arith in
    ap (λ x. on_line x (distance (a % 9) (b % 9))) files ∙ ap (λ y. on_line (distance (b / 9) (a / 9)) y) rows
