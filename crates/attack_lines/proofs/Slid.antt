-- Slides go in the directions of their kind, as far back as forth, and no square lies between those
-- of a step.
use Rattle.std.proofs.Common.{◌≡◌, ℕ, ◌-◌, ◌<◌, ◌≤◌, ◌%◌, ◌/◌, ◌⊎◌, Bool, true, false, arith, inl, inr, sym, ◌∙◌, eq-eqb}
use Rattle.std.proofs.lemmas.Bool.{cases_lt, eqb-true, leb-true, ltb-true, le-leb, lt-ltb, and_parts, and_from, or_left, or_right, or_cases}
use Rattle.board_laws.proofs.Squares.{heights_apart, level, level_back, near_parts}
use Rattle.bit_boards.specs.declared.piece.Kind.{Kind}
use Rattle.bit_boards.specs.declared.piece.Kind.TheVariants.{Lance, Bishop, Rook}
use Rattle.bit_boards.specs.declared.piece.Side.{Side}
use Rattle.bit_boards.specs.declared.piece.Side.TheVariants.{Black, White}
use Rattle.bit_boards.specs.declared.direction.Direction.{Direction}
use Rattle.bit_boards.specs.declared.direction.Direction.TheVariants.{Up, UpRight, Right, DownRight, Down, DownLeft, Left, UpLeft}
use Rattle.bit_boards.specs.Direction.{opposite, IsAhead, LiesToward}
use Rattle.bit_boards.specs.Movement.{distance, slides, are_near, IsInside, IsOnDiagonal, IsBetween}
use Rattle.bit_boards.specs.Square.{height}
use Rattle.attack_lines.specs.Parts.{ahead_of}

-- one of the four directions along files and rows, or along diagonals
abbrev pub Straight : (Direction → Type 0) → Type 0
Straight P = P Up ⊎ (P Right ⊎ (P Down ⊎ P Left))

abbrev pub Diagonal : (Direction → Type 0) → Type 0
Diagonal P = P UpRight ⊎ (P DownRight ⊎ (P DownLeft ⊎ P UpLeft))

-- a piece of the side and kind slides from the one square to the other
abbrev pub sliding : Side → Kind → Bool → ℕ → ℕ → Bool
sliding side kind promoted from to = slides kind promoted (distance (from / 9) (to / 9)) (height side from) (height side to)

-- ---- the lance

pub lance_goes : (side : Side) (a b : ℕ) → b < 81 → sliding side Lance false a b ≡ true → LiesToward (ahead_of side) a b
lance_goes Black a b hb goes =
    let parts = and_parts _ _ goes in
    let file : distance (a / 9) (b / 9) ≡ 0 = eqb-true _ _ parts.0 in
    let up : 8 - a % 9 < 8 - b % 9 = ltb-true _ _ parts.1 in
    (hb, a % 9 - b % 9, record { away = omega arith; file = omega arith; row = omega arith })
lance_goes White a b hb goes =
    let parts = and_parts _ _ goes in
    let file : distance (a / 9) (b / 9) ≡ 0 = eqb-true _ _ parts.0 in
    let up : a % 9 < b % 9 = ltb-true _ _ parts.1 in
    (hb, b % 9 - a % 9, record { away = omega arith; file = omega arith; row = omega arith })

pub lance_ahead : (side : Side) (a k b : ℕ) → IsAhead (ahead_of side) a k b → sliding side Lance false a b ≡ true
lance_ahead Black a k b h = and_from _ _ (eq-eqb _ _ (omega arith)) (lt-ltb (8 - a % 9) (8 - b % 9) (omega arith))
lance_ahead White a k b h = and_from _ _ (eq-eqb _ _ (omega arith)) (lt-ltb (a % 9) (b % 9) (omega arith))

-- ---- the rook

pub rook_goes : (side : Side) (p : Bool) (a b : ℕ) → b < 81 → sliding side Rook p a b ≡ true → Straight (λ d. LiesToward d a b)
rook_goes side p a b hb goes = elim (or_cases _ _ goes) [
  | inl along ↦
      let parts = and_parts _ _ along in
      let file : distance (a / 9) (b / 9) ≡ 0 = eqb-true _ _ parts.0 in
      let away : 1 ≤ distance (height side a) (height side b) = leb-true _ _ parts.1 in
      let same = heights_apart side a b in
      elim (cases_lt (a % 9) (b % 9)) [
        | inl lt ↦ inr (inr (inl (hb, b % 9 - a % 9, record { away = omega arith; file = omega arith; row = omega arith })))
        | inr ge ↦ inl (hb, a % 9 - b % 9, record { away = omega arith; file = omega arith; row = omega arith })
      ]
  | inr aside ↦
      let parts = and_parts _ _ aside in
      let away : 1 ≤ distance (a / 9) (b / 9) = leb-true _ _ parts.0 in
      let row = level side a b (eqb-true _ _ parts.1) in
      elim (cases_lt (a / 9) (b / 9)) [
        | inl lt ↦ inr (inr (inr (hb, b / 9 - a / 9, record { away = omega arith; file = omega arith; row = omega arith })))
        | inr ge ↦ inr (inl (hb, a / 9 - b / 9, record { away = omega arith; file = omega arith; row = omega arith }))
      ]
]

on_file : (side : Side) (p : Bool) (a b : ℕ) → distance (a / 9) (b / 9) ≡ 0 → 1 ≤ distance (a % 9) (b % 9) → sliding side Rook p a b ≡ true
on_file side p a b file away =
    let same = heights_apart side a b in
    let far : 1 ≤ distance (height side a) (height side b) = omega arith in
    or_left _ _ (and_from _ _ (eq-eqb _ _ file) (le-leb _ _ far))

on_row : (side : Side) (p : Bool) (a b : ℕ) → 1 ≤ distance (a / 9) (b / 9) → a % 9 ≡ b % 9 → sliding side Rook p a b ≡ true
on_row side p a b away row = or_right _ _ (and_from _ _ (le-leb _ _ away) (eq-eqb _ _ (level_back side a b row)))

pub rook_ahead : (side : Side) (p : Bool) (a b : ℕ) → Straight (λ d. LiesToward d a b) → sliding side Rook p a b ≡ true
rook_ahead side p a b (inl (h, k, i)) = on_file side p a b (omega arith) (omega arith)
rook_ahead side p a b (inr (inl (h, k, i))) = on_row side p a b (omega arith) (omega arith)
rook_ahead side p a b (inr (inr (inl (h, k, i)))) = on_file side p a b (omega arith) (omega arith)
rook_ahead side p a b (inr (inr (inr (h, k, i)))) = on_row side p a b (omega arith) (omega arith)

-- ---- the bishop

pub bishop_goes : (side : Side) (p : Bool) (a b : ℕ) → b < 81 → sliding side Bishop p a b ≡ true → Diagonal (λ d. LiesToward d a b)
bishop_goes side p a b hb goes =
    let parts = and_parts _ _ goes in
    let away : 1 ≤ distance (a / 9) (b / 9) = leb-true _ _ parts.0 in
    let even : distance (a / 9) (b / 9) ≡ distance (height side a) (height side b) = eqb-true _ _ parts.1 in
    let same = heights_apart side a b in
    elim (cases_lt (a / 9) (b / 9)) [
      | inl left ↦ elim (cases_lt (a % 9) (b % 9)) [
        | inl down ↦ inr (inr (inl (hb, b / 9 - a / 9, record { away = omega arith; file = omega arith; row = omega arith })))
        | inr up ↦ inr (inr (inr (hb, b / 9 - a / 9, record { away = omega arith; file = omega arith; row = omega arith })))
      ]
      | inr right ↦ elim (cases_lt (a % 9) (b % 9)) [
        | inl down ↦ inr (inl (hb, a / 9 - b / 9, record { away = omega arith; file = omega arith; row = omega arith }))
        | inr up ↦ inl (hb, a / 9 - b / 9, record { away = omega arith; file = omega arith; row = omega arith })
      ]
    ]

on_diagonal : (side : Side) (p : Bool) (a b : ℕ) → 1 ≤ distance (a / 9) (b / 9) → distance (a / 9) (b / 9) ≡ distance (a % 9) (b % 9)
    → sliding side Bishop p a b ≡ true
on_diagonal side p a b away even = and_from _ _ (le-leb _ _ away) (eq-eqb _ _ (even ∙ sym (heights_apart side a b)))

pub bishop_ahead : (side : Side) (p : Bool) (a b : ℕ) → Diagonal (λ d. LiesToward d a b) → sliding side Bishop p a b ≡ true
bishop_ahead side p a b (inl (h, k, i)) = on_diagonal side p a b (omega arith) (omega arith)
bishop_ahead side p a b (inr (inl (h, k, i))) = on_diagonal side p a b (omega arith) (omega arith)
bishop_ahead side p a b (inr (inr (inl (h, k, i)))) = on_diagonal side p a b (omega arith) (omega arith)
bishop_ahead side p a b (inr (inr (inr (h, k, i)))) = on_diagonal side p a b (omega arith) (omega arith)

-- ---- both ways

turned : (d : Direction) (a k b : ℕ) → IsAhead d a k b → IsAhead (opposite d) b k a
turned Up a k b h = record { away = h.away; file = sym h.file; row = sym h.row }
turned UpRight a k b h = record { away = h.away; file = sym h.file; row = sym h.row }
turned Right a k b h = record { away = h.away; file = sym h.file; row = sym h.row }
turned DownRight a k b h = record { away = h.away; file = sym h.file; row = sym h.row }
turned Down a k b h = record { away = h.away; file = sym h.file; row = sym h.row }
turned DownLeft a k b h = record { away = h.away; file = sym h.file; row = sym h.row }
turned Left a k b h = record { away = h.away; file = sym h.file; row = sym h.row }
turned UpLeft a k b h = record { away = h.away; file = sym h.file; row = sym h.row }

pub turned_toward : (d : Direction) (a b : ℕ) → a < 81 → LiesToward d a b → LiesToward (opposite d) b a
turned_toward d a b ha (hb, k, h) = (ha, k, turned d a k b h)

inside_back : (x y z : ℕ) → IsInside x y z → IsInside z y x
inside_back x y z (inl i) = inr i
inside_back x y z (inr i) = inl i

-- the squares strictly between lie as far on one as on the other
other_end : (a m b : ℕ) → IsOnDiagonal a m b → distance (b / 9) (m / 9) ≡ distance (b % 9) (m % 9)
other_end a m b g = elim g.files [
  | inl i ↦ elim g.rows [ inl j ↦ omega arith | inr j ↦ omega arith ]
  | inr i ↦ elim g.rows [ inl j ↦ omega arith | inr j ↦ omega arith ]
]

pub between_back : (a m b : ℕ) → IsBetween a m b → IsBetween b m a
between_back a m b (inl f) = inl (record { here = f.there; there = f.here; inside = inside_back _ _ _ f.inside })
between_back a m b (inr (inl r)) = inr (inl (record { here = r.there; there = r.here; inside = inside_back _ _ _ r.inside }))
between_back a m b (inr (inr g)) = inr (inr (record { here = other_end a m b g; there = omega arith; files = inside_back _ _ _ g.files; rows = inside_back _ _ _ g.rows }))

-- ---- nothing lies between near squares

near_clear : (a m b : ℕ) → ((distance (a / 9) (b / 9) ≤ 1) × (distance (a % 9) (b % 9) ≤ 1)) ⊎ ((distance (a / 9) (b / 9) ≡ 1) × (distance (a % 9) (b % 9) ≡ 2))
    → IsBetween a m b → ⊥
near_clear a m b (inl n) (inl f) = elim f.inside [ inl i ↦ omega arith | inr i ↦ omega arith ]
near_clear a m b (inl n) (inr (inl r)) = elim r.inside [ inl i ↦ omega arith | inr i ↦ omega arith ]
near_clear a m b (inl n) (inr (inr g)) = elim g.files [ inl i ↦ omega arith | inr i ↦ omega arith ]
near_clear a m b (inr n) (inl f) = omega arith
near_clear a m b (inr n) (inr (inl r)) = omega arith
near_clear a m b (inr n) (inr (inr g)) = omega arith

pub nothing_near : (a m b : ℕ) → are_near a b ≡ true → IsBetween a m b → ⊥
nothing_near a m b near = near_clear a m b (near_parts _ _ near)
