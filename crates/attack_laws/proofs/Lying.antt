-- How squares lie between squares, and that a piece which slides over a square slides from it.
use Rattle.std.proofs.Common.{◌≡◌, ◌≢◌, ◌<◌, ◌≤◌, ◌+◌, ◌/◌, ◌%◌, ◌||◌, ◌==◌, ◌⊎◌, inl, inr, ℕ, Bool, true, false, nat_le, IsTrue, arith, refl, sym, ap, ◌∙◌}
use Rattle.std.proofs.lemmas.Bool.{eqb-true, leb-true, ltb-true, eq-eqb, le-leb, lt-ltb, and_parts, and_from, false≢true, or_cases, or_left, or_right}
use Rattle.board_laws.proofs.Squares.{near_parts, heights_apart, level, level_back}
use Rattle.bit_boards.specs.declared.piece.Kind.{Kind}
use Rattle.bit_boards.specs.declared.piece.Kind.TheVariants.{Pawn, Lance, Knight, Silver, Gold, Bishop, Rook, King}
use Rattle.bit_boards.specs.declared.piece.Side.{Side}
use Rattle.bit_boards.specs.declared.piece.Side.TheVariants.{Black, White}
use Rattle.bit_boards.specs.declared.piece.Piece.{Piece}
use Rattle.bit_boards.specs.Square.{height}
use Rattle.bit_boards.specs.Movement.{distance, slides, goes_by_step, goes_by_slide, fits, IsInside, IsBetween, are_near, StepsAreNear}
use Rattle.shogi_rules.specs.Rules.{landed_piece}

-- 1. NUMBERS.

ends_apart : (x y z : ℕ) → IsInside x y z → x ≢ z
ends_apart x y z (inl i) e = omega arith
ends_apart x y z (inr i) e = omega arith

first_apart : (x y z : ℕ) → IsInside x y z → y ≢ x
first_apart x y z (inl i) e = omega arith
first_apart x y z (inr i) e = omega arith

last_apart : (x y z : ℕ) → IsInside x y z → y ≢ z
last_apart x y z (inl i) e = omega arith
last_apart x y z (inr i) e = omega arith

inner : (x y z w : ℕ) → IsInside x y w → IsInside y z w → IsInside x z w
inner x y z w (inl i) (inl j) = inl (omega arith, omega arith)
inner x y z w (inl i) (inr j) = absurd (omega arith)
inner x y z w (inr i) (inl j) = absurd (omega arith)
inner x y z w (inr i) (inr j) = inr (omega arith, omega arith)

adds : (x y z w : ℕ) → IsInside x y w → IsInside y z w → distance x z ≡ distance x y + distance y z
adds x y z w (inl i) (inl j) = omega arith
adds x y z w (inl i) (inr j) = absurd (omega arith)
adds x y z w (inr i) (inl j) = absurd (omega arith)
adds x y z w (inr i) (inr j) = omega arith

rest : (x y z : ℕ) → IsInside x y z → distance x z ≡ distance x y + distance y z
rest x y z (inl i) = omega arith
rest x y z (inr i) = omega arith

far : (x y z : ℕ) → IsInside x y z → 2 ≤ distance x z
far x y z (inl i) = omega arith
far x y z (inr i) = omega arith

-- 2. SQUARES.

-- what lies between the nearer square and the end lies between the farther one and the end
pub nested : (a m n b : ℕ) → IsBetween a m b → IsBetween m n b → IsBetween a n b
nested a m n b (inl f) (inl g) = inl (record { here = f.here ∙ g.here; there = g.there; inside = inner _ _ _ _ f.inside g.inside })
nested a m n b (inl f) (inr (inl g)) = absurd (ends_apart _ _ _ g.inside (sym f.there))
nested a m n b (inl f) (inr (inr g)) = absurd (ends_apart _ _ _ g.files (sym f.there))
nested a m n b (inr (inl f)) (inl g) = absurd (ends_apart _ _ _ g.inside (sym f.there))
nested a m n b (inr (inl f)) (inr (inl g)) = inr (inl (record { here = f.here ∙ g.here; there = g.there; inside = inner _ _ _ _ f.inside g.inside }))
nested a m n b (inr (inl f)) (inr (inr g)) = absurd (ends_apart _ _ _ g.rows (sym f.there))
nested a m n b (inr (inr f)) (inl g) = absurd (last_apart _ _ _ f.files (g.here ∙ sym g.there))
nested a m n b (inr (inr f)) (inr (inl g)) = absurd (last_apart _ _ _ f.rows (g.here ∙ sym g.there))
nested a m n b (inr (inr f)) (inr (inr g)) =
    let files = adds _ _ _ _ f.files g.files in
    let rows = adds _ _ _ _ f.rows g.rows in
    let one = f.here in
    let two = g.here in
    inr (inr (record {
      here = omega arith;
      there = f.there;
      files = inner _ _ _ _ f.files g.files;
      rows = inner _ _ _ _ f.rows g.rows;
    }))

-- what lies between is neither end
pub not_first : (a m b : ℕ) → IsBetween a m b → m ≢ a
not_first a m b (inl f) e = first_apart _ _ _ f.inside (ap (λ (x : ℕ). x % 9) e)
not_first a m b (inr (inl f)) e = first_apart _ _ _ f.inside (ap (λ (x : ℕ). x / 9) e)
not_first a m b (inr (inr f)) e = first_apart _ _ _ f.files (ap (λ (x : ℕ). x / 9) e)

pub not_last : (a m b : ℕ) → IsBetween a m b → m ≢ b
not_last a m b (inl f) e = last_apart _ _ _ f.inside (ap (λ (x : ℕ). x % 9) e)
not_last a m b (inr (inl f)) e = last_apart _ _ _ f.inside (ap (λ (x : ℕ). x / 9) e)
not_last a m b (inr (inr f)) e = last_apart _ _ _ f.files (ap (λ (x : ℕ). x / 9) e)

-- of two squares one alone lies between the other and the end
pub not_over : (a m b : ℕ) → IsBetween a m b → IsBetween m a b → ⊥
not_over a m b f g = not_first a a b (nested a m a b f g) refl

-- 3. SLIDES.

-- near squares have nothing between
near_numbers : (a m b : ℕ) → IsBetween a m b
    → ((distance (a / 9) (b / 9) ≤ 1) × (distance (a % 9) (b % 9) ≤ 1)) ⊎ ((distance (a / 9) (b / 9) ≡ 1) × (distance (a % 9) (b % 9) ≡ 2)) → ⊥
near_numbers a m b (inl f) (inl n) = let d = far _ _ _ f.inside in omega (arith, d, n.1)
near_numbers a m b (inl f) (inr n) = let e : a / 9 ≡ b / 9 = f.here ∙ sym f.there in omega (arith, e, n.0)
near_numbers a m b (inr (inl f)) (inl n) = let d = far _ _ _ f.inside in omega (arith, d, n.0)
near_numbers a m b (inr (inl f)) (inr n) = let d = far _ _ _ f.inside in omega (arith, d, n.0)
near_numbers a m b (inr (inr f)) (inl n) = let d = far _ _ _ f.files in omega (arith, d, n.0)
near_numbers a m b (inr (inr f)) (inr n) = let d = far _ _ _ f.files in omega (arith, d, n.0)

near_empty : (a m b : ℕ) → IsBetween a m b → are_near a b ≡ true → ⊥
near_empty a m b between near = near_numbers a m b between (near_parts _ _ near)

lance_inside : (side : Side) (a m b : ℕ) → a / 9 ≡ m / 9 → b / 9 ≡ m / 9 → IsInside (a % 9) (m % 9) (b % 9) → height side a < height side b
    → (distance (m / 9) (b / 9) ≡ 0) × (height side m < height side b)
lance_inside Black a m b here there (inl i) up = absurd (omega arith)
lance_inside Black a m b here there (inr i) up = (omega arith, omega arith)
lance_inside White a m b here there (inl i) up = (omega arith, omega arith)
lance_inside White a m b here there (inr i) up = absurd (omega arith)

-- how a slide goes: straight up, along a diagonal, along a file or a row
lance_from : (side : Side) (a m b : ℕ) → IsBetween a m b → distance (a / 9) (b / 9) ≡ 0 → height side a < height side b
    → (distance (m / 9) (b / 9) ≡ 0) × (height side m < height side b)
lance_from side a m b (inl f) file up = lance_inside side a m b f.here f.there f.inside up
lance_from side a m b (inr (inl f)) file up = let d = far _ _ _ f.inside in absurd (omega (arith, d, file))
lance_from side a m b (inr (inr f)) file up = let d = far _ _ _ f.files in absurd (omega (arith, d, file))

record IsDiagonal (a b : ℕ) : Type 0 where
  pub away : 1 ≤ distance (a / 9) (b / 9)
  pub same : distance (a / 9) (b / 9) ≡ distance (a % 9) (b % 9)

bishop_from : (a m b : ℕ) → IsBetween a m b → IsDiagonal a b → IsDiagonal m b
bishop_from a m b (inl f) d = let e : a / 9 ≡ b / 9 = f.here ∙ sym f.there in absurd (omega (arith, d.away, e))
bishop_from a m b (inr (inl f)) d =
    let e : a % 9 ≡ b % 9 = f.here ∙ sym f.there in
    absurd (omega (arith, d.away, d.same, e))
bishop_from a m b (inr (inr f)) d =
    let files = rest _ _ _ f.files in
    let rows = rest _ _ _ f.rows in
    let apart = last_apart _ _ _ f.files in
    let one = f.here in
    let two = f.there in
    record { away = omega arith; same = omega arith }

rook_from : (a m b : ℕ) → IsBetween a m b → ((distance (a / 9) (b / 9) ≡ 0) × (1 ≤ distance (a % 9) (b % 9))) ⊎ ((1 ≤ distance (a / 9) (b / 9)) × (a % 9 ≡ b % 9))
    → ((distance (m / 9) (b / 9) ≡ 0) × (1 ≤ distance (m % 9) (b % 9))) ⊎ ((1 ≤ distance (m / 9) (b / 9)) × (m % 9 ≡ b % 9))
rook_from a m b (inl f) (inl s) =
    let apart = last_apart _ _ _ f.inside in
    let same = f.there in
    inl (omega arith, omega arith)
rook_from a m b (inl f) (inr s) = absurd (ends_apart _ _ _ f.inside s.1)
rook_from a m b (inr (inl f)) (inl s) = let e : a % 9 ≡ b % 9 = f.here ∙ sym f.there in absurd (omega (arith, s.1, e))
rook_from a m b (inr (inl f)) (inr s) =
    let apart = last_apart _ _ _ f.inside in
    inr (omega arith, sym f.there)
rook_from a m b (inr (inr f)) (inl s) = let d = far _ _ _ f.files in absurd (omega (arith, d, s.0))
rook_from a m b (inr (inr f)) (inr s) = absurd (ends_apart _ _ _ f.rows s.1)

abbrev sliding : Side → Kind → Bool → ℕ → ℕ → Bool
sliding side k p from to = slides k p (distance (from / 9) (to / 9)) (height side from) (height side to)

bishop_parts : (side : Side) (p : Bool) (a b : ℕ) → sliding side Bishop p a b ≡ true → IsDiagonal a b
bishop_parts side p a b h =
    let parts = and_parts _ _ h in
    record { away = leb-true _ _ parts.0; same = eqb-true _ _ parts.1 ∙ heights_apart side a b }

bishop_by : (side : Side) (p : Bool) (a b : ℕ) → IsDiagonal a b → sliding side Bishop p a b ≡ true
bishop_by side p a b d = and_from _ _ (le-leb _ _ d.away) (eq-eqb _ _ (d.same ∙ sym (heights_apart side a b)))

rook_parts : (side : Side) (p : Bool) (a b : ℕ) → sliding side Rook p a b ≡ true
    → ((distance (a / 9) (b / 9) ≡ 0) × (1 ≤ distance (a % 9) (b % 9))) ⊎ ((1 ≤ distance (a / 9) (b / 9)) × (a % 9 ≡ b % 9))
rook_parts side p a b h = elim (or_cases _ _ h) [
  | inl file ↦
      let parts = and_parts (distance (a / 9) (b / 9) == 0) (nat_le 1 (distance (height side a) (height side b))) file in
      let same = heights_apart side a b in
      let away : 1 ≤ distance (height side a) (height side b) = leb-true _ _ parts.1 in
      inl (eqb-true _ _ parts.0, omega (arith, same, away))
  | inr row ↦ let parts = and_parts _ _ row in inr (leb-true _ _ parts.0, level side a b (eqb-true _ _ parts.1))
]

rook_by : (side : Side) (p : Bool) (a b : ℕ)
    → ((distance (a / 9) (b / 9) ≡ 0) × (1 ≤ distance (a % 9) (b % 9))) ⊎ ((1 ≤ distance (a / 9) (b / 9)) × (a % 9 ≡ b % 9))
    → sliding side Rook p a b ≡ true
rook_by side p a b (inl s) =
    let same = heights_apart side a b in
    let away = s.1 in
    or_left _ _ (and_from _ _ (eq-eqb _ _ s.0) (le-leb _ _ (omega arith)))
rook_by side p a b (inr s) = or_right _ _ (and_from _ _ (le-leb _ _ s.0) (eq-eqb _ _ (level_back side a b s.1)))

-- a slide over a square is one from it
slides_from : (side : Side) (k : Kind) (p : Bool) (a m b : ℕ) → IsBetween a m b → sliding side k p a b ≡ true → sliding side k p m b ≡ true
slides_from side Pawn p a m b between h = absurd (false≢true h)
slides_from side Lance false a m b between h =
    let parts = and_parts _ _ h in
    let on = lance_from side a m b between (eqb-true _ _ parts.0) (ltb-true _ _ parts.1) in
    and_from _ _ (eq-eqb _ _ on.0) (lt-ltb _ _ on.1)
slides_from side Lance true a m b between h = absurd (false≢true h)
slides_from side Knight p a m b between h = absurd (false≢true h)
slides_from side Silver p a m b between h = absurd (false≢true h)
slides_from side Gold p a m b between h = absurd (false≢true h)
slides_from side Bishop p a m b between h = bishop_by side p m b (bishop_from a m b between (bishop_parts side p a b h))
slides_from side Rook p a m b between h = rook_by side p m b (rook_from a m b between (rook_parts side p a b h))
slides_from side King p a m b between h = absurd (false≢true h)

-- what slides once it is promoted slid before
slid_before : (k : Kind) (p q : Bool) (aside low high : ℕ) → slides k (p || q) aside low high ≡ true → slides k p aside low high ≡ true
slid_before Pawn p q aside low high h = absurd (false≢true h)
slid_before Lance true q aside low high h = absurd (false≢true h)
slid_before Lance false true aside low high h = absurd (false≢true h)
slid_before Lance false false aside low high h = h
slid_before Knight p q aside low high h = absurd (false≢true h)
slid_before Silver p q aside low high h = absurd (false≢true h)
slid_before Gold p q aside low high h = absurd (false≢true h)
slid_before Bishop p q aside low high h = h
slid_before Rook p q aside low high h = h
slid_before King p q aside low high h = absurd (false≢true h)

-- a piece that, landed on a square, goes over its origin to another square went there from its
-- origin
pub went_before : StepsAreNear → (promote : Bool) (piece : Piece) (to from end : ℕ) → to < 81 → end < 81 → IsBetween to from end
    → IsTrue (fits (landed_piece promote piece) to end) → IsTrue (fits piece from end)
went_before near promote piece to from end high low between fit =
    let landed = landed_piece promote piece in
    elim (or_cases (goes_by_step landed to end) (goes_by_slide landed to end) fit) [
      | inl step ↦ absurd (near_empty to from end between (near landed to end high low step))
      | inr slide ↦
          let on = slides_from piece.side piece.kind landed.promoted to from end between slide in
          or_right (goes_by_step piece from end) (goes_by_slide piece from end) (slid_before piece.kind piece.promoted _ _ _ _ on)
    ]
