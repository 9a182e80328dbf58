-- What lies in a direction, as a test; and that what lies between two squares lies in the same
-- direction, nearer.
use Rattle.std.proofs.Common.{◌≡◌, ℕ, ◌+◌, ◌-◌, ◌<◌, ◌≤◌, ◌==◌, ◌%◌, ◌/◌, ◌&&◌, Bool, true, false, nat_le, max, subst, arith, inl, inr, ◌↔◌, eq-eqb}
use Rattle.std.proofs.lemmas.Bool.{eqb-true, leb-true, le-leb, and_parts, and_from}
use Rattle.bit_boards.specs.declared.direction.Direction.{Direction}
use Rattle.bit_boards.specs.declared.direction.Direction.TheVariants.{Up, UpRight, Right, DownRight, Down, DownLeft, Left, UpLeft}
use Rattle.bit_boards.specs.Movement.{distance, IsInside, IsBetween}
use Rattle.bit_boards.specs.Direction.{rises, opposite, Change, less, same, more, file_change, row_change, IsChanged, IsAhead}

-- ---- the test

abbrev changed : Change → ℕ → ℕ → ℕ → Bool
changed less steps x y = y + steps == x
changed same steps x y = y == x
changed more steps x y = y == x + steps

-- how many steps apart two squares are
abbrev pub apart : ℕ → ℕ → ℕ
apart from to = max (distance (from / 9) (to / 9)) (distance (from % 9) (to % 9))

abbrev pub ahead : Direction → ℕ → ℕ → Bool
ahead direction from to =
    nat_le 1 (apart from to)
    && (changed (file_change direction) (apart from to) (from / 9) (to / 9) && changed (row_change direction) (apart from to) (from % 9) (to % 9))

changed_is : (c : Change) (steps x y : ℕ) → changed c steps x y ≡ true → IsChanged c steps x y
changed_is less steps x y h = eqb-true _ _ h
changed_is same steps x y h = eqb-true _ _ h
changed_is more steps x y h = eqb-true _ _ h

changed_by : (c : Change) (steps x y : ℕ) → IsChanged c steps x y → changed c steps x y ≡ true
changed_by less steps x y h = eq-eqb _ _ h
changed_by same steps x y h = eq-eqb _ _ h
changed_by more steps x y h = eq-eqb _ _ h

pub ahead_is : (d : Direction) (from to : ℕ) → ahead d from to ≡ true → IsAhead d from (apart from to) to
ahead_is d from to h =
    let parts = and_parts _ _ h in
    let both = and_parts _ _ parts.1 in
    record {
      away = leb-true _ _ parts.0;
      file = changed_is (file_change d) (apart from to) (from / 9) (to / 9) both.0;
      row = changed_is (row_change d) (apart from to) (from % 9) (to % 9) both.1;
    }

steps_are : (d : Direction) (from steps to : ℕ) → IsAhead d from steps to → steps ≡ apart from to
steps_are Up from steps to h = omega arith
steps_are UpRight from steps to h = omega arith
steps_are Right from steps to h = omega arith
steps_are DownRight from steps to h = omega arith
steps_are Down from steps to h = omega arith
steps_are DownLeft from steps to h = omega arith
steps_are Left from steps to h = omega arith
steps_are UpLeft from steps to h = omega arith

ahead_at : (d : Direction) (from to : ℕ) → IsAhead d from (apart from to) to → ahead d from to ≡ true
ahead_at d from to h = and_from _ _ (le-leb _ _ h.away) (and_from _ _
    (changed_by (file_change d) (apart from to) (from / 9) (to / 9) h.file)
    (changed_by (row_change d) (apart from to) (from % 9) (to % 9) h.row))

pub ahead_by : (d : Direction) (from steps to : ℕ) → IsAhead d from steps to → ahead d from to ≡ true
ahead_by d from steps to h =
    let P : ℕ → Type 0 = λ n. IsAhead d from n to in
    ahead_at d from to (subst P (steps_are d from steps to h) h)

-- ---- what lies between

pub record Nearer (d : Direction) (a m k : ℕ) : Type 0 where
  pub steps : ℕ
  pub nearer : steps < k
  pub ahead : IsAhead d a steps m

record Rises (x y z : ℕ) : Type 0 where
  low : x < y
  high : y < z

goes_up : (x y z : ℕ) → x ≤ z → IsInside x y z → Rises x y z
goes_up x y z up (inl i) = record { low = i.0; high = i.1 }
goes_up x y z up (inr i) = absurd (omega arith)

goes_down : (x y z : ℕ) → z ≤ x → IsInside x y z → Rises z y x
goes_down x y z down (inl i) = absurd (omega arith)
goes_down x y z down (inr i) = record { low = i.0; high = i.1 }

pub nearer : (d : Direction) (a k b m : ℕ) → IsAhead d a k b → IsBetween a m b → Nearer d a m k
nearer Up a k b m h (inl f) = let i = goes_down _ _ _ (omega arith) f.inside in
    record { steps = a % 9 - m % 9; nearer = omega arith; ahead = record { away = omega arith; file = omega arith; row = omega arith } }
nearer Up a k b m h (inr (inl r)) = absurd (omega arith)
nearer Up a k b m h (inr (inr g)) = absurd (omega arith)
nearer UpRight a k b m h (inl f) = absurd (omega arith)
nearer UpRight a k b m h (inr (inl r)) = absurd (omega arith)
nearer UpRight a k b m h (inr (inr g)) = let i = goes_down _ _ _ (omega arith) g.files in let j = goes_down _ _ _ (omega arith) g.rows in
    record { steps = a / 9 - m / 9; nearer = omega arith; ahead = record { away = omega arith; file = omega arith; row = omega arith } }
nearer Right a k b m h (inl f) = absurd (omega arith)
nearer Right a k b m h (inr (inl r)) = let i = goes_down _ _ _ (omega arith) r.inside in
    record { steps = a / 9 - m / 9; nearer = omega arith; ahead = record { away = omega arith; file = omega arith; row = omega arith } }
nearer Right a k b m h (inr (inr g)) = absurd (omega arith)
nearer DownRight a k b m h (inl f) = absurd (omega arith)
nearer DownRight a k b m h (inr (inl r)) = absurd (omega arith)
nearer DownRight a k b m h (inr (inr g)) = let i = goes_down _ _ _ (omega arith) g.files in let j = goes_up _ _ _ (omega arith) g.rows in
    record { steps = a / 9 - m / 9; nearer = omega arith; ahead = record { away = omega arith; file = omega arith; row = omega arith } }
nearer Down a k b m h (inl f) = let i = goes_up _ _ _ (omega arith) f.inside in
    record { steps = m % 9 - a % 9; nearer = omega arith; ahead = record { away = omega arith; file = omega arith; row = omega arith } }
nearer Down a k b m h (inr (inl r)) = absurd (omega arith)
nearer Down a k b m h (inr (inr g)) = absurd (omega arith)
nearer DownLeft a k b m h (inl f) = absurd (omega arith)
nearer DownLeft a k b m h (inr (inl r)) = absurd (omega arith)
nearer DownLeft a k b m h (inr (inr g)) = let i = goes_up _ _ _ (omega arith) g.files in let j = goes_up _ _ _ (omega arith) g.rows in
    record { steps = m / 9 - a / 9; nearer = omega arith; ahead = record { away = omega arith; file = omega arith; row = omega arith } }
nearer Left a k b m h (inl f) = absurd (omega arith)
nearer Left a k b m h (inr (inl r)) = let i = goes_up _ _ _ (omega arith) r.inside in
    record { steps = m / 9 - a / 9; nearer = omega arith; ahead = record { away = omega arith; file = omega arith; row = omega arith } }
nearer Left a k b m h (inr (inr g)) = absurd (omega arith)
nearer UpLeft a k b m h (inl f) = absurd (omega arith)
nearer UpLeft a k b m h (inr (inl r)) = absurd (omega arith)
nearer UpLeft a k b m h (inr (inr g)) = let i = goes_up _ _ _ (omega arith) g.files in let j = goes_down _ _ _ (omega arith) g.rows in
    record { steps = m / 9 - a / 9; nearer = omega arith; ahead = record { away = omega arith; file = omega arith; row = omega arith } }

pub between_by : (d : Direction) (a k b j m : ℕ) → IsAhead d a k b → IsAhead d a j m → j < k → IsBetween a m b
between_by Up a k b j m h i lt = inl (record { here = omega arith; there = omega arith; inside = inr (omega arith, omega arith) })
between_by UpRight a k b j m h i lt = inr (inr (record { here = omega arith; there = omega arith; files = inr (omega arith, omega arith); rows = inr (omega arith, omega arith) }))
between_by Right a k b j m h i lt = inr (inl (record { here = omega arith; there = omega arith; inside = inr (omega arith, omega arith) }))
between_by DownRight a k b j m h i lt = inr (inr (record { here = omega arith; there = omega arith; files = inr (omega arith, omega arith); rows = inl (omega arith, omega arith) }))
between_by Down a k b j m h i lt = inl (record { here = omega arith; there = omega arith; inside = inl (omega arith, omega arith) })
between_by DownLeft a k b j m h i lt = inr (inr (record { here = omega arith; there = omega arith; files = inl (omega arith, omega arith); rows = inl (omega arith, omega arith) }))
between_by Left a k b j m h i lt = inr (inl (record { here = omega arith; there = omega arith; inside = inl (omega arith, omega arith) }))
between_by UpLeft a k b j m h i lt = inr (inr (record { here = omega arith; there = omega arith; files = inl (omega arith, omega arith); rows = inr (omega arith, omega arith) }))

-- ---- the order of numbers along a direction

pub rise : (d : Direction) (a j m k b : ℕ) → rises d ≡ true → IsAhead d a j m → IsAhead d a k b → (j < k) ↔ (m < b)
rise Up a j m k b way h i = absurd (cc)
rise UpRight a j m k b way h i = absurd (cc)
rise Right a j m k b way h i = absurd (cc)
rise DownRight a j m k b way h i = absurd (cc)
rise Down a j m k b way h i = ((λ lt. omega arith), (λ lt. omega arith))
rise DownLeft a j m k b way h i = ((λ lt. omega arith), (λ lt. omega arith))
rise Left a j m k b way h i = ((λ lt. omega arith), (λ lt. omega arith))
rise UpLeft a j m k b way h i = ((λ lt. omega arith), (λ lt. omega arith))

pub fall : (d : Direction) (a j m k b : ℕ) → rises d ≡ false → IsAhead d a j m → IsAhead d a k b → (j < k) ↔ (b < m)
fall Up a j m k b way h i = ((λ lt. omega arith), (λ lt. omega arith))
fall UpRight a j m k b way h i = ((λ lt. omega arith), (λ lt. omega arith))
fall Right a j m k b way h i = ((λ lt. omega arith), (λ lt. omega arith))
fall DownRight a j m k b way h i = ((λ lt. omega arith), (λ lt. omega arith))
fall Down a j m k b way h i = absurd (cc)
fall DownLeft a j m k b way h i = absurd (cc)
fall Left a j m k b way h i = absurd (cc)
fall UpLeft a j m k b way h i = absurd (cc)

-- ---- lines between two squares

-- from the other end
pub behind : (d : Direction) (a k b j m : ℕ) → IsAhead d a k b → IsAhead d a j m → j < k → IsAhead (opposite d) b (k - j) m
behind Up a k b j m h i lt = record { away = omega arith; file = omega arith; row = omega arith }
behind UpRight a k b j m h i lt = record { away = omega arith; file = omega arith; row = omega arith }
behind Right a k b j m h i lt = record { away = omega arith; file = omega arith; row = omega arith }
behind DownRight a k b j m h i lt = record { away = omega arith; file = omega arith; row = omega arith }
behind Down a k b j m h i lt = record { away = omega arith; file = omega arith; row = omega arith }
behind DownLeft a k b j m h i lt = record { away = omega arith; file = omega arith; row = omega arith }
behind Left a k b j m h i lt = record { away = omega arith; file = omega arith; row = omega arith }
behind UpLeft a k b j m h i lt = record { away = omega arith; file = omega arith; row = omega arith }

pub meet : (d : Direction) (a k b j i m : ℕ) → IsAhead d a k b → IsAhead d a j m → IsAhead (opposite d) b i m → j < k
meet Up a k b j i m h x y = omega arith
meet UpRight a k b j i m h x y = omega arith
meet Right a k b j i m h x y = omega arith
meet DownRight a k b j i m h x y = omega arith
meet Down a k b j i m h x y = omega arith
meet DownLeft a k b j i m h x y = omega arith
meet Left a k b j i m h x y = omega arith
meet UpLeft a k b j i m h x y = omega arith

-- squares with another between them share a line
pub record Line (a b : ℕ) : Type 0 where
  pub direction : Direction
  pub steps : ℕ
  pub ahead : IsAhead direction a steps b

pub line_of : (a m b : ℕ) → IsBetween a m b → Line a b
line_of a m b (inl f) = elim f.inside [
  | inl i ↦ record { direction = Down; steps = b % 9 - a % 9; ahead = record { away = omega arith; file = omega arith; row = omega arith } }
  | inr i ↦ record { direction = Up; steps = a % 9 - b % 9; ahead = record { away = omega arith; file = omega arith; row = omega arith } }
]
line_of a m b (inr (inl r)) = elim r.inside [
  | inl i ↦ record { direction = Left; steps = b / 9 - a / 9; ahead = record { away = omega arith; file = omega arith; row = omega arith } }
  | inr i ↦ record { direction = Right; steps = a / 9 - b / 9; ahead = record { away = omega arith; file = omega arith; row = omega arith } }
]
line_of a m b (inr (inr g)) = elim g.files [
  | inl i ↦ elim g.rows [
    | inl j ↦ record { direction = DownLeft; steps = b / 9 - a / 9; ahead = record { away = omega arith; file = omega arith; row = omega arith } }
    | inr j ↦ record { direction = UpLeft; steps = b / 9 - a / 9; ahead = record { away = omega arith; file = omega arith; row = omega arith } }
  ]
  | inr i ↦ elim g.rows [
    | inl j ↦ record { direction = DownRight; steps = a / 9 - b / 9; ahead = record { away = omega arith; file = omega arith; row = omega arith } }
    | inr j ↦ record { direction = UpRight; steps = a / 9 - b / 9; ahead = record { away = omega arith; file = omega arith; row = omega arith } }
  ]
]

pub between_within : (a m b : ℕ) → a < 81 → b < 81 → IsBetween a m b → m < 81
between_within a m b ha hb (inl f) = omega arith
between_within a m b ha hb (inr (inl r)) = elim r.inside [ inl i ↦ omega arith | inr i ↦ omega arith ]
between_within a m b ha hb (inr (inr g)) = elim g.files [ inl i ↦ omega arith | inr i ↦ omega arith ]
