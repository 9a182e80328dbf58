-- Hands with so many less, or more, of each kind.
use Rattle.std.proofs.Common.{◌≡◌, ◌<◌, ◌≤◌, ◌+◌, ◌-◌, ℕ, zero, suc, List, [], ◌∷◌, get_or, length, slice_set, arith, ap, refl, ◌∙◌}
use Rattle.bit_boards.specs.declared.piece.Kind.{Kind}
use Rattle.bit_boards.specs.declared.piece.Kind.TheVariants.{Pawn, Lance, Knight, Silver, Gold, Bishop, Rook}
use Rattle.bit_boards.specs.Kind.{place_of}

-- so many less at each place
abbrev pub less_by : List ℕ → List ℕ → List ℕ
less_by [] by = []
less_by (h ∷ hand) [] = h ∷ hand
less_by (h ∷ hand) (b ∷ by) = (h - b) ∷ less_by hand by

-- so many more at each place
abbrev pub more_by : List ℕ → List ℕ → List ℕ
more_by [] by = []
more_by (h ∷ hand) [] = h ∷ hand
more_by (h ∷ hand) (b ∷ by) = (h + b) ∷ more_by hand by

-- at each place at most as many, and as many places
abbrev pub Fits : List ℕ → List ℕ → Type 0
Fits [] [] = Unit {0}
Fits (b ∷ by) (h ∷ hand) = (b ≤ h) × Fits by hand
Fits by hand = ⊥

-- 1. WHAT IS BETWEEN TWO HANDS.

-- taking away what is left over
pub back_down : (low high : List ℕ) → Fits low high → less_by high (less_by high low) ≡ low
back_down [] [] f = refl
back_down (l ∷ low) (h ∷ high) f =
    let e : h - (h - l) ≡ l = (let b = f.0 in omega (arith, b)) in
    ap (λ (x : ℕ). x ∷ less_by high (less_by high low)) e ∙ ap (λ (xs : List ℕ). l ∷ xs) (back_down low high f.1)
back_down [] (h ∷ high) f = absurd f
back_down (l ∷ low) [] f = absurd f

-- adding what is missing
pub back_up : (low high : List ℕ) → Fits low high → more_by low (less_by high low) ≡ high
back_up [] [] f = refl
back_up (l ∷ low) (h ∷ high) f =
    let e : l + (h - l) ≡ h = (let b = f.0 in omega (arith, b)) in
    ap (λ (x : ℕ). x ∷ more_by low (less_by high low)) e ∙ ap (λ (xs : List ℕ). h ∷ xs) (back_up low high f.1)
back_up [] (h ∷ high) f = absurd f
back_up (l ∷ low) [] f = absurd f

-- what is left over fits
pub left_fits : (low high : List ℕ) → Fits low high → Fits (less_by high low) high
left_fits [] [] f = f
left_fits (l ∷ low) (h ∷ high) f = (omega arith, left_fits low high f.1)
left_fits [] (h ∷ high) f = absurd f
left_fits (l ∷ low) [] f = absurd f

-- a hand fits another by its counts
pub fits_by : (low high : List ℕ) → length low ≡ length high → ((i : ℕ) → i < length low → get_or low i 0 ≤ get_or high i 0) → Fits low high
fits_by [] [] e f = record {}
fits_by (l ∷ low) (h ∷ high) e f = (f zero (omega arith), fits_by low high (omega (arith, e)) (λ i below. f (suc i) (omega (arith, below))))
fits_by [] (h ∷ high) e f = absurd (omega (arith, e))
fits_by (l ∷ low) [] e f = absurd (omega (arith, e))

-- each place is a kind's
pub kind_at : (i : ℕ) → i < 7 → (kind : Kind) × (place_of kind ≡ i)
kind_at zero low = (Pawn, refl)
kind_at (suc zero) low = (Lance, refl)
kind_at (suc (suc zero)) low = (Knight, refl)
kind_at (suc (suc (suc zero))) low = (Silver, refl)
kind_at (suc (suc (suc (suc zero)))) low = (Gold, refl)
kind_at (suc (suc (suc (suc (suc zero))))) low = (Bishop, refl)
kind_at (suc (suc (suc (suc (suc (suc zero)))))) low = (Rook, refl)
kind_at (suc (suc (suc (suc (suc (suc (suc i))))))) low = absurd (omega (arith, low))

-- 2. WHAT A COUNT IS.

pub less_count : (hand by : List ℕ) (i : ℕ) → get_or (less_by hand by) i 0 ≤ get_or hand i 0
less_count [] by i = omega arith
less_count (h ∷ hand) [] i = omega arith
less_count (h ∷ hand) (b ∷ by) zero = omega arith
less_count (h ∷ hand) (b ∷ by) (suc i) = less_count hand by i

pub more_count : (hand by : List ℕ) (i : ℕ) → get_or hand i 0 ≤ get_or (more_by hand by) i 0
more_count [] by i = omega arith
more_count (h ∷ hand) [] i = omega arith
more_count (h ∷ hand) (b ∷ by) zero = omega arith
more_count (h ∷ hand) (b ∷ by) (suc i) = more_count hand by i

-- 3. ONE MORE AT A PLACE.

abbrev up : List ℕ → ℕ → List ℕ
up hand i = slice_set hand i (get_or hand i 0 + 1)

abbrev down : List ℕ → ℕ → List ℕ
down hand i = slice_set hand i (get_or hand i 0 - 1)

pub less_up : (hand by : List ℕ) (i : ℕ) → Fits by hand → up (less_by hand by) i ≡ less_by (up hand i) by
less_up [] by i f = refl
less_up (h ∷ hand) [] i f = absurd f
less_up (h ∷ hand) (b ∷ by) zero f =
    let e : (h - b) + 1 ≡ (h + 1) - b = (let low = f.0 in omega (arith, low)) in ap (λ (x : ℕ). x ∷ less_by hand by) e
less_up (h ∷ hand) (b ∷ by) (suc i) f = ap (λ (xs : List ℕ). (h - b) ∷ xs) (less_up hand by i f.1)

pub fits_up : (hand by : List ℕ) (i : ℕ) → Fits by hand → Fits by (up hand i)
fits_up [] by i f = f
fits_up (h ∷ hand) [] i f = absurd f
fits_up (h ∷ hand) (b ∷ by) zero f = (let low = f.0 in omega (arith, low), f.1)
fits_up (h ∷ hand) (b ∷ by) (suc i) f = (f.0, fits_up hand by i f.1)

pub more_up : (hand by : List ℕ) (i : ℕ) → up (more_by hand by) i ≡ more_by (up hand i) by
more_up [] by i = refl
more_up (h ∷ hand) [] zero = refl
more_up (h ∷ hand) [] (suc i) = refl
more_up (h ∷ hand) (b ∷ by) zero =
    let e : (h + b) + 1 ≡ (h + 1) + b = omega arith in ap (λ (x : ℕ). x ∷ more_by hand by) e
more_up (h ∷ hand) (b ∷ by) (suc i) = ap (λ (xs : List ℕ). (h + b) ∷ xs) (more_up hand by i)

-- 4. ONE LESS AT A PLACE WHERE SOMETHING IS.

pub less_down : (hand by : List ℕ) (i : ℕ) → Fits by hand → 0 < get_or (less_by hand by) i 0 → down (less_by hand by) i ≡ less_by (down hand i) by
less_down [] by i f some = refl
less_down (h ∷ hand) [] i f some = absurd f
less_down (h ∷ hand) (b ∷ by) zero f some =
    let e : (h - b) - 1 ≡ (h - 1) - b = (let low = f.0 in omega (arith, low, some)) in ap (λ (x : ℕ). x ∷ less_by hand by) e
less_down (h ∷ hand) (b ∷ by) (suc i) f some = ap (λ (xs : List ℕ). (h - b) ∷ xs) (less_down hand by i f.1 some)

pub fits_down : (hand by : List ℕ) (i : ℕ) → Fits by hand → 0 < get_or (less_by hand by) i 0 → Fits by (down hand i)
fits_down [] by i f some = f
fits_down (h ∷ hand) [] i f some = absurd f
fits_down (h ∷ hand) (b ∷ by) zero f some = (let low = f.0 in omega (arith, low, some), f.1)
fits_down (h ∷ hand) (b ∷ by) (suc i) f some = (f.0, fits_down hand by i f.1 some)

pub more_down : (hand by : List ℕ) (i : ℕ) → 0 < get_or hand i 0 → down (more_by hand by) i ≡ more_by (down hand i) by
more_down [] by i some = refl
more_down (h ∷ hand) [] zero some = refl
more_down (h ∷ hand) [] (suc i) some = refl
more_down (h ∷ hand) (b ∷ by) zero some =
    let e : (h + b) - 1 ≡ (h - 1) + b = omega (arith, some) in ap (λ (x : ℕ). x ∷ more_by hand by) e
more_down (h ∷ hand) (b ∷ by) (suc i) some = ap (λ (xs : List ℕ). (h + b) ∷ xs) (more_down hand by i some)
