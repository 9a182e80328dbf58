use Rattle.std.proofs.Common.{◌≡◌, ◌<◌, ◌≤◌, ◌+◌, ℕ, zero, suc, List, [], ◌∷◌, Option, None, Bool, true, false, cond, length, arith, refl, inl, inr}
use Rattle.std.proofs.lemmas.Bool.{cases_order}
use Rattle.std.specs.List.{count_by}
use Rattle.std.proofs.lemmas.List.Sums.{sum_by-cons}
use Rattle.bit_boards.specs.declared.piece.Piece.{Piece}
use Rattle.board_core.specs.Board.{piece_at}

-- 1 where the test holds
abbrev pub one_if : Bool → ℕ
one_if b = cond b 1 0

pub count_by-cons : (p : Option Piece → Bool) (x : Option Piece) (xs : List (Option Piece))
    → count_by p (x ∷ xs) ≡ one_if (p x) + count_by p xs
count_by-cons p x xs = sum_by-cons (λ y. cond (p y) 1 0) x xs

pub one_if_true : (b : Bool) → b ≡ true → one_if b ≡ 1
one_if_true true e = refl
one_if_true false e = absurd (cc)

pub one_if_false : (b : Bool) → b ≡ false → one_if b ≡ 0
one_if_false true e = absurd (cc)
one_if_false false e = refl

-- where one cell passes, at least one is counted
pub count_by-one : (p : Option Piece → Bool) (cells : List (Option Piece)) (s : ℕ) → s < length cells → p (piece_at cells s) ≡ true
    → 1 ≤ count_by p cells
count_by-one p [] s h e = absurd (omega arith)
count_by-one p (x ∷ xs) zero h e = omega (arith, count_by-cons p x xs, one_if_true (p x) e)
count_by-one p (x ∷ xs) (suc s) h e = omega (arith, count_by-cons p x xs, count_by-one p xs s (omega arith) e)

-- where two cells pass, at least two are counted
pub count_by-two : (p : Option Piece → Bool) (cells : List (Option Piece)) (s t : ℕ) → s < t → t < length cells
    → p (piece_at cells s) ≡ true → p (piece_at cells t) ≡ true → 2 ≤ count_by p cells
count_by-two p [] s t o h d e = absurd (omega arith)
count_by-two p (x ∷ xs) s zero o h d e = absurd (omega arith)
count_by-two p (x ∷ xs) zero (suc t) o h d e =
    omega (arith, count_by-cons p x xs, one_if_true (p x) d, count_by-one p xs t (omega arith) e)
count_by-two p (x ∷ xs) (suc s) (suc t) o h d e =
    omega (arith, count_by-cons p x xs, count_by-two p xs s t (omega arith) (omega arith) d e)

-- where no cell passes, none is counted
pub count_by-none : (p : Option Piece → Bool) (cells : List (Option Piece))
    → ((s : ℕ) → s < length cells → p (piece_at cells s) ≡ false) → count_by p cells ≡ 0
count_by-none p [] h = refl
count_by-none p (x ∷ xs) h =
    omega (arith, count_by-cons p x xs, one_if_false (p x) (h 0 (omega arith)), count_by-none p xs (λ s b. h (suc s) (omega arith)))

-- a cell that passes is there, where an empty one doesn't pass
pub passing_within : (p : Option Piece → Bool) (cells : List (Option Piece)) (s : ℕ) → p None ≡ false → p (piece_at cells s) ≡ true
    → s < length cells
passing_within p [] s n e = absurd (cc)
passing_within p (x ∷ xs) zero n e = omega arith
passing_within p (x ∷ xs) (suc s) n e = let w = passing_within p xs s n e in omega arith

-- where at most one cell passes, two that pass are one
pub passing_once : (p : Option Piece → Bool) (cells : List (Option Piece)) (s t : ℕ) → p None ≡ false → count_by p cells ≤ 1
    → p (piece_at cells s) ≡ true → p (piece_at cells t) ≡ true → t ≡ s
passing_once p cells s t n most d e =
    let low = passing_within p cells s n d in
    let high = passing_within p cells t n e in
    elim (cases_order s t) [
      | inl same ↦ omega arith
      | inr apart ↦ elim apart [
        | inl below ↦ absurd (omega (arith, count_by-two p cells s t below high d e))
        | inr above ↦ absurd (omega (arith, count_by-two p cells t s above low e d))
      ]
    ]
