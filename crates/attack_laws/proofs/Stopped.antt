-- Which squares don't stop all who attack.
use Rattle.std.proofs.Common.{◌≡◌, ◌≢◌, ◌<◌, ◌/◌, ◌%◌, ◌⊎◌, ◌↔◌, inl, inr, ℕ, zero, suc, true, false, arith, sym, ◌∙◌, subst}
use Rattle.std.proofs.lemmas.Bool.{cases_eq, cases_lt, cases_Bool}
use Rattle.bit_boards.specs.declared.mask.Mask.{Mask}
use Rattle.bit_boards.specs.Mask.{holds, Holds, MasksOnBoard}
use Rattle.bit_boards.specs.Movement.{distance, IsInside, IsBetween, IsOnFile, IsOnRow, IsOnDiagonal}
use Rattle.board_core.specs.Board.{Board, piece_at}
use Rattle.shogi_rules.specs.Rules.{IsOwn}
use Rattle.attack_lines.specs.Lines.{AttacksWithout, StopsAll}
use Rattle.attack_laws.specs.Unveiled.{IsUnveiled}
use Rattle.attack_laws.proofs.Arrived.{some_of, some_by}

-- it holds or it doesn't
abbrev pub Decided : Type 0 → Type 0
Decided A = A ⊎ ¬ A

not_inside : (x y z : ℕ) → IsInside x y z → ((x < y) × (y < z) → ⊥) → ((z < y) × (y < x) → ⊥) → ⊥
not_inside x y z (inl i) up down = up i
not_inside x y z (inr i) up down = down i

inside_decided : (x y z : ℕ) → Decided (IsInside x y z)
inside_decided x y z = elim (cases_lt x y) [
  | inl a ↦ elim (cases_lt y z) [
    | inl b ↦ inl (inl (a, b))
    | inr b ↦ inr (λ i. not_inside x y z i (λ t. omega (arith, b, t.1)) (λ t. omega (arith, a, t.1)))
  ]
  | inr a ↦ elim (cases_lt z y) [
    | inl b ↦ elim (cases_lt y x) [
      | inl c ↦ inl (inr (b, c))
      | inr c ↦ inr (λ i. not_inside x y z i (λ t. omega (arith, a, t.0)) (λ t. omega (arith, c, t.1)))
    ]
    | inr b ↦ inr (λ i. not_inside x y z i (λ t. omega (arith, a, t.0)) (λ t. omega (arith, b, t.0)))
  ]
]

file_decided : (a m b : ℕ) → Decided (IsOnFile a m b)
file_decided a m b = elim (cases_eq (a / 9) (m / 9)) [
  | inr n ↦ inr (λ f. n f.here)
  | inl here ↦ elim (cases_eq (b / 9) (m / 9)) [
    | inr n ↦ inr (λ f. n f.there)
    | inl there ↦ elim (inside_decided (a % 9) (m % 9) (b % 9)) [
      | inr n ↦ inr (λ f. n f.inside)
      | inl inside ↦ inl (record { here = here; there = there; inside = inside })
    ]
  ]
]

row_decided : (a m b : ℕ) → Decided (IsOnRow a m b)
row_decided a m b = elim (cases_eq (a % 9) (m % 9)) [
  | inr n ↦ inr (λ f. n f.here)
  | inl here ↦ elim (cases_eq (b % 9) (m % 9)) [
    | inr n ↦ inr (λ f. n f.there)
    | inl there ↦ elim (inside_decided (a / 9) (m / 9) (b / 9)) [
      | inr n ↦ inr (λ f. n f.inside)
      | inl inside ↦ inl (record { here = here; there = there; inside = inside })
    ]
  ]
]

diagonal_decided : (a m b : ℕ) → Decided (IsOnDiagonal a m b)
diagonal_decided a m b = elim (cases_eq (distance (a / 9) (m / 9)) (distance (a % 9) (m % 9))) [
  | inr n ↦ inr (λ f. n f.here)
  | inl here ↦ elim (cases_eq (distance (a / 9) (b / 9)) (distance (a % 9) (b % 9))) [
    | inr n ↦ inr (λ f. n f.there)
    | inl there ↦ elim (inside_decided (a / 9) (m / 9) (b / 9)) [
      | inr n ↦ inr (λ f. n f.files)
      | inl files ↦ elim (inside_decided (a % 9) (m % 9) (b % 9)) [
        | inr n ↦ inr (λ f. n f.rows)
        | inl rows ↦ inl (record { here = here; there = there; files = files; rows = rows })
      ]
    ]
  ]
]

none_of : (a m b : ℕ) → ¬ IsOnFile a m b → ¬ IsOnRow a m b → ¬ IsOnDiagonal a m b → ¬ IsBetween a m b
none_of a m b f r d (inl h) = f h
none_of a m b f r d (inr (inl h)) = r h
none_of a m b f r d (inr (inr h)) = d h

pub between_decided : (a m b : ℕ) → Decided (IsBetween a m b)
between_decided a m b = elim (file_decided a m b) [
  | inl f ↦ inl (inl f)
  | inr f ↦ elim (row_decided a m b) [
    | inl r ↦ inl (inr (inl r))
    | inr r ↦ elim (diagonal_decided a m b) [
      | inl d ↦ inl (inr (inr d))
      | inr d ↦ inr (none_of a m b f r d)
    ]
  ]
]

-- an attacker that is neither taken on the square nor cut off by it
pub record IsMissed (behind : Mask) (to end : ℕ) : Type 0 where
  pub from : ℕ
  pub has : Holds behind from
  pub apart : to ≢ from
  pub aside : ¬ IsBetween from to end

one_more : (P : ℕ → Type 0) (n : ℕ) → ((s : ℕ) → s < n → P s) → P n → (s : ℕ) → s < suc n → P s
one_more P n below here s low = elim (cases_eq s n) [
  | inl e ↦ subst P (sym e) here
  | inr apart ↦ below s (omega arith)
]

-- such a one on a square, or none
missed_here : (behind : Mask) (to end s : ℕ) → IsMissed behind to end ⊎ (Holds behind s → (to ≡ s) ⊎ IsBetween s to end)
missed_here behind to end s = elim (cases_Bool (holds behind s)) [
  | inr none ↦ inr (λ has. absurd (let e : true ≡ false = sym has ∙ none in cc))
  | inl has ↦ elim (cases_eq to s) [
    | inl e ↦ inr (λ _. inl e)
    | inr n ↦ elim (between_decided s to end) [
      | inl between ↦ inr (λ _. inr between)
      | inr aside ↦ inl (record { from = s; has = has; apart = n; aside = aside })
    ]
  ]
]

-- such a one among the squares below a number, or none there
missed_below : (behind : Mask) (to end n : ℕ)
    → IsMissed behind to end ⊎ ((s : ℕ) → s < n → Holds behind s → (to ≡ s) ⊎ IsBetween s to end)
missed_below behind to end zero = inr (λ s low has. absurd (omega arith))
missed_below behind to end (suc n) = elim (missed_below behind to end n) [
  | inl found ↦ inl found
  | inr all ↦ elim (missed_here behind to end n) [
    | inl found ↦ inl found
    | inr here ↦ inr (one_more (λ s. Holds behind s → (to ≡ s) ⊎ IsBetween s to end) n all here)
  ]
]

-- what doesn't stop all misses one of them
pub missed : MasksOnBoard → (behind : Mask) (to end : ℕ) → ¬ StopsAll behind end to → IsMissed behind to end
missed on_board behind to end none = elim (missed_below behind to end 81) [
  | inl found ↦ found
  | inr all ↦ absurd (none (λ s has. all s (on_board behind s has) has))
]

not_stopped : (b : Board) (lifted to end : ℕ) → ¬ IsOwn b to → (u : IsUnveiled b.cells b.side lifted to end)
    → (to ≡ u.from) ⊎ IsBetween u.from to end → ⊥
not_stopped b lifted to end free u (inl e) =
    let t = some_of (piece_at b.cells u.from) _ u.attacks in
    free (subst (λ (s : ℕ). IsOwn b s) (sym e) (some_by (piece_at b.cells u.from) _ t.0 t.1 t.2.0))
not_stopped b lifted to end free u (inr between) = u.aside between

-- a square that isn't the side's own doesn't stop all of its pieces that attack once another is
-- lifted, where that other one unveils one
pub unstopped : MasksOnBoard → (b : Board) (behind : Mask) (lifted to end : ℕ) → ¬ IsOwn b to
    → ((s : ℕ) → Holds behind s ↔ ((s < 81) × AttacksWithout b.cells b.side lifted s end))
    → (¬ StopsAll behind end to) ↔ IsUnveiled b.cells b.side lifted to end
unstopped on_board b behind lifted to end free are = (
  λ none.
      let m = missed on_board behind to end none in
      let a = (are m.from).0 m.has in
      record { from = m.from; on_board = a.0; attacks = a.1; aside = m.aside },
  λ u stops. not_stopped b lifted to end free u (stops u.from ((are u.from).1 (u.on_board, u.attacks))),
)
