-- White's king alone on a board.
use Rattle.std.proofs.Common.{◌≡◌, ◌≢◌, ◌<◌, ◌≤◌, ◌+◌, ◌∙◌, ℕ, zero, suc, List, ◌∷◌, Option, Some, None, Bool, true, false, cond, slice_set, replicate, inl, inr, arith, ap, sym, refl, subst}
use Rattle.std.specs.Prelude.{IsSomeAnd}
use Rattle.std.specs.List.{count_by}
use Rattle.std.proofs.lemmas.Bool.{cases_eq}
use Rattle.std.proofs.lemmas.List.Sums.{sum_by-cons}
use Rattle.board_laws.proofs.Cells.{one_if_most, none_everywhere}
use Rattle.bit_boards.specs.declared.piece.Piece.{Piece}
use Rattle.bit_boards.specs.declared.piece.Kind.{Kind}
use Rattle.bit_boards.specs.declared.piece.Kind.TheVariants.{Pawn, Lance, Knight, Silver, Gold, Bishop, Rook, King}
use Rattle.bit_boards.specs.declared.piece.Side.{Side}
use Rattle.bit_boards.specs.declared.piece.Side.TheVariants.{Black, White}
use Rattle.bit_boards.specs.Kind.{same_kind, total_of}
use Rattle.bit_boards.specs.Piece.{plain_piece, is_dead}
use Rattle.board_core.specs.declared.build.BadPosition.{BadPosition}
use Rattle.board_core.specs.declared.build.BadPosition.TheVariants.{TooMany, NoDefenderKing, TwoKings, DeadPiece, TwoPawns}
use Rattle.board_core.specs.Board.{Board, piece_at, is_of_kind, is_king_of, is_pawn_of, hand_count, count_of, kings_of, one_if}
use Rattle.board_core.specs.Build.{HasFault}
use Rattle.shogi_rules.specs.Rules.{Reaches, Attacks}
use Rattle.problem_gen.specs.Generator.{king_alone, IsUnderWay}

-- White's king.
abbrev pub king : Option Piece
king = Some (plain_piece King White)

-- So many cells, of which one has the king.
abbrev pub cells_with : ℕ → ℕ → List (Option Piece)
cells_with n square = slice_set (replicate n None) square king

pub king_at : (n square : ℕ) → square < n → piece_at (cells_with n square) square ≡ king
king_at zero square h = absurd (omega arith)
king_at (suc n) zero h = refl
king_at (suc n) (suc square) h = king_at n square (omega arith)

pub none_at : (n square s : ℕ) → s ≢ square → piece_at (cells_with n square) s ≡ None
none_at zero square s h = refl
none_at (suc n) zero zero h = absurd (h refl)
none_at (suc n) zero (suc s) h = none_everywhere n s
none_at (suc n) (suc square) zero h = refl
none_at (suc n) (suc square) (suc s) h = none_at n square s (λ e. h (ap suc e))

one_if-cond : (b : Bool) → cond b 1 0 ≡ one_if b
one_if-cond true = refl
one_if-cond false = refl

counts_first : (p : Option Piece → Bool) (x : Option Piece) (xs : List (Option Piece)) → count_by p (x ∷ xs) ≡ one_if (p x) + count_by p xs
counts_first p x xs = sum_by-cons (λ y. cond (p y) 1 0) x xs ∙ ap (λ (n : ℕ). n + count_by p xs) (one_if-cond (p x))

counts_none : (p : Option Piece → Bool) (n : ℕ) → p None ≡ false → count_by p (replicate n None) ≡ 0
counts_none p zero h = refl
counts_none p (suc n) h =
    let first : one_if (p None) ≡ 0 = rw h refl in
    omega (arith, counts_first p None (replicate n None), counts_none p n h, first)

counts_king : (p : Option Piece → Bool) (n square : ℕ) → p None ≡ false → square < n → count_by p (cells_with n square) ≡ one_if (p king)
counts_king p zero square h below = absurd (omega arith)
counts_king p (suc n) zero h below = omega (arith, counts_first p king (replicate n None), counts_none p n h)
counts_king p (suc n) (suc square) h below =
    let first : one_if (p None) ≡ 0 = rw h refl in
    omega (arith, counts_first p None (cells_with n square), counts_king p n square h (omega arith), first)

-- The board of these cells, empty hands, and Black to move.
abbrev pub board_with : ℕ → ℕ → Board
board_with n square = record { cells = cells_with n square; black = replicate 7 0; white = replicate 7 0; side = Black }

none_held : (k : Kind) → hand_count (replicate 7 0) k ≡ 0
none_held Pawn = refl
none_held Lance = refl
none_held Knight = refl
none_held Silver = refl
none_held Gold = refl
none_held Bishop = refl
none_held Rook = refl
none_held King = refl

pub king_count : (n square : ℕ) (k : Kind) → square < n → count_of (board_with n square) k ≡ one_if (same_kind King k)
king_count n square k below = omega (arith, counts_king (is_of_kind k) n square refl below, none_held k)

pub white_kings : (n square : ℕ) → square < n → kings_of (board_with n square) White ≡ 1
white_kings n square below = counts_king (is_king_of White) n square refl below

pub black_kings : (n square : ℕ) → square < n → kings_of (board_with n square) Black ≡ 0
black_kings n square below = counts_king (is_king_of Black) n square refl below

two_at_least : (k : Kind) → 2 ≤ total_of k
two_at_least Pawn = omega arith
two_at_least Lance = omega arith
two_at_least Knight = omega arith
two_at_least Silver = omega arith
two_at_least Gold = omega arith
two_at_least Bishop = omega arith
two_at_least Rook = omega arith
two_at_least King = omega arith

kings_few : (n square : ℕ) (side : Side) → square < n → kings_of (board_with n square) side ≤ 1
kings_few n square Black below = omega (arith, black_kings n square below)
kings_few n square White below = omega (arith, white_kings n square below)

king_alive : (s : ℕ) → is_dead s king ≡ false
king_alive s = grind arith

nothing_dead : (n square s : ℕ) → square < n → is_dead s (piece_at (cells_with n square) s) ≡ true → ⊥
nothing_dead n square s below h = elim (cases_eq s square) [
  | inl e ↦
      let here : is_dead s (piece_at (cells_with n square) s) ≡ false =
      subst (λ (t : ℕ). is_dead t (piece_at (cells_with n square) t) ≡ false) (sym e) (rw (king_at n square below) (king_alive square)) in
      cc
  | inr m ↦ let here : is_dead s (piece_at (cells_with n square) s) ≡ false = rw (none_at n square s m) refl in cc
]

no_pawn : (n square s : ℕ) (side : Side) → square < n → is_pawn_of side (piece_at (cells_with n square) s) ≡ true → ⊥
no_pawn n square s side below h = elim (cases_eq s square) [
  | inl e ↦
      let here : is_pawn_of side (piece_at (cells_with n square) s) ≡ false = rw (e, king_at n square below) refl in
      cc
  | inr m ↦ let here : is_pawn_of side (piece_at (cells_with n square) s) ≡ false = rw (none_at n square s m) refl in cc
]

-- A board with White's king alone has none of the faults.
pub no_fault : (n square : ℕ) → square < n → (fault : BadPosition) → ¬ HasFault (board_with n square) fault
no_fault n square below (TooMany k) h = absurd (omega (arith, king_count n square k below, two_at_least k, one_if_most (same_kind King k), h.1))
no_fault n square below NoDefenderKing h = absurd (omega (arith, white_kings n square below, h))
no_fault n square below TwoKings h = absurd (omega (arith, kings_few n square h.0 below, h.1))
no_fault n square below (DeadPiece at) h = nothing_dead n square at.number below h
no_fault n square below (TwoPawns file) h = no_pawn n square h.1.one h.0 below h.1.pawn_one

king_only : (n square s : ℕ) → is_king_of White (piece_at (cells_with n square) s) ≡ true → s ≡ square
king_only n square s h = elim (cases_eq s square) [
  | inl e ↦ e
  | inr m ↦ absurd (let none : is_king_of White (piece_at (cells_with n square) s) ≡ false = rw (none_at n square s m) refl in cc)
]

no_attacker : (cell : Option Piece) (cells : List (Option Piece)) (from to : ℕ) → cell ≡ king
    → IsSomeAnd cell (λ p. (p.side ≡ Black) × Reaches cells p from to) → ⊥
no_attacker None cells from to e h = h
no_attacker (Some p) cells from to e h =
    let same : p ≡ plain_piece King White = cc in
    let white : p.side ≡ White = ap (λ (q : Piece). q.side) same in
    absurd (let black = h.0 in cc)

no_attack : (n square to : ℕ) → square < n → ¬ Attacks (cells_with n square) Black to
no_attack n square to below h = elim (cases_eq h.0 square) [
  | inl e ↦ no_attacker (piece_at (cells_with n square) h.0) (cells_with n square) h.0 to (rw (e) (king_at n square below)) h.2
  | inr m ↦ subst (λ (cell : Option Piece). IsSomeAnd cell (λ p. (p.side ≡ Black) × Reaches (cells_with n square) p h.0 to)) (none_at n square h.0 m) h.2
]

-- With the king alone, the problem is under way.
pub alone_under_way : (n square : ℕ) → square < n → IsUnderWay square (board_with n square)
alone_under_way n square below = record {
  turn = refl;
  there = rw (king_at n square below) refl;
  only = king_only n square;
  defender = white_kings n square below;
  attacker = black_kings n square below;
  safe = no_attack n square square below;
}

pub alone_is : (square : ℕ) → board_with 81 square ≡ king_alone square
unfolding king_alone
alone_is square = refl
