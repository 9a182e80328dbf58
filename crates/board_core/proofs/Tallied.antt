-- Counts over the first cells of a board, and what counts of all cells say of too many of a kind.
use Rattle.std.proofs.Common.{◌≡◌, ◌≢◌, ◌<◌, ◌≤◌, ◌+◌, ℕ, zero, suc, List, [], ◌∷◌, Option, Bool, true, false, cond, length, replicate, count_by, arith, refl, ap}
use Rattle.bit_boards.specs.declared.piece.Piece.{Piece}
use Rattle.bit_boards.specs.declared.piece.Kind.{Kind}
use Rattle.bit_boards.specs.declared.piece.Kind.TheVariants.{King}
use Rattle.bit_boards.specs.declared.piece.Side.{Side}
use Rattle.bit_boards.specs.Kind.{place_of, total_of}
use Rattle.board_core.specs.Board.{piece_at, hand_count, is_of_kind, count_of, one_if}
use Rattle.board_core.proofs.Counting.{count_by-cons}
use Rattle.board_core.proofs.EachKind.{each_kind}

-- How many of the first cells pass a test.
abbrev pub counted : (Option Piece → Bool) → List (Option Piece) → ℕ → ℕ
counted p cells zero = 0
counted p [] (suc n) = 0
counted p (x ∷ xs) (suc n) = one_if (p x) + counted p xs n

as_one_if : (b : Bool) → cond b 1 0 ≡ one_if b
as_one_if true = refl
as_one_if false = refl

at_most_one : (b : Bool) → one_if b ≤ 1
at_most_one true = omega arith
at_most_one false = omega arith

-- The next cell counts where it passes.
pub counted_more : (p : Option Piece → Bool) (cells : List (Option Piece)) (n m : ℕ) → n < length cells → m ≡ n + 1
    → counted p cells m ≡ counted p cells n + one_if (p (piece_at cells n))
counted_more p [] n m h next = absurd (omega arith)
counted_more p (x ∷ xs) n zero h next = absurd (omega arith)
counted_more p (x ∷ xs) zero (suc m) h next = let none : m ≡ 0 = omega arith in rw none (omega arith)
counted_more p (x ∷ xs) (suc n) (suc m) h next = let e = counted_more p xs n m (omega arith) (omega arith) in omega arith

-- An empty hand holds none of a kind.
pub none_held : (k : Kind) → k ≢ King → hand_count (replicate 7 0) k ≡ 0
none_held = each_kind (λ k. hand_count (replicate 7 0) k ≡ 0) refl refl refl refl refl refl refl

-- Of so many cells so many pass at most.
pub counted_few : (p : Option Piece → Bool) (cells : List (Option Piece)) (n : ℕ) → counted p cells n ≤ n
counted_few p cells zero = omega arith
counted_few p [] (suc n) = omega arith
counted_few p (x ∷ xs) (suc n) = let e = counted_few p xs n in let o = at_most_one (p x) in omega arith

-- All cells are counted behind the last.
pub counted_all : (p : Option Piece → Bool) (cells : List (Option Piece)) (n : ℕ) → n ≡ length cells → counted p cells n ≡ count_by p cells
counted_all p [] zero h = refl
counted_all p [] (suc n) h = absurd (omega arith)
counted_all p (x ∷ xs) zero h = absurd (omega arith)
counted_all p (x ∷ xs) (suc n) h =
    let e = counted_all p xs n (omega arith) in let c = count_by-cons p x xs in let o = as_one_if (p x) in omega arith

-- What was counted of a kind on the board is what the board has of it.
abbrev pub Counts : List ℕ → List (Option Piece) → Type 0
Counts standing cells = (k : Kind) → k ≢ King → hand_count standing k ≡ count_by (is_of_kind k) cells

-- Where no more of a kind are counted than a set has, the board has no more.
pub few_standing : (cells : List (Option Piece)) (black white : List ℕ) (side : Side) (standing : List ℕ) → Counts standing cells
    → ((k : Kind) → k ≢ King → hand_count standing k + hand_count black k + hand_count white k ≤ total_of k)
    → (k : Kind) → k ≢ King → count_of (record { cells = cells; black = black; white = white; side = side }) k ≤ total_of k
few_standing cells black white side standing counts few k named = let c = counts k named in let f = few k named in omega arith

-- Where more are counted, the board has more.
pub many_standing : (cells : List (Option Piece)) (black white : List ℕ) (side : Side) (standing : List ℕ) → Counts standing cells
    → (k : Kind) → k ≢ King → total_of k < hand_count standing k + hand_count black k + hand_count white k
    → total_of k < count_of (record { cells = cells; black = black; white = white; side = side }) k
many_standing cells black white side standing counts k named many = let c = counts k named in omega arith

-- And so of all kinds before one.
pub few_before : (cells : List (Option Piece)) (black white : List ℕ) (side : Side) (standing : List ℕ) → Counts standing cells
    → (before : ℕ) → before ≤ 7
    → ((k : Kind) → place_of k < before → hand_count standing k + hand_count black k + hand_count white k ≤ total_of k)
    → (k : Kind) → place_of k < before → count_of (record { cells = cells; black = black; white = white; side = side }) k ≤ total_of k
few_before cells black white side standing counts before within few k less =
    let c = counts k (λ is. absurd (omega (arith, ap place_of is, less, within))) in let f = few k less in omega arith
