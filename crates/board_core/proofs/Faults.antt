use Rattle.std.proofs.Common.{◌≡◌, ◌≢◌, ◌<◌, ◌≤◌, ◌+◌, ℕ, List, Option, false, arith, ◌∙◌}
use Rattle.bit_boards.specs.declared.piece.Piece.{Piece}
use Rattle.bit_boards.specs.declared.piece.Kind.{Kind}
use Rattle.bit_boards.specs.declared.piece.Kind.TheVariants.{King}
use Rattle.bit_boards.specs.declared.piece.Side.{Side}
use Rattle.bit_boards.specs.declared.piece.Side.TheVariants.{Black, White}
use Rattle.board_core.specs.declared.build.BadPosition.{BadPosition}
use Rattle.board_core.specs.declared.build.BadPosition.TheVariants.{TooMany, NoDefenderKing, TwoKings, DeadPiece, TwoPawns}
use Rattle.bit_boards.specs.Kind.{other, place_of, total_of}
use Rattle.bit_boards.specs.Piece.{is_dead}
use Rattle.board_core.specs.Board.{Board, piece_at, count_of, kings_of}
use Rattle.board_core.specs.Kept.{TwoPawnsOn}
use Rattle.board_core.specs.Build.{HasFault, fault_order}
use Rattle.board_core.proofs.EachKind.{each_side, place_below}

-- no fault is there that comes before this place in the order of faults
abbrev pub Clear : Board → ℕ → Type 0
Clear b n = (fault : BadPosition) → fault_order fault < n → HasFault b fault → ⊥

pub clear_some : (b : Board) (k : Kind) → k ≢ King → ((j : Kind) → place_of j < place_of k → count_of b j ≤ total_of j) → Clear b (place_of k)
clear_some b k h few (TooMany j) o f = let less = few j o in let more = f.1 in omega arith
clear_some b k h few NoDefenderKing o f = let low = place_below k h in omega arith
clear_some b k h few TwoKings o f = let low = place_below k h in omega arith
clear_some b k h few (DeadPiece s) o f = let low = place_below k h in omega arith
clear_some b k h few (TwoPawns n) o f = let low = place_below k h in omega arith

pub clear_totals : (b : Board) → ((k : Kind) → k ≢ King → count_of b k ≤ total_of k) → Clear b 8
clear_totals b few (TooMany j) o f = let less = few j f.0 in let more = f.1 in omega arith
clear_totals b few NoDefenderKing o f = omega arith
clear_totals b few TwoKings o f = omega arith
clear_totals b few (DeadPiece s) o f = omega arith
clear_totals b few (TwoPawns n) o f = omega arith

pub clear_defender : (b : Board) → Clear b 8 → kings_of b (other b.side) ≢ 0 → Clear b 9
clear_defender b c some (TooMany j) o f = let low = place_below j f.0 in c (TooMany j) (omega arith) f
clear_defender b c some NoDefenderKing o f = some f
clear_defender b c some TwoKings o f = omega arith
clear_defender b c some (DeadPiece s) o f = omega arith
clear_defender b c some (TwoPawns n) o f = omega arith

pub clear_kings : (b : Board) → Clear b 9 → ((s : Side) → kings_of b s ≤ 1) → Clear b 10
clear_kings b c one (TooMany j) o f = let low = place_below j f.0 in c (TooMany j) (omega arith) f
clear_kings b c one NoDefenderKing o f = c NoDefenderKing (omega arith) f
clear_kings b c one TwoKings o f = let less = one f.0 in let more = f.1 in omega arith
clear_kings b c one (DeadPiece s) o f = omega arith
clear_kings b c one (TwoPawns n) o f = omega arith

pub clear_dead : (b : Board) (n : ℕ) → n ≤ 81 → Clear b 10 → ((s : ℕ) → s < n → is_dead s (piece_at b.cells s) ≡ false) → Clear b (10 + n)
clear_dead b n w c alive (TooMany j) o f = let low = place_below j f.0 in c (TooMany j) (omega arith) f
clear_dead b n w c alive NoDefenderKing o f = c NoDefenderKing (omega arith) f
clear_dead b n w c alive TwoKings o f = c TwoKings (omega arith) f
clear_dead b n w c alive (DeadPiece s) o f = let no = alive s.number (omega arith) in cc
clear_dead b n w c alive (TwoPawns m) o f = omega arith

pub clear_pawns : (b : Board) (n : ℕ) → Clear b 91 → ((file : ℕ) → file < n → (side : Side) → TwoPawnsOn b.cells side file → ⊥) → Clear b (100 + n)
clear_pawns b n c apart (TooMany j) o f = let low = place_below j f.0 in c (TooMany j) (omega arith) f
clear_pawns b n c apart NoDefenderKing o f = c NoDefenderKing (omega arith) f
clear_pawns b n c apart TwoKings o f = c TwoKings (omega arith) f
clear_pawns b n c apart (DeadPiece s) o f = let low = s.on_board in c (DeadPiece s) (omega arith) f
clear_pawns b n c apart (TwoPawns m) o f = apart m (omega arith) f.0 f.1

-- no fault at all is there
pub clear_all : (b : Board) → ((n : ℕ) → Clear b (100 + n)) → (fault : BadPosition) → HasFault b fault → ⊥
clear_all b c fault f = c (fault_order fault + 1) fault (omega arith) f

-- two pawns on a file stand on one of the nine files
pub two_pawns_within : (cells : List (Option Piece)) (side : Side) (file : ℕ) → TwoPawnsOn cells side file → file < 10
two_pawns_within cells side file two = omega (arith, two.apart, two.on_board, two.file_one)

-- a count that isn't 0 is a defender's king
pub some_defender : (b : Board) (side : Side) (count : ℕ) → side ≡ other b.side → count ≡ kings_of b side → count ≢ 0
    → kings_of b (other b.side) ≢ 0
some_defender b side count s k some none = some (k ∙ rw s none)

-- what the tests up to the kings have shown
pub clear_to_kings : (b : Board) → ((k : Kind) → k ≢ King → count_of b k ≤ total_of k) → kings_of b (other b.side) ≢ 0
    → kings_of b Black ≤ 1 → kings_of b White ≤ 1 → Clear b 10
clear_to_kings b few some black white =
    clear_kings b (clear_defender b (clear_totals b few) some) (each_side (λ s. kings_of b s ≤ 1) black white)
