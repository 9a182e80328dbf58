use Rattle.std.proofs.Common.{◌≡◌, ◌≢◌, ◌≤◌, ◌+◌, ◌-◌, ℕ, List, length, arith, refl}
use Rattle.std.specs.List.{count_by}
use Rattle.bit_boards.specs.declared.piece.Kind.{Kind}
use Rattle.bit_boards.specs.declared.piece.Kind.TheVariants.{King}
use Rattle.bit_boards.specs.declared.piece.Side.{Side}
use Rattle.bit_boards.specs.declared.piece.Side.TheVariants.{Black, White}
use Rattle.bit_boards.specs.Kind.{other, total_of}
use Rattle.board_core.specs.Board.{Board, hand_count, hand_of, by_side, count_of, is_of_kind}
use Rattle.board_core.specs.Kept.{IsKept}
use Rattle.board_core.specs.Rest.{count_with_rest, hand_with_rest, board_with_rest}
use Rattle.board_core.proofs.EachKind.{each_kind}

held_rest : (b : Board) (k : Kind) → k ≢ King → hand_count (hand_with_rest b) k ≡ count_with_rest b k
unfolding hand_with_rest
held_rest b k n = each_kind (λ j. hand_count (hand_with_rest b) j ≡ count_with_rest b j) refl refl refl refl refl refl refl k n

-- a hand that a side had and what is left make up the set
made_up : (s : Side) (b : Board) (hand : List ℕ) (k : Kind) → count_of b k ≤ total_of k
    → hand_count hand k ≡ hand_count (hand_of b s) k + (total_of k - count_of b k)
    → count_by (is_of_kind k) b.cells + hand_count (by_side s hand b.black) k + hand_count (by_side s b.white hand) k ≡ total_of k
made_up Black b hand k most e = omega arith
made_up White b hand k most e = omega arith

pub rest_total : (b : Board) → IsKept b → (k : Kind) → k ≢ King → count_of (board_with_rest b) k ≡ total_of k
rest_total b kept k n = made_up (other b.side) b (hand_with_rest b) k (kept.totals k n) (held_rest b k n)

seven : (b : Board) → length (hand_with_rest b) ≡ 7
unfolding hand_with_rest
seven b = refl

one_of : (s : Side) (g h : List ℕ) → length g ≡ 7 → length h ≡ 7 → length (by_side s g h) ≡ 7
one_of Black g h long as_long = long
one_of White g h long as_long = as_long

pub rest_kept : (b : Board) → IsKept b → IsKept (board_with_rest b)
rest_kept b kept = record {
  cells = kept.cells;
  black = one_of (other b.side) (hand_with_rest b) b.black (seven b) kept.black;
  white = one_of (other b.side) b.white (hand_with_rest b) kept.white (seven b);
  totals = λ k n. omega (arith, rest_total b kept k n);
  kings = kept.kings;
  alive = kept.alive;
  pawns = kept.pawns;
}

-- the parts of what is made, where the side to move is known
