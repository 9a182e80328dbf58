use Rattle.std.specs.Prelude.{◌≡◌, ◌<◌, ◌+◌, ◌*◌, ◌≤◌, ℕ, List, [], ◌∷◌, Bool, true, false, Some, Contains, slice_get}
use Rattle.bit_boards.specs.declared.square.Square.{Square}
use Rattle.board_core.specs.declared.moves.Move.{Move}
use Rattle.board_core.specs.declared.moves.Move.TheVariants as moves
use Rattle.bit_boards.specs.Kind.{place_of}

-- 1 for yes, 0 for no.
abbrev pub bit_of : Bool → ℕ
bit_of true = 1
bit_of false = 0

-- A move's place in the order of moves: first the board moves by origin, then destination, the
-- unpromoted one first; then the drops, by kind in the order of the kinds, then by square.
abbrev pub order_of : Move → ℕ
order_of (moves.Board from to promote) = 162 * from.number + 2 * to.number + bit_of promote
order_of (moves.Drop kind to) = 13122 + 81 * place_of kind + to.number

-- Each move of the list comes after the one before it in the order of moves, and none before a
-- place in that order.
abbrev pub RisesFrom : ℕ → List Move → Type 0
RisesFrom low [] = Unit {0}
RisesFrom low (move ∷ rest) = (low ≤ order_of move) × RisesFrom (order_of move + 1) rest

-- The list holds exactly the moves with the property, each once, in the order of moves.
pub record Lists (P : Move → Type 0) (moves : List Move) : Type 0 where
  pub sound : (move : Move) → Contains moves move → P move
  pub complete : (move : Move) → P move → Contains moves move
  pub rises : RisesFrom 0 moves

-- A law: no two moves have one place in the order.
abbrev pub OrdersApart : Type 0
OrdersApart = (a b : Move) → order_of a ≡ order_of b → a ≡ b

-- A law: the moves from a square lie among the 162 places that are its own.
abbrev pub OrdersByOrigin : Type 0
OrdersByOrigin = (from to : Square) (promote : Bool) → (162 * from.number ≤ order_of (moves.Board from to promote))
    × (order_of (moves.Board from to promote) < 162 * from.number + 162)

-- A law: the order has 13,770 places, 162 for the moves from each of 81 squares and 81 for the
-- drops of each of eight kinds.
abbrev pub OrdersWithin : Type 0
OrdersWithin = (move : Move) → order_of move < 13770

-- A law: in a list in the order of moves, a move that comes before another in the order stands
-- before it.
abbrev pub PlacesInOrder : Type 0
PlacesInOrder = (low : ℕ) (moves : List Move) → RisesFrom low moves → (i j : ℕ) (a b : Move) → slice_get moves i ≡ Some a
    → slice_get moves j ≡ Some b → order_of a < order_of b → i < j
