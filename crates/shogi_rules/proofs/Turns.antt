-- What legal says of a move, as the calls that make it ask for it.
use Rattle.std.proofs.Common.{◌≡◌, ℕ, Bool, subst}
use Rattle.bit_boards.specs.declared.piece.Kind.{Kind}
use Rattle.bit_boards.specs.declared.square.Square.{Square}
use Rattle.board_core.specs.declared.moves.Move.{Move}
use Rattle.board_core.specs.declared.moves.Move.TheVariants as moves
use Rattle.board_core.specs.Board.{Board}
use Rattle.shogi_rules.specs.declared.illegal.Illegal.{Illegal}
use Rattle.shogi_rules.specs.Rules.{RefusesBoard, RefusesDrop, IsLegal, IsInCheck, IsQuiet, after_board, after_drop}
use Rattle.board_laws.proofs.Sides.{other_twice}

pub legal_board_of : (b : Board) (m : Move) (from to : Square) (promote : Bool) → m ≡ moves.Board from to promote → IsLegal b m
    → (why : Illegal) → ¬ RefusesBoard b from.number to.number promote why
legal_board_of b m from to promote is legal =
    let l : IsLegal b (moves.Board from to promote) = subst (λ (q : Move). IsLegal b q) is legal in λ why. l why

pub legal_drop_of : (b : Board) (m : Move) (kind : Kind) (to : Square) → m ≡ moves.Drop kind to → IsLegal b m
    → (why : Illegal) → ¬ RefusesDrop b kind to.number why
legal_drop_of b m kind to is legal =
    let l : IsLegal b (moves.Drop kind to) = subst (λ (q : Move). IsLegal b q) is legal in λ why. l why

pub quiet_board : (b : Board) (from to : ℕ) (promote : Bool) → ¬ IsInCheck (after_board b from to promote).cells b.side → IsQuiet (after_board b from to promote)
quiet_board b from to promote h = λ k. h (rw (other_twice b.side) at k)

pub quiet_drop : (b : Board) (kind : Kind) (to : ℕ) → ¬ IsInCheck (after_drop b kind to).cells b.side → IsQuiet (after_drop b kind to)
quiet_drop b k to h = λ k. h (rw (other_twice b.side) at k)
