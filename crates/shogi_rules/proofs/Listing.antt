-- Where in the order of moves the wanted ones lie.
use Rattle.std.proofs.Common.{◌≡◌, ◌<◌, ◌≤◌, ◌+◌, ◌*◌, ℕ, arith, subst}
use Rattle.bit_boards.specs.declared.piece.Kind.{Kind}
use Rattle.board_core.specs.declared.moves.Move.{Move}
use Rattle.board_core.specs.declared.moves.Move.TheVariants as moves
use Rattle.board_core.specs.Laws.{PlacesApart}
use Rattle.bit_boards.specs.Kind.{place_of}
use Rattle.board_core.specs.Order.{order_of, OrdersByOrigin}
use Rattle.bit_boards.specs.declared.piece.Side.{Side}
use Rattle.board_core.specs.Board.{Board, hand_count, hand_of}
use Rattle.shogi_rules.specs.declared.illegal.Illegal.TheVariants.{NotThere, NotInHand}
use Rattle.shogi_rules.specs.declared.trial.Wanted.{Wanted}
use Rattle.shogi_rules.specs.declared.trial.Wanted.TheVariants.{Checks, Evasions}
use Rattle.shogi_rules.specs.Rules.{IsOwn, IsLegal}
use Rattle.shogi_rules.specs.Trial.{IsWanted}

wanted_legal : (w : Wanted) (attacker : Side) (b : Board) (m : Move) → IsWanted w attacker b m → IsLegal b m
wanted_legal Checks attacker b m h = h.legal
wanted_legal Evasions attacker b m h = h.legal

-- a wanted move in the stretch of a square's moves is a move of the mover's piece there
pub wanted_from : OrdersByOrigin → (w : Wanted) (attacker : Side) (b : Board) (from : ℕ) → from < 81 → ¬ IsOwn b from
    → (m : Move) → IsWanted w attacker b m → 162 * from ≤ order_of m → order_of m < 162 * from + 162 → ⊥
wanted_from origins w attacker b from within other (moves.Board f t p) h low high =
    let own = origins f t p in
    let same : f.number ≡ from = omega (arith, own.0, own.1) in
    wanted_legal w attacker b _ h NotThere (λ own. other (subst (λ (s : ℕ). IsOwn b s) same own))
wanted_from origins w attacker b from within other (moves.Drop k t) h low high = omega arith

-- a wanted move in the stretch of a kind's drops is a drop of that kind, which the mover has in
-- hand
pub wanted_drop : OrdersByOrigin → PlacesApart → (w : Wanted) (attacker : Side) (b : Board) (k : Kind) → hand_count (hand_of b b.side) k ≡ 0
    → (m : Move) → IsWanted w attacker b m
    → 13122 + 81 * place_of k ≤ order_of m → order_of m < 13122 + 81 * place_of k + 81 → ⊥
wanted_drop origins places w attacker b k none (moves.Board f t p) h low high =
    let own = origins f t p in absurd (omega (arith, own.0, own.1, f.on_board))
wanted_drop origins places w attacker b k none (moves.Drop l t) h low high =
    let same : l ≡ k = places l k (omega (arith, t.on_board)) in
    wanted_legal w attacker b _ h NotInHand (rw same none)
