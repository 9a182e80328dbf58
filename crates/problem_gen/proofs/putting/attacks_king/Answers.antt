use Rattle.std.proofs.Common.{◌≡◌, ◌<◌, ℕ, Some, sym, subst}
use Rattle.bit_boards.specs.declared.piece.Side.TheVariants.{Black}
use Rattle.board_core.specs.Board.{Board, ChangesCell}
use Rattle.shogi_rules.specs.Rules.{AttacksFrom}
use Rattle.problem_gen.specs.Generator.{piece_of, square_for, with_piece}
use Rattle.problem_gen.proofs.Attacking.{attack_of_put}
use Rattle.problem_gen.proofs.putting.attacks_king.Goals as goal

pub put-requires-clause-left_over : goal.put-requires-clause-left_over
put-requires-clause-left_over c = rw c.plain.ensures (λ _. c.requires.left_over)

pub returns-in-Black : goal.returns-in-Black
returns-in-Black c =
    let black : c.args.piece.now.side ≡ Black = c.in-Black.is in
    let within : square_for c.args.piece.now < 81 = subst (λ (n : ℕ). n < 81) c.requires.square c.args.to.on_board in
    let change : ChangesCell c.args.position.now c.put.new.self (square_for c.args.piece.now) (Some (piece_of c.args.piece.now)) =
    rw (c.plain.ensures, c.requires.square) at c.put.ensures.changes in
    let is : c.put.new.self ≡ with_piece c.args.position.now c.args.piece.now = rw (c.plain.ensures, c.requires.square) at c.put.ensures.position in
    let tells = attack_of_put c.args.position.now c.put.new.self c.args.king.number (square_for c.args.piece.now) (piece_of c.args.piece.now)
    c.requires.under_way.safe within change in (
      λ t. (black, subst (λ (b : Board). AttacksFrom b.cells Black (square_for c.args.piece.now) c.args.king.number) is (tells.0 (c.attacked.ensures.0 t))),
      λ p. c.attacked.ensures.1
          (tells.1 (subst (λ (b : Board). AttacksFrom b.cells Black (square_for c.args.piece.now) c.args.king.number) (sym is) p.1)),
    )
