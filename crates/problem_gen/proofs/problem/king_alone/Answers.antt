use Rattle.std.proofs.Common.{◌≡◌, ◌∙◌, sym, subst}
use Rattle.bit_boards.specs.Kind.{same_kind}
use Rattle.bit_boards.specs.declared.piece.Kind.TheVariants.{King}
use Rattle.board_core.specs.Board.{Board, count_of, one_if}
use Rattle.problem_gen.specs.Generator.{IsUnderWay}
use Rattle.problem_gen.proofs.Alone.{no_fault, king_count, alone_under_way, alone_is}
use Rattle.problem_gen.proofs.problem.king_alone.Goals as goal

pub unreachable-requires : goal.unreachable-requires
unreachable-requires c =
    let built = rw (c.empty.ensures, c.empty-2.ensures, c.plain.ensures) at c.in-Err.ensures.built in
    no_fault 81 c.args.king.number c.args.king.on_board c.in-Err.field-0 built.0

pub returns-clause-position : goal.returns-clause-position
returns-clause-position c =
    let built = rw (c.empty.ensures, c.empty-2.ensures, c.plain.ensures) at c.in-Ok.ensures.built in
    built.0 ∙ alone_is c.args.king.number

pub returns-clause-under_way : goal.returns-clause-under_way
returns-clause-under_way c =
    let built = rw (c.empty.ensures, c.empty-2.ensures, c.plain.ensures) at c.in-Ok.ensures.built in
    subst (λ (b : Board). IsUnderWay c.args.king.number b) (sym built.0) (alone_under_way 81 c.args.king.number c.args.king.on_board)

pub returns-clause-counts : goal.returns-clause-counts
returns-clause-counts c =
    let built = rw (c.empty.ensures, c.empty-2.ensures, c.plain.ensures) at c.in-Ok.ensures.built in
    λ k. subst (λ (b : Board). count_of b k ≡ one_if (same_kind King k)) (sym built.0) (king_count 81 c.args.king.number k c.args.king.on_board)
