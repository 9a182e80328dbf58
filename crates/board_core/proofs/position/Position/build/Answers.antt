use Rattle.std.proofs.Common.{◌≤◌, ℕ, List, Option, arith, rules, ◌∙◌}
use Rattle.bit_boards.specs.declared.piece.Piece.{Piece}
use Rattle.bit_boards.specs.declared.piece.Side.{Side}
use Rattle.bit_boards.specs.declared.piece.Side.TheVariants.{Black, White}
use Rattle.board_core.specs.Board.{Board, kings_of}
use Rattle.board_core.proofs.EachKind.{each_side, place_below}
use Rattle.board_core.proofs.Faults.{clear_some, clear_totals, clear_defender, clear_to_kings, clear_dead, clear_pawns, clear_all, some_defender}
use Rattle.board_core.proofs.Tallied.{few_standing, many_standing, few_before}
use Rattle.board_core.proofs.position.Position.build.Goals as goal

abbrev board : List (Option Piece) → List ℕ → List ℕ → Side → Board
board cells black white side = record { cells = cells; black = black; white = white; side = side }

pub returns-in-Some-clause-built : goal.returns-in-Some-clause-built
returns-in-Some-clause-built c = let b = board c.args.cells.now c.args.black c.args.white c.args.side in (
  (c.in-Some.ensures.not_king, many_standing c.args.cells.now c.args.black c.args.white c.args.side _ c.of-standing.ensures.kinds c.in-Some.kind c.in-Some.ensures.not_king c.in-Some.ensures.some),
  clear_some b c.in-Some.kind c.in-Some.ensures.not_king (few_before c.args.cells.now c.args.black c.args.white c.args.side _ c.of-standing.ensures.kinds _
      (let low = place_below c.in-Some.kind c.in-Some.ensures.not_king in omega arith) c.in-Some.ensures.first),
)

pub returns-then-black_kings-gt1-clause-built : goal.returns-then-black_kings-gt1-clause-built
returns-then-black_kings-gt1-clause-built c = let b = board c.args.cells.now c.args.black c.args.white c.args.side in (
  (Black, omega (arith, c.of-standing.ensures.kings Black)),
  clear_defender b (clear_totals b (few_standing c.args.cells.now c.args.black c.args.white c.args.side _ c.of-standing.ensures.kinds (c.in_default.ensures.none (search rules))))
      (some_defender b _ _ c.other.ensures (c.by_side.ensures ∙ c.of-standing.ensures.kings _) c.if-by_side-eq0.false),
)

pub returns-then-white_kings-gt1-clause-built : goal.returns-then-white_kings-gt1-clause-built
returns-then-white_kings-gt1-clause-built c = let b = board c.args.cells.now c.args.black c.args.white c.args.side in (
  (White, omega (arith, c.of-standing.ensures.kings White)),
  clear_defender b (clear_totals b (few_standing c.args.cells.now c.args.black c.args.white c.args.side _ c.of-standing.ensures.kinds (c.in_default.ensures.none (search rules))))
      (some_defender b _ _ c.other.ensures (c.by_side.ensures ∙ c.of-standing.ensures.kings _) c.if-by_side-eq0.false),
)

pub returns-in-Some-first_dead-clause-built : goal.returns-in-Some-first_dead-clause-built
returns-in-Some-first_dead-clause-built c = let b = board c.args.cells.now c.args.black c.args.white c.args.side in (
  c.in-Some-first_dead.ensures.some,
  clear_dead b c.in-Some-first_dead.square.number (let low = c.in-Some-first_dead.square.on_board in omega arith)
      (clear_to_kings b (few_standing c.args.cells.now c.args.black c.args.white c.args.side _ c.of-standing.ensures.kinds (c.in_default.ensures.none (search rules)))
      (some_defender b _ _ c.other.ensures (c.by_side.ensures ∙ c.of-standing.ensures.kings _) c.if-by_side-eq0.false)
      (omega (arith, c.of-standing.ensures.kings Black)) (omega (arith, c.of-standing.ensures.kings White)))
      c.in-Some-first_dead.ensures.first,
)

pub returns-in-Some-first_file_of_two_pawns-clause-built : goal.returns-in-Some-first_file_of_two_pawns-clause-built
returns-in-Some-first_file_of_two_pawns-clause-built c = let b = board c.args.cells.now c.args.black c.args.white c.args.side in (
  c.in-Some-first_file_of_two_pawns.ensures.some,
  clear_pawns b c.in-Some-first_file_of_two_pawns.file
      (clear_dead b 81 (omega arith)
      (clear_to_kings b (few_standing c.args.cells.now c.args.black c.args.white c.args.side _ c.of-standing.ensures.kinds (c.in_default.ensures.none (search rules)))
      (some_defender b _ _ c.other.ensures (c.by_side.ensures ∙ c.of-standing.ensures.kings _) c.if-by_side-eq0.false)
      (omega (arith, c.of-standing.ensures.kings Black)) (omega (arith, c.of-standing.ensures.kings White)))
      (c.in_default-first_dead.ensures.none (search rules)))
      c.in-Some-first_file_of_two_pawns.ensures.first,
)

pub kept-requires : goal.kept-requires
kept-requires c = record {
  cells = c.told-cells;
  black = c.laws.ensures;
  white = c.laws-2.ensures;
  totals = few_standing c.args.cells.now c.args.black c.args.white c.args.side _ c.of-standing.ensures.kinds (c.in_default.ensures.none (search rules));
  kings = each_side (λ s. kings_of (board c.args.cells.now c.args.black c.args.white c.args.side) s ≤ 1)
      (omega (arith, c.of-standing.ensures.kings Black)) (omega (arith, c.of-standing.ensures.kings White));
  alive = c.in_default-first_dead.ensures.none (search rules);
  pawns = λ side file. c.in_default-first_file_of_two_pawns.ensures.none (search rules) file side;
}

pub returns-clause-built : goal.returns-clause-built
returns-clause-built c = let b = board c.args.cells.now c.args.black c.args.white c.args.side in (
  c.kept.ensures,
  clear_all b (λ n. clear_pawns b n
      (clear_dead b 81 (omega arith)
      (clear_to_kings b (few_standing c.args.cells.now c.args.black c.args.white c.args.side _ c.of-standing.ensures.kinds (c.in_default.ensures.none (search rules)))
      (some_defender b _ _ c.other.ensures (c.by_side.ensures ∙ c.of-standing.ensures.kings _) c.if-by_side-eq0.false)
      (omega (arith, c.of-standing.ensures.kings Black)) (omega (arith, c.of-standing.ensures.kings White)))
      (c.in_default-first_dead.ensures.none (search rules)))
      (λ file below side. c.in_default-first_file_of_two_pawns.ensures.none (search rules) file side)),
)
