use Rattle.std.proofs.Common.{◌≡◌, ◌≢◌}
use Rattle.bit_boards.specs.declared.piece.Kind.{Kind}
use Rattle.bit_boards.specs.declared.piece.Kind.TheVariants.{King}
use Rattle.bit_boards.specs.declared.piece.Side.TheVariants.{Black, White}
use Rattle.board_core.specs.Board.{hand_count, is_of_kind, is_king_of}
use Rattle.board_core.proofs.Tallied.{counted}
use Rattle.board_core.proofs.tally.Tally.of.Given as goal

abbrev pub invariant-loop-number : goal.invariant-loop-number
invariant-loop-number l = ((k : Kind) → k ≢ King → hand_count l.tally.kinds k ≡ counted (is_of_kind k) l.cells l.number)
    × ((l.tally.black_kings ≡ counted (is_king_of Black) l.cells l.number) × (l.tally.white_kings ≡ counted (is_king_of White) l.cells l.number))
