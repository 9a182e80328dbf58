use Rattle.std.proofs.Common.{◌<◌, ℕ}
use Rattle.bit_boards.specs.declared.piece.Side.{Side}
use Rattle.board_core.specs.Kept.{TwoPawnsOn}
use Rattle.board_core.proofs.build.first_file_of_two_pawns.Given as goal

abbrev pub invariant-loop-file : goal.invariant-loop-file
invariant-loop-file l = (f : ℕ) → f < l.file → (side : Side) → TwoPawnsOn l.cells side f → ⊥
