use Rattle.std.proofs.Common.{◌≡◌, ◌<◌, ◌/◌, ℕ, true, false}
use Rattle.bit_boards.specs.Mask.{holds, Holds, count}
use Rattle.board_core.specs.Board.{piece_at, is_pawn_of}
use Rattle.shogi_rules.specs.Rules.{HasPawnOnFile}
use Rattle.legal_moves.proofs.drops.pawn_files.Given as goal

abbrev pub invariant-loop-pawn : goal.invariant-loop-pawn
invariant-loop-pawn l =
    ((from : ℕ) → Holds l.left from → is_pawn_of l.fn.side (piece_at l.position.cells from) ≡ true)
    × ((s : ℕ) → Holds l.files s → (s < 81) × HasPawnOnFile l.position.cells l.fn.side s)
    × ((s from : ℕ) → s < 81 → is_pawn_of l.fn.side (piece_at l.position.cells from) ≡ true → holds l.left from ≡ false → from / 9 ≡ s / 9 → Holds l.files s)

abbrev pub decreases-loop-pawn : goal.decreases-loop-pawn
decreases-loop-pawn l = count l.left
