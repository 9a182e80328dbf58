-- What is true of every position that is kept.
use Rattle.std.proofs.Common.{sym, ◌∙◌, arith}
use Rattle.std.proofs.lemmas.Bool.{false≢true}
use Rattle.board_core.specs.declared.build.BadPosition.{BadPosition as Bad}
use Rattle.board_core.specs.declared.build.BadPosition.TheVariants as bad
use Rattle.board_core.specs.Board.{Board, HasDefender}
use Rattle.board_core.specs.Kept.{IsKept}
use Rattle.board_core.specs.Build.{HasFault}
-- what keeps it: taking a piece off the board, putting one there, and what a hand's change counts
pub use Rattle.board_core.proofs.Keeps.{MayStand, take_kept, put_kept}
pub use Rattle.board_core.proofs.Cells.{changes_cell}
pub use Rattle.board_core.proofs.Hands.{count_of-more, count_of-less, no_king_held}

-- it has no fault, where the side that isn't to move has a king.
pub no_fault : (b : Board) (fault : Bad) → IsKept b → HasDefender b → HasFault b fault → ⊥
no_fault b (bad.TooMany k) kept king h = omega (arith, h.1, kept.totals k h.0)
no_fault b bad.NoDefenderKing kept king h = omega (arith, h, king)
no_fault b bad.TwoKings kept king h = omega (arith, h.1, kept.kings h.0)
no_fault b (bad.DeadPiece square) kept king h = false≢true (sym (kept.alive square.number square.on_board) ∙ h)
no_fault b (bad.TwoPawns file) kept king h = kept.pawns h.0 file h.1
