use Rattle.std.proofs.Common.{ℕ, List, length}
use Rattle.board_core.specs.Board.{Board}
use Rattle.cert_text.specs.Lines.{IsReadOf}
use Rattle.wide_read.specs.Stretches.{IsCutInto, IsUnderway}
use Rattle.wide_read.proofs.join.joined.Given as goal

abbrev pub invariant-loop-part : goal.invariant-loop-part
invariant-loop-part g l = (problem : Board) (text : List ℕ) → IsCutInto (IsReadOf (g.E.Entry.form problem)) l.fn.parts.items text → IsUnderway (g.E.Entry.form problem) l.whole l.left.items text

abbrev pub decreases-loop-part : goal.decreases-loop-part
decreases-loop-part g l = length l.left.items
