use Rattle.std.proofs.Common.{◌≡◌, ◌+◌, drop, length}
use Rattle.std.specs.Str.Lines.{lines}
use Rattle.shogi_rules.specs.Rules.{IsQuiet}
use Rattle.kif_moves.specs.Lines.{counted, numbered}
use Rattle.kif_moves.specs.Steps.{last_number}
use Rattle.kif_moves.proofs.Following.{LeadsOn}
use Rattle.kif_moves.proofs.played.played.Given as goal

abbrev pub invariant-loop-line : goal.invariant-loop-line
invariant-loop-line l =
    (goal.iterator-loop-line).can_next l.line-iterator × (goal.iterator-loop-line).is_finite l.line-iterator
    × (l.number ≡ l.fn.head + length l.yielded) × IsQuiet l.position
    × LeadsOn l.fn.problem.position (counted (numbered (l.fn.head + 1) (drop l.fn.head (lines l.fn.text)))) l.position (last_number l.last)
    (counted (numbered (l.number + 1) (drop (length l.yielded) (drop l.fn.head (lines l.fn.text))))) l.moves.items
