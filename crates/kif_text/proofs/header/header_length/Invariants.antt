use Rattle.std.proofs.Common.{◌≡◌, ◌≤◌, length}
use Rattle.std.specs.List.{prefix_len}
use Rattle.std.specs.Str.Lines.{lines}
use Rattle.kif_text.specs.Lines.{goes_on}
use Rattle.kif_text.proofs.header.header_length.Given as goal

abbrev pub invariant-loop-line : goal.invariant-loop-line
invariant-loop-line l =
    (goal.iterator-loop-line).can_next l.line-iterator × (goal.iterator-loop-line).is_finite l.line-iterator
    × (l.number ≡ length l.yielded) × (length l.yielded ≤ prefix_len goes_on (lines l.fn.text))
