use Rattle.std.proofs.Common.{◌≡◌, ◌++◌, take}
use Rattle.usi_text.specs.Lines.{mate_text}
use Rattle.usi_text.proofs.lines.append_mate_line.Given as goal

abbrev pub invariant-loop-m : goal.invariant-loop-m
invariant-loop-m l = l.out.items ≡ l.fn.out.items ++ mate_text (take l.m-index l.moves)
