use Rattle.std.proofs.Common.{◌≡◌, ◌++◌, take}
use Rattle.std.specs.List.{flat_map}
use Rattle.usi_text.specs.Lines.{spaced_move}
use Rattle.cmd_collection.proofs.report_text.append_moves.Given as goal

abbrev pub invariant-loop-m : goal.invariant-loop-m
invariant-loop-m l = l.out.items ≡ l.fn.out.items ++ flat_map spaced_move (take l.m-index l.moves)
