use Rattle.std.proofs.Common.{◌≡◌, ◌++◌, take}
use Rattle.std.specs.List.{flat_map}
use Rattle.usi_text.specs.Lines.{spaced_move}
use Rattle.cmd_cook.proofs.text.append_moves.Given as goal

-- the moves before this one are written
abbrev pub invariant-loop-by : goal.invariant-loop-by
invariant-loop-by l = l.out.items ≡ l.fn.out.items ++ flat_map spaced_move (take l.by-index l.moves)
