use Rattle.std.proofs.Common.{◌≡◌, ◌++◌, take}
use Rattle.cmd_cook.specs.Text.{stages_text}
use Rattle.cmd_cook.proofs.text.append_stages.Given as goal

-- what is told at the turns before this one is written
abbrev pub invariant-loop-turn : goal.invariant-loop-turn
invariant-loop-turn l = l.out.items ≡ l.fn.out.items ++ stages_text l.moves 0 (take l.turn l.stages)
