use Rattle.std.proofs.Common.{◌≡◌, ◌++◌, take}
use Rattle.std.specs.List.{flat_map}
use Rattle.cmd_cook.specs.Text.{line_text}
use Rattle.cmd_cook.proofs.text.append_lines.Given as goal

-- the lines before this one are written
abbrev pub invariant-loop-told : goal.invariant-loop-told
invariant-loop-told l = l.out.items ≡ l.fn.out.items ++ flat_map line_text (take l.told-index l.lines)
