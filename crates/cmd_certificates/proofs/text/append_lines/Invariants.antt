-- What is told of the lines so far stands behind what stood there.
use Rattle.std.proofs.Common.{◌≡◌, ◌++◌, map, take}
use Rattle.std.specs.List.{flat_map}
use Rattle.cmd_certificates.specs.Judged.{seen}
use Rattle.cmd_certificates.specs.Text.{line_text}
use Rattle.cmd_certificates.proofs.text.append_lines.Given as goal

abbrev pub invariant-loop-judged : goal.invariant-loop-judged
invariant-loop-judged l = l.out.items ≡ l.fn.out.items ++ flat_map line_text (map seen (take l.judged-index l.lines))
