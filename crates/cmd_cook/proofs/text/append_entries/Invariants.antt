use Rattle.std.proofs.Common.{◌≡◌, ◌++◌, take}
use Rattle.cert_text.specs.Text.{entries_text}
use Rattle.cmd_cook.proofs.text.append_entries.Given as goal

-- the entries before this one are written
abbrev pub invariant-loop-entry : goal.invariant-loop-entry
invariant-loop-entry g l = l.out.items ≡ l.fn.out.items ++ entries_text (g.E.Entry.form l.listed.problem) (take l.entry-index l.entries)
