use Rattle.std.proofs.Common.{◌≡◌, take}
use Rattle.visit_log.specs.Children.{notes_in}
use Rattle.visit_frame.proofs.making.notes_of.Given as goal

abbrev pub invariant-loop-child : goal.invariant-loop-child
invariant-loop-child l = l.notes.items ≡ notes_in (take l.child-index l.children)
