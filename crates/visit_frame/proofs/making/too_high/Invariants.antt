use Rattle.std.proofs.Common.{◌≡◌, take}
use Rattle.notes.specs.Derivation.{highest}
use Rattle.visit_log.specs.Children.{notes_in}
use Rattle.visit_frame.proofs.making.too_high.Given as goal

abbrev pub invariant-loop-child : goal.invariant-loop-child
invariant-loop-child l = l.greatest ≡ highest (notes_in (take l.child-index l.children))
