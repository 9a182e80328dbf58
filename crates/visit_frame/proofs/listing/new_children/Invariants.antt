use Rattle.std.proofs.Common.{◌≡◌, take, map}
use Rattle.std.specs.Prelude.{All}
use Rattle.visit_log.specs.Children.{IsNewChild, move_to}
use Rattle.visit_frame.proofs.listing.new_children.Given as goal

abbrev pub invariant-loop-by : goal.invariant-loop-by
invariant-loop-by l = (map move_to l.children.items ≡ take l.by-index l.moves) × All (IsNewChild l.problem.position.side l.position l.path) l.children.items
