use Rattle.std.proofs.Common.{◌≡◌, take, map}
use Rattle.visit_log.specs.Children.{counted, numbers_in}
use Rattle.visit_frame.specs.Hiding.{AreOpenDrops}
use Rattle.visit_frame.proofs.reckoning.count.Given as goal

abbrev pub invariant-loop-i : goal.invariant-loop-i
invariant-loop-i l = record {
  hiding : AreOpenDrops l.drops (take l.i l.children);
  counting : take l.i l.room ≡ counted l.node (take l.i l.children);
  numbering : take l.i l.numbers ≡ map numbers_in (counted l.node (take l.i l.children));
}
