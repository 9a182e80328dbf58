use Rattle.std.proofs.Common.{◌≡◌, take, drop, map}
use Rattle.visit_log.specs.Machine.{bare}
use Rattle.worker_core.proofs.tops.bare_all.Given as goal

abbrev pub invariant-loop-frame : goal.invariant-loop-frame
invariant-loop-frame l = record {
  bared : take l.frame-index l.frames ≡ map bare (take l.frame-index l.initial.frames);
  others : drop l.frame-index l.frames ≡ drop l.frame-index l.initial.frames;
}
