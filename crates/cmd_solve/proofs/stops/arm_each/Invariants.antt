use Rattle.std.proofs.Common.{◌≡◌, map, take, drop}
use Rattle.search_gate.specs.Stop.{armed_with}
use Rattle.cmd_solve.proofs.stops.arm_each.Given as goal

abbrev pub invariant-loop-stop : goal.invariant-loop-stop
invariant-loop-stop g l =
    (map g.T.Stop.signal (take l.stop-index l.stops) ≡ map (λ stop. armed_with (g.T.Stop.signal stop) l.after_ms) (take l.stop-index l.fn.stops))
    × (drop l.stop-index l.stops ≡ drop l.stop-index l.fn.stops)
