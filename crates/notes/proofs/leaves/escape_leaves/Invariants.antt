use Rattle.std.proofs.Common.{◌≡◌, map, take}
use Rattle.notes.specs.Derivation.{escape_leaf}
use Rattle.notes.specs.Sets.{unranked}
use Rattle.notes.proofs.leaves.escape_leaves.Given as goal

abbrev pub invariant-loop-position : goal.invariant-loop-position
invariant-loop-position l = l.leaves.items ≡ map (escape_leaf l.version l.attacker (unranked l.fn.positions.items)) (take l.position-index l.position-items)
