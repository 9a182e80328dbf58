use Rattle.std.proofs.Common.{◌≡◌, None, All, vec_len}
use Rattle.side_by_side.proofs.team.open.Given as goal

abbrev pub invariant-loop : goal.invariant-loop
invariant-loop g l = (vec_len l.slots ≡ l.counter) × All (λ slot. slot ≡ None) l.slots.items
