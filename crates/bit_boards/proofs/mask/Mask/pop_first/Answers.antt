use Rattle.std.proofs.Common.{◌≡◌, ◌==◌, ◌≤◌, ◌<◌, ◌-◌, ◌&&◌, not, ℕ, false, ◌∙◌, ap, refl}
use Rattle.std.specs.Prelude.{bit_and}
use Rattle.bit_boards.specs.declared.mask.Mask.{Mask}
use Rattle.bit_boards.specs.Mask.{holds, Holds}
use Rattle.bit_boards.proofs.Bits.{set, cleared, lowest_from, some_from_set}
use Rattle.bit_boards.proofs.Sets.{count-less}
use Rattle.bit_boards.proofs.mask.Mask.pop_first.Goals as goal

some : (mask : Mask) (t : ℕ) → Holds mask t → 1 ≤ mask.bits
unfolding holds
some mask t has = some_from_set mask.bits t has

rest : (old new : Mask) (t : ℕ) → new.bits ≡ bit_and old.bits (old.bits - 1) → Holds old t
    → ((s : ℕ) → s < t → holds old s ≡ false) → (s : ℕ) → holds new s ≡ (holds old s && not (s == t))
unfolding holds
rest old new t is has least s = ap (λ x. set x s) is ∙ cleared old.bits t s (lowest_from old.bits t has least)

pub overflow_sub-self : goal.overflow_sub-self
overflow_sub-self c = some c.args.self.now c.in_ok-square.square.number c.in_ok-square.ensures.found

pub returns-clause-rest : goal.returns-clause-rest
returns-clause-rest c s = rest c.args.self.now _ c.in_ok-square.square.number refl c.in_ok-square.ensures.found c.in_ok-square.ensures.least s

pub returns-clause-counted : goal.returns-clause-counted
returns-clause-counted c = count-less c.args.self.now _ c.in_ok-square.square.number c.in_ok-square.square.on_board c.in_ok-square.ensures.found
    (rest c.args.self.now _ c.in_ok-square.square.number refl c.in_ok-square.ensures.found c.in_ok-square.ensures.least)
