use Rattle.std.proofs.Common.{◌≡◌, ◌==◌, ◌∙◌, ap}
use Rattle.std.specs.Int.{trailing_zeros, w128}
use Rattle.bit_boards.specs.declared.mask.Mask.{Mask}
use Rattle.bit_boards.specs.Mask.{holds, Holds}
use Rattle.bit_boards.proofs.Bits.{set, set_zero, lowest, some_bit}
use Rattle.bit_boards.proofs.Sets.{on_board}
use Rattle.bit_boards.proofs.mask.Mask.first.Goals as goal

found : (mask : Mask) → (mask.bits ≡ 0 → ⊥) → Holds mask (trailing_zeros w128 mask.bits)
unfolding holds
found mask some = ap (λ x. x == 1) (lowest mask.bits (some_bit mask.bits some) mask.on_board).here

pub invariant_of-result : goal.invariant_of-result
invariant_of-result c = record { on_board = on_board c.args.self _ (found c.args.self c.if-self-eq0.false) }

pub returns-then-self-eq0-clause-none : goal.returns-then-self-eq0-clause-none
unfolding holds
returns-then-self-eq0-clause-none c s = ap (λ x. set x s) c.if-self-eq0.true ∙ set_zero s

pub returns-else-self-eq0-clause-found : goal.returns-else-self-eq0-clause-found
returns-else-self-eq0-clause-found c = found c.args.self c.if-self-eq0.false

pub returns-else-self-eq0-clause-least : goal.returns-else-self-eq0-clause-least
unfolding holds
returns-else-self-eq0-clause-least c s below =
    ap (λ x. x == 1) ((lowest c.args.self.bits (some_bit _ c.if-self-eq0.false) c.args.self.on_board).below s below)
