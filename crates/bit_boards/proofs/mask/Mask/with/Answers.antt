use Rattle.std.proofs.Common.{◌||◌, ◌∙◌, ap}
use Rattle.std.proofs.lemmas.Nat.{or_lt}
use Rattle.bit_boards.specs.Mask.{holds}
use Rattle.bit_boards.proofs.Bits.{set, set_or, set_one, one_small}
use Rattle.bit_boards.proofs.mask.Mask.with.Goals as goal

pub invariant_of-result : goal.invariant_of-result
invariant_of-result c = record { on_board = or_lt 81 _ _ c.args.self.on_board (one_small _ c.args.square.on_board) }

pub returns : goal.returns
unfolding holds
returns c s = set_or _ _ s ∙ ap (λ x. set c.args.self.bits s || x) (set_one _ s c.args.square.on_board)
