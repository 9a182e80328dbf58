use Rattle.std.proofs.lemmas.Nat.{or_lt}
use Rattle.bit_boards.specs.Mask.{holds}
use Rattle.bit_boards.proofs.Bits.{set_or}
use Rattle.bit_boards.proofs.mask.Mask.or.Goals as goal

pub invariant_of-result : goal.invariant_of-result
invariant_of-result c = record { on_board = or_lt 81 _ _ c.args.self.on_board c.args.other.on_board }

pub returns : goal.returns
unfolding holds
returns c s = set_or _ _ s
