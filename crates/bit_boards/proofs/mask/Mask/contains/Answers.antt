use Rattle.std.proofs.Common.{◌==◌, ap}
use Rattle.std.proofs.lemmas.Nat.Bits.{shr_and_one}
use Rattle.bit_boards.specs.Mask.{holds}
use Rattle.bit_boards.proofs.mask.Mask.contains.Goals as goal

pub returns : goal.returns
unfolding holds
returns c = ap (λ x. x == 1) (shr_and_one c.args.self.bits c.args.square.number)
