use Rattle.std.proofs.Common.{◌≡◌, ◌==◌, ◌+◌, ◌-◌, ◌/◌, ◌&&◌, nat_lt, ◌∙◌, ap, arith}
use Rattle.bit_boards.specs.Mask.{holds}
use Rattle.bit_boards.proofs.Bits.{set}
use Rattle.bit_boards.proofs.Masked.{bits_where-at, file_bits}
use Rattle.bit_boards.proofs.mask.Mask.file.Goals as goal

pub returns : goal.returns
unfolding holds
returns c s =
    let back : c.args.file - 1 + 1 ≡ c.args.file = omega arith in
    ap (λ x. set x s) (file_bits (c.args.file - 1) (omega arith)) ∙ (bits_where-at (λ t. t / 9 + 1 == c.args.file - 1 + 1) s ∙ ap (λ x. nat_lt s 81 && (s / 9 + 1 == x)) back)
