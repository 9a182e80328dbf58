use Rattle.std.proofs.Common.{◌==◌, ◌∙◌, ap, eq-eqb}
use Rattle.std.specs.Int.{trailing_zeros, w128}
use Rattle.std.proofs.lemmas.Bool.{eqb-true, eqb-false}
use Rattle.bit_boards.specs.Mask.{holds}
use Rattle.bit_boards.proofs.Bits.{set, set_zero, none_set, some_bit, lowest}
use Rattle.bit_boards.proofs.mask.Mask.is_empty.Goals as goal

pub returns : goal.returns
unfolding holds
returns c =
    let bits = c.args.self.bits in
    record {
      none = (
        (λ e s. ap (λ x. set x s) (eqb-true bits 0 e) ∙ set_zero s),
        (λ h. eq-eqb bits 0 (none_set bits c.args.self.on_board h)),
      );
      some = λ e. (
        trailing_zeros w128 bits,
        ap (λ x. x == 1) ((lowest bits (some_bit bits (eqb-false bits 0 e)) c.args.self.on_board).here),
      );
    }
