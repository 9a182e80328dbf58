use Rattle.std.proofs.Common.{◌==◌, ap, ◌∙◌}
use Rattle.std.specs.Int.{bit_at}
use Rattle.std.proofs.lemmas.Nat.Bits.{shr_and_one}
use Rattle.bit_boards.proofs.Going.{bits_for, goes_as_told}
use Rattle.bit_boards.proofs.movement.fits.Goals as goal

pub returns : goal.returns
returns c =
    let p = c.args.piece in
    let bits = bits_for c.args.from.number c.args.to.number in
    ap (λ x. x == 1) (shr_and_one bits c.place.result)
    ∙ (ap (λ n. bit_at bits n == 1) c.place.ensures.place
    ∙ goes_as_told p.side p.kind p.promoted c.args.from.number c.args.to.number c.args.from.on_board c.args.to.on_board)
