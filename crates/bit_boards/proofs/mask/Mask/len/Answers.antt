use Rattle.std.proofs.Common.{◌≤◌, sym, subst}
use Rattle.bit_boards.proofs.Sets.{count-ones, count-le}
use Rattle.bit_boards.proofs.mask.Mask.len.Goals as goal

pub returns : goal.returns
returns c = record {
  count = count-ones c.args.self;
  to = subst (λ n. n ≤ 81) (sym (count-ones c.args.self)) (count-le c.args.self);
}
