use Rattle.std.proofs.Common.{sym, arith}
use Rattle.std.specs.Str.{chars}
use Rattle.kif_text.proofs.Hands.{word_read}
use Rattle.kif_text.proofs.hand.take_item.Goals as goal

pub returns : goal.returns
returns c = λ before is.
    word_read c.args.line before (chars c.args.item.now) c.in-Some.first (chars c.in-Some.rest.now) c.args.hand _ c.in-Some-kind_of.kind c.in-Some-count_of.count c.in-Some.ensures.split c.with_count.ensures is
    c.in-Some-kind_of.ensures.in_hand (sym c.in-Some-kind_of.ensures.kind) (sym c.in-Some-count_of.ensures.count) (let h = c.count.ensures in omega (arith, c.if-count-gt0.false))
