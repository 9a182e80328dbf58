use Rattle.wide_read.proofs.Joining.{none_read}
use Rattle.wide_read.proofs.Cuts.{not_begun, one_more}
use Rattle.wide_read.proofs.join.joined.Goals as goal

pub loop-part-init : goal.loop-part-init
loop-part-init g c = λ problem text cut.
    let form = g.E.Entry.form problem in
    not_begun form _ c.from_vec-left.result.items c.args.parts.items text (none_read form c.sfen_laws.ensures.bytes c.in_ok-with_capacity.field-0.items c.in_ok-with_capacity.ensures.items) c.from_vec-left.ensures.items cut

pub loop-part-preserved : goal.loop-part-preserved
loop-part-preserved g c = λ problem text cut.
    one_more (g.E.Entry.form problem) c.loop-part.whole c.in_ok-whole.whole c.in-Some.part c.loop-part.left.items c.pop_front.new.self.items text (c.loop-part.invariant problem text cut) c.in-Some.ensures.items
    (λ before lines read are part some. c.in_ok-whole.ensures problem before lines read are part some)
