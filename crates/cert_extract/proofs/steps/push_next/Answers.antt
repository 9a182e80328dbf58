use Rattle.std.proofs.Common.{sym, ap, ◌∙◌}
use Rattle.std.proofs.lemmas.List.{append-nil}
use Rattle.std.proofs.lemmas.Iterator.Adapters.{YieldsList-from_rev_slice}
use Rattle.std.proofs.lemmas.Iterator.Consumers.{YieldsList-end}
use Rattle.notes.specs.Derivation.{source_of, under_of}
use Rattle.cert_extract.proofs.Pushed.{one_pushed, all_pushed, next_pushed}
use Rattle.cert_extract.proofs.steps.push_next.Goals as goal

pub loop-between-init : goal.loop-between-init
loop-between-init c = sym (append-nil _)

pub loop-next-init : goal.loop-next-init
loop-next-init c = sym (append-nil _)

pub loop-next-preserved : goal.loop-next-preserved
loop-next-preserved c =
    one_pushed (λ n. n.now) c.push.new.self.items c.loop-next.pending.items c.loop-next.yielded _ c.in-Some-next.next c.source-in-loop-next.result
    c.in_ok-push.ensures.items c.source-in-loop-next.ensures.source c.loop-next.invariant

pub loop-between-preserved : goal.loop-between-preserved
loop-between-preserved c =
    let rest = ap (λ s. s.iter.rest.now) c.into_iter-next-iterator.ensures.into_iter_gives
    ∙ (ap (λ i. i.rest.now) c.rev-next-items.ensures.source ∙ (c.iter-in-loop-between.ensures.rest ∙ (c.under-in-loop-between.ensures ∙ ap under_of c.source.ensures.source))) in
    let t = YieldsList-end (YieldsList-from_rev_slice (under_of (source_of c.in-Some.between.now)) rest) c.loop-next.yielded _ c.loop-next.yielded_by _ _ c.in-None-next.is c.next-in-loop-next.ensures.steps in
    all_pushed (λ n. n.now) c.loop-next.pending.items c.loop-between.pending.items c.loop-next.yielded c.loop-between.yielded _ c.in-Some.between
    c.loop-next.invariant t.0 c.loop-between.invariant

pub returns : goal.returns
returns c =
    let rest = ap (λ s. s.iter.rest.now) c.into_iter-between-iterator.ensures.into_iter_gives
    ∙ (ap (λ i. i.rest.now) c.rev-between-items.ensures.source ∙ (c.iter.ensures.rest ∙ c.under.ensures)) in
    let t = YieldsList-end (YieldsList-from_rev_slice (under_of c.args.note.now) rest) c.loop-between.yielded _ c.loop-between.yielded_by _ _ c.in-None.is c.next.ensures.steps in
    next_pushed (λ n. n.now) c.loop-between.pending.items c.loop-between.yielded _ c.args.note.now c.loop-between.invariant t.0
