use Rattle.std.proofs.Common.{◌≡◌, ◌∙◌, ap, subst, take, drop, length, ◌≤◌}
use Rattle.reading_ahead.proofs.Handed.{copied}
use Rattle.reading_ahead.proofs.queue.Queue.hand_on.Goals as goal

pub returns-clause-in_order : goal.returns-clause-in_order
returns-clause-in_order g c =
    let at = c.args.self.now.at in
    let count = c.handed_on-count.result in
    let from : c.behind-from.result.now ≡ drop at c.args.self.now.front.items = c.behind-from.ensures ∙ ap (λ l. drop at l) c.deref.ensures.value in
    copied c.args.self.now.front.items c.copy_from_slice.new.self _ at count
    (subst (λ l. count ≤ length l) from c.handed_on-count.ensures.there)
    (c.copy_from_slice.ensures.after ∙ ap (λ l. take count l) from)
