use Rattle.std.proofs.Common.{List, Contains, subst}
use Rattle.bound_text.specs.declared.entry.BoundEntry.{BoundEntry}
use Rattle.shortest_lists.proofs.bound.bound_of.Goals as goal

pub returns-clause-reached : goal.returns-clause-reached
returns-clause-reached c entry there =
    c.in_ok-entries.ensures.reached entry
    (subst (λ (es : List BoundEntry). Contains es entry) c.deref.ensures.value ((c.in_ok-bound_of_entries.ensures.same entry).0 there))
