use Rattle.std.proofs.Common.{◌≡◌, Some, inl, refl, sym, ap, ◌∙◌}
use Rattle.visit_log.specs.Frame.{FrameView}
use Rattle.visit_log.specs.Children.{child_is_due, first_due}
use Rattle.visit_frame.proofs.Places.{position_there}
use Rattle.visit_frame.proofs.frame.Frame.settle.Goals as goal

pub returns-in-Some : goal.returns-in-Some
returns-in-Some c =
    let f = c.args.self.now in
    let kids : c.deref.result.now ≡ f.children = c.deref.ensures.value ∙ ap (λ (v : FrameView). v.children) c.self.view_is in
    let due : first_due f.children ≡ Some c.in-Some.place = ap first_due (sym kids) ∙ (sym c.first_due.ensures ∙ c.in-Some.is) in
    let at = position_there child_is_due f.children c.in-Some.place due in
    ((at.0, record { there = at.1; next = inl due }), refl)

pub settle_round-requires-clause-listed : goal.settle_round-requires-clause-listed
settle_round-requires-clause-listed c = c.requires.listed

pub settle_round-requires-clause-none_due : goal.settle_round-requires-clause-none_due
settle_round-requires-clause-none_due c =
    let kids : c.deref.result.now ≡ c.args.self.now.children = c.deref.ensures.value ∙ ap (λ (v : FrameView). v.children) c.self.view_is in
    ap first_due (sym kids) ∙ (sym c.first_due.ensures ∙ c.in-None.is)

pub returns-in-None : goal.returns-in-None
returns-in-None c = c.settle_round.ensures
