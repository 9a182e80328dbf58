use Rattle.std.proofs.Common.{◌≡◌, ℕ, Option, Some, None, inl, refl, sym, ap, ◌∙◌}
use Rattle.std.specs.Prelude.{IfSome}
use Rattle.visit_log.specs.declared.parts.Stage.TheVariants.{Looking}
use Rattle.visit_log.specs.Frame.{Task, FrameView}
use Rattle.visit_log.specs.Children.{child_is_due, first_due}
use Rattle.visit_log.specs.Machine.{Settles}
use Rattle.visit_frame.proofs.Places.{position_there}
use Rattle.visit_frame.proofs.frame.Frame.due.Goals as goal

-- where a child is due, it is looked at next
looks_next : (f : FrameView) (due : Option ℕ) → due ≡ first_due f.children → IfSome due (λ place. (task : Task) → Settles task f (Looking place) f)
looks_next f None is = tt
looks_next f (Some place) is = λ task.
    let at = position_there child_is_due f.children place (sym is) in
    ((at.0, record { there = at.1; next = inl (sym is) }), refl)

pub returns-clause-next : goal.returns-clause-next
returns-clause-next c =
    let f = c.args.self.now in
    let kids : c.deref.result.now ≡ f.children = c.deref.ensures.value ∙ ap (λ (v : FrameView). v.children) c.self.view_is in
    looks_next f c.first_due.result (c.first_due.ensures ∙ ap first_due kids)
