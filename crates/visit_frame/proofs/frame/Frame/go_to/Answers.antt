use Rattle.std.proofs.Common.{◌≡◌, Some, true, false, refl, sym, ap, ◌∙◌}
use Rattle.std.specs.Prelude.{slice_get}
use Rattle.visit_log.specs.declared.parts.Child.{Child}
use Rattle.visit_log.specs.Frame.{FrameView}
use Rattle.std.proofs.lemmas.Option.{get_or_from_slice_get}
use Rattle.pn_numbers.specs.declared.node.Node.{Node}
use Rattle.pn_numbers.specs.declared.numbers.Numbers.{Numbers}
use Rattle.pn_numbers.specs.Thresholds.{thresholds_of}
use Rattle.visit_log.specs.declared.parts.Entry.{Entry}
use Rattle.visit_log.specs.Frame.{choose}
use Rattle.visit_log.specs.Children.{is_fresh}
use Rattle.visit_log.specs.Round.{node_in}
use Rattle.visit_frame.proofs.Places.{there}
use Rattle.visit_frame.proofs.Settling.{goes_down, looks_next}
use Rattle.visit_frame.proofs.frame.Frame.go_to.Goals as goal

pub returns-then-is_fresh : goal.returns-then-is_fresh
returns-then-is_fresh c = λ task node own selects listed.
    let f = c.args.self.now in
    let place = c.args.place in
    let one = c.index-child.result.now in
    let at = there f.children place c.requires in
    let is : one ≡ at.0 = c.index-child.ensures ∙ get_or_from_slice_get c.self.inside.children.items place at.0 one
    (ap (λ (v : FrameView). slice_get v.children place) c.self.view_is ∙ at.1) in
    let fresh : is_fresh at.0.look ≡ true = ap (λ (z : Child). is_fresh z.look) (sym is) ∙ (sym c.is_fresh.ensures ∙ c.if-is_fresh.true) in
    let entry : Child → Numbers → Node → Numbers → Entry =
    λ z limits n o. record { by = Some z.by; key = z.key; limits = thresholds_of n limits o z.numbers c.args.second; numbers = z.numbers } in (
      record { place = place; child = at.0; second = c.args.second },
      goes_down task listed.0 f place c.args.second at.0 listed.1 at.1 selects fresh,
      c.entry_to-entry.ensures
          ∙ (ap (λ (z : Child). entry z c.self.inside.limits c.args.node c.args.own) is
          ∙ (ap (λ (v : FrameView). entry at.0 v.place.limits c.args.node c.args.own) c.self.view_is
          ∙ (ap (λ (n : Node). entry at.0 f.place.limits n c.args.own) node ∙ ap (λ (o : Numbers). entry at.0 f.place.limits (node_in task f) o) own))),
      ap (λ (v : FrameView). choose v place) c.self.view_is,
    )

pub returns : goal.returns
returns c = λ task node own selects listed.
    let f = c.args.self.now in
    let place = c.args.place in
    let one = c.index-child.result.now in
    let at = there f.children place c.requires in
    let is : one ≡ at.0 = c.index-child.ensures ∙ get_or_from_slice_get c.self.inside.children.items place at.0 one
    (ap (λ (v : FrameView). slice_get v.children place) c.self.view_is ∙ at.1) in
    let fails : is_fresh at.0.look ≡ false = ap (λ (z : Child). is_fresh z.look) (sym is) ∙ (sym c.is_fresh.ensures ∙ c.if-is_fresh.false) in
    ((at.0, looks_next task f place c.args.second at.0 at.1 selects fails), refl)
