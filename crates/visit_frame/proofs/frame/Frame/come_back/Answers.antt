use Rattle.std.proofs.Common.{◌≡◌, ◌<◌, List, Some, length, map, sym, ap, subst, ◌∙◌}
use Rattle.std.specs.Prelude.{slice_get, slice_set}
use Rattle.visit_log.specs.declared.parts.Child.{Child}
use Rattle.visit_log.specs.Frame.{FrameView}
use Rattle.std.proofs.lemmas.List.{with_items_is}
use Rattle.visit_log.specs.Round.{staled, visited, came_back}
use Rattle.visit_frame.proofs.Places.{within, there}
use Rattle.visit_frame.proofs.frame.Frame.come_back.Goals as goal

pub next_round-requires : goal.next_round-requires
next_round-requires c =
    subst (λ (l : List Child). c.self.inside.chosen < length l) (sym c.deref_mut.ensures.value)
    (subst (λ (v : FrameView). v.chosen < length v.children) (sym c.self.view_is) (within c.args.self.now.children c.args.self.now.chosen c.requires))

pub returns : goal.returns
returns c =
    let f = c.args.self.now in
    let inside = c.self.inside in
    let at = there f.children f.chosen c.requires in
    let value = c.deref_mut.ensures.value in
    let here : slice_get c.deref_mut.result.now inside.chosen ≡ Some at.0 =
    ap (λ (l : List Child). slice_get l inside.chosen) value ∙ (ap (λ (v : FrameView). slice_get v.children v.chosen) c.self.view_is ∙ at.1) in
    let with : List Child → FrameView = λ l. record {
      place = record { position = inside.position; key = inside.key; limits = inside.limits; numbers = inside.numbers };
      kept = inside.kept;
      children = l;
      chosen = inside.chosen;
    } in (
      at.0,
      at.1,
      ap with (with_items_is inside.children c.next_round.new.children (c.next_round.auto.children ∙ c.deref_mut.ensures.len)
          ∙ (c.next_round.ensures at.0 here ∙ ap (λ (l : List Child). slice_set (map staled l) inside.chosen (visited at.0 c.args.left)) value))
          ∙ ap (λ (v : FrameView). came_back v v.chosen at.0 c.args.left) c.self.view_is,
    )
