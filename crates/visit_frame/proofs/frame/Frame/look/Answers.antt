use Rattle.std.proofs.Common.{◌≡◌, ℕ, List, sym, ap, subst, ◌∙◌}
use Rattle.std.specs.Prelude.{slice_get, slice_set}
use Rattle.visit_log.specs.declared.parts.Child.{Child}
use Rattle.visit_log.specs.Frame.{FrameView, task_for}
use Rattle.std.proofs.lemmas.List.{with_items_is}
use Rattle.notes.specs.declared.words.Seen.{Seen}
use Rattle.visit_log.specs.Frame.{with_children}
use Rattle.visit_log.specs.Round.{Tells, told}
use Rattle.visit_frame.specs.Telling.{MayTell}
use Rattle.visit_frame.proofs.Settling.{may_tell}
use Rattle.visit_frame.proofs.frame.Frame.look.Goals as goal

pub tell-requires-clause-known : goal.tell-requires-clause-known
tell-requires-clause-known c =
    let side = c.args.problem.now.position.side in
    let listed = c.requires.listed in
    subst (λ (l : List Child). MayTell side c.self.inside.position l c.args.place c.args.seen) (sym c.deref_mut.ensures.value)
    (subst (λ (v : FrameView). MayTell side v.place.position v.children c.args.place c.args.seen) (sym c.self.view_is)
    (may_tell (task_for c.args.problem.now.position c.args.worker) listed.0 c.args.self.now c.args.place c.args.seen listed.1 listed.2 c.requires.there))

pub returns-clause-looked : goal.returns-clause-looked
returns-clause-looked c =
    let side = c.args.problem.now.position.side in
    let f = c.args.self.now in
    let place = c.args.place in
    let seen = c.args.seen in
    let inside = c.self.inside in
    let told_so = c.in_ok-tell.ensures.told in
    let sight = told_so.0 in
    let value = c.deref_mut.ensures.value in
    let kids : c.deref_mut.result.now ≡ f.children = value ∙ ap (λ (v : FrameView). v.children) c.self.view_is in
    let with : List Child → FrameView = λ l. record {
      place = record { position = inside.position; key = inside.key; limits = inside.limits; numbers = inside.numbers };
      kept = inside.kept;
      children = l;
      chosen = inside.chosen;
    } in
    let after_look : FrameView → ℕ → Seen → FrameView = λ v p s. with_children v (slice_set v.children p (told side v.place.position sight.child s sight.start)) in (
      sight,
      told_so.1,
      told_so.2,
      ap (λ (l : List Child). slice_get l place) (sym kids) ∙ told_so.3,
      subst (λ (v : FrameView). Tells c.args.problem.now.position.side v.place.position sight.child.by seen sight.start) c.self.view_is told_so.4,
      ap with (with_items_is inside.children c.tell.new.children (c.tell.auto.children ∙ c.deref_mut.ensures.len)
          ∙ (told_so.5 ∙ ap (λ (l : List Child). slice_set l place (told side inside.position sight.child seen sight.start)) value))
          ∙ (ap (λ (v : FrameView). after_look v place seen) c.self.view_is
          ∙ (ap (λ (p : ℕ). after_look f p seen) (sym told_so.1) ∙ ap (λ (s : Seen). after_look f sight.place s) (sym told_so.2))),
    )
