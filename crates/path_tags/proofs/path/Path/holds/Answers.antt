use Rattle.std.proofs.Common.{List, Contains, ap, sym, subst, ◌∙◌}
use Rattle.std.specs.Prelude.{is_some}
use Rattle.board_core.specs.declared.keys.Key.{Key}
use Rattle.path_tags.proofs.Places.{place_held, held_placed}
use Rattle.path_tags.proofs.path.Path.holds.Goals as goal

pub returns : goal.returns
returns c =
    let told = c.contains_key.ensures ∙ ap is_some (c.self.invariant.tells c.args.key.now) in (
      λ yes. subst (λ (path : List Key). Contains path c.args.key.now) c.self.view_is (held_placed c.self.inside.keys.items c.args.key.now (sym told ∙ yes)),
      λ there. told ∙ place_held c.self.inside.keys.items c.args.key.now (subst (λ (path : List Key). Contains path c.args.key.now) (sym c.self.view_is) there),
    )
