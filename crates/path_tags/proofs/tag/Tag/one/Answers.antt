use Rattle.std.proofs.Common.{◌++◌, [], ◌∷◌, List, ap, sym, subst, ◌∙◌}
use Rattle.board_core.specs.declared.keys.Key.{Key}
use Rattle.path_tags.specs.Tag.{IsRising}
use Rattle.path_tags.proofs.Rising.{rises_none, rises_more}
use Rattle.path_tags.proofs.tag.Tag.one.Goals as goal

pub invariant_of-result : goal.invariant_of-result
invariant_of-result c =
    subst IsRising (sym (c.in_ok-push.ensures.items ∙ ap (λ (ks : List Key). ks ++ c.args.key ∷ []) c.new-keys.ensures.items)) (rises_more c.args.key [] tt rises_none)
