use Rattle.std.proofs.Common.{◌≡◌, ◌++◌, [], ◌∷◌, ℕ, List, ap, sym, subst, ◌∙◌, length, arith}
use Rattle.std.specs.Option.{unwrap_or}
use Rattle.std.specs.BTreeMap.{BTreeMap, get}
use Rattle.std.specs.BTreeMap.Entry.{map_with_value}
use Rattle.board_core.specs.declared.keys.Key.{Key}
use Rattle.board_core.specs.KeyOrder.{key_cmp}
use Rattle.path_tags.specs.Path.{IsIndex}
use Rattle.path_tags.proofs.Places.{pushed_index}
use Rattle.path_tags.proofs.path.Path.push.Goals as goal

pub invariant_of-self-2 : goal.invariant_of-self-2
invariant_of-self-2 c =
    let key = c.args.key in
    let path : List Key = c.self.inside.keys.items in
    let old = c.self.inside.index in
    let place = c.or_insert.result.now in
    let written = map_with_value c.in_ok-self-inside.field-0 place in
    let next : c.len-next.result ≡ length path = c.len-next.ensures ∙ (c.reserve.new.self.ok.0 ∙ ap (λ (ks : List Key). length ks) c.reserve.ensures.items) in
    let put : place ≡ unwrap_or (get key_cmp old key) (length path) = grind arith in
    let after : IsIndex written (path ++ key ∷ []) = pushed_index old written path key place put (c.in_ok-self-inside.ensures.update.0 place) c.self.invariant in
    let items : c.push.new.self.items ≡ path ++ key ∷ [] = c.in_ok-push.ensures.items ∙ ap (λ (ks : List Key). ks ++ key ∷ []) c.reserve.ensures.items in
    subst (λ (m : BTreeMap Key ℕ). IsIndex m c.push.new.self.items) (grind arith) (subst (IsIndex written) (sym items) after)
