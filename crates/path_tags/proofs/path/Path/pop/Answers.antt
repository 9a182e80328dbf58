use Rattle.std.proofs.Common.{◌≡◌, ◌++◌, [], ◌∷◌, List, sym, subst, ◌∙◌, length}
use Rattle.std.specs.BTreeMap.{get}
use Rattle.board_core.specs.declared.keys.Key.{Key}
use Rattle.board_core.specs.KeyOrder.{key_cmp}
use Rattle.path_tags.specs.Path.{IsIndex}
use Rattle.path_tags.proofs.Places.{popped_index, still_index, told_place, untold_place}
use Rattle.path_tags.proofs.path.Path.pop.Goals as goal

pub invariant_of-self-then-eq : goal.invariant_of-self-then-eq
invariant_of-self-then-eq c =
    let path : List Key = c.pop.new.self.items in
    let key = c.in_ok-key.key in
    let index : IsIndex c.self.inside.index (path ++ key ∷ []) = subst (IsIndex c.self.inside.index) c.in_ok-key.ensures.items c.self.invariant in
    let length_is : c.len.result ≡ length path = c.len.ensures ∙ c.pop.new.self.ok.0 in
    let last = told_place (get key_cmp c.self.inside.index key) c.copied.result (length path) c.len.result (c.copied.ensures ∙ c.get.ensures.value) length_is
    (sym c.eq.ensures ∙ c.if-eq.true) in
    popped_index c.self.inside.index c.remove.new.self path key index last c.remove.ensures.updates

pub invariant_of-self-else-eq : goal.invariant_of-self-else-eq
invariant_of-self-else-eq c =
    let path : List Key = c.pop.new.self.items in
    let key = c.in_ok-key.key in
    let index : IsIndex c.self.inside.index (path ++ key ∷ []) = subst (IsIndex c.self.inside.index) c.in_ok-key.ensures.items c.self.invariant in
    let length_is : c.len.result ≡ length path = c.len.ensures ∙ c.pop.new.self.ok.0 in
    let other = untold_place (get key_cmp c.self.inside.index key) c.copied.result (length path) c.len.result (c.copied.ensures ∙ c.get.ensures.value) length_is
    (sym c.eq.ensures ∙ c.if-eq.false) in
    still_index c.self.inside.index path key index other
