use Rattle.std.proofs.Common.{◌∙◌, ℕ, List, length, subst, arith}
use Rattle.std.specs.Map.{lookup}
use Rattle.std.specs.BTreeMap.{is_at}
use Rattle.std.specs.BTreeMap as tree
use Rattle.std.specs.BTreeMap.Entry.{map_with_value}
use Rattle.board_core.specs.declared.keys.Key.{Key}
use Rattle.board_core.specs.KeyOrder.{key_cmp}
use Rattle.position_places.specs.Places.{FindsPlaces}
use Rattle.position_places.proofs.Finding.{found, after_entry, place_of_entry, tree_written}
use Rattle.position_places.proofs.by_board.BoardPlaces.add.Goals as goal

pub returns-clause-place : goal.returns-clause-place
returns-clause-place c = λ positions known.
    place_of_entry positions c.args.position.now _ _ _
    (found (tree.get key_cmp c.args.self.now.by_key) _ c.key.result c.args.position.now _ positions c.key.ensures.words c.key.ensures.kept c.in_ok-self.ensures.value known)
    c.or_insert-place.ensures.value (c.len-next.ensures.len ∙ known.count)

pub returns-clause-added : goal.returns-clause-added
returns-clause-added c = λ positions longer known with.
    let written = map_with_value c.in_ok-self.field-0 c.or_insert-place.result.now in
    let after = after_entry (tree.get key_cmp c.args.self.now.by_key) (tree.get key_cmp written) _ _ c.key.result c.args.position.now _ _ c.or_insert-place.result.now positions longer
    c.key.ensures.words c.key.ensures.kept
    (found (tree.get key_cmp c.args.self.now.by_key) _ c.key.result c.args.position.now _ positions c.key.ensures.words c.key.ensures.kept c.in_ok-self.ensures.value known)
    c.or_insert-place.ensures.value
    (tree_written c.args.self.now.by_key written c.key.result c.or_insert-place.result.now (c.in_ok-self.ensures.update.0 c.or_insert-place.result.now))
    (c.in_ok-self.ensures.len c.or_insert-place.result.now)
    c.len-next.ensures.len known with in
    subst (λ (es : List (Key × ℕ)). FindsPlaces (λ k. lookup (is_at (key_cmp k)) es) (length es) longer) (grind arith) after
