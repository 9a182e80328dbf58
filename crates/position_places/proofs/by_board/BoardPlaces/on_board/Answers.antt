use Rattle.std.proofs.Common.{◌≡◌, List, [], ℕ, arith, subst, IsPermutation}
use Rattle.std.proofs.lemmas.Grind.{common_steps}
use Rattle.std.proofs.lemmas.Map.Iter.{rest_all}
use Rattle.std.specs.Map.{values_of}
use Rattle.std.specs.Map.Iter.{deref_pair}
use Rattle.std.specs.Range.{range_inclusive_start, range_inclusive_end}
use Rattle.position_places.proofs.Boards.{ends_in_order, same_ends, between, on_board}
use Rattle.position_places.proofs.by_board.BoardPlaces.on_board.Goals as goal

pub range-place-items-requires : goal.range-place-items-requires
range-place-items-requires c =
    ends_in_order c.args.position.now (range_inclusive_start c.new.result) (range_inclusive_end c.new.result)
    (same_ends c.args.position.now c.board_keys.result.0 c.board_keys.result.1 _ _ c.new.ensures.start c.new.ensures.end c.board_keys.ensures.ends)

pub returns : goal.returns
returns c = λ positions known.
    let ends = same_ends c.args.position.now c.board_keys.result.0 c.board_keys.result.1 (range_inclusive_start c.new.result) (range_inclusive_end c.new.result)
    c.new.ensures.start c.new.ensures.end c.board_keys.ensures.ends in
    let none : c.loop-place.place-iterator ≡ [] = rest_all deref_pair c.loop-place.place-iterator c.next.new.self c.next.result c.in-None.is c.next.ensures.steps in
    let all : c.loop-place.places.items ≡ values_of c.range-place-items.result = grind (arith, common_steps, c.loop-place.invariant, none, c.into_iter-place-iterator.ensures) in
    on_board c.args.self.now c.args.position.now (range_inclusive_start c.new.result) (range_inclusive_end c.new.result) c.range-place-items.result
    c.sort_unstable.new.self.items positions c.board_keys.ensures.kept ends
    (between c.args.self.now.by_key (range_inclusive_start c.new.result) (range_inclusive_end c.new.result) c.range-place-items.result
    (c.range-place-items.ensures.between c.new.ensures.exhausted) (c.range-place-items.ensures.in_range c.new.ensures.exhausted).0
    c.range-place-items.ensures.ordered c.range-place-items.ensures.places)
    (subst (λ (xs : List ℕ). IsPermutation xs c.sort_unstable.new.self.items) all c.sort_unstable.ensures.permutation)
    c.sort_unstable.ensures.sorted known
