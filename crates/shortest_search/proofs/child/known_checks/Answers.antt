use Rattle.std.proofs.Common.{List, sym, subst}
use Rattle.bit_boards.specs.declared.piece.Side.{Side}
use Rattle.board_core.specs.declared.moves.Move.{Move}
use Rattle.board_core.specs.Order.{Lists}
use Rattle.shogi_rules.specs.Tsume.{IsCheck}
use Rattle.shortest_facts.specs.Keys.{known_of}
use Rattle.shortest_search.specs.Children.{IsKnownCheck}
use Rattle.shortest_search.proofs.Knowing.{one_more, all_gone}
use Rattle.shortest_search.proofs.child.known_checks.Goals as goal

pub returns : goal.returns
returns c =
    all_gone (IsKnownCheck (known_of c.args.facts.now) c.args.position.now) (IsCheck c.args.facts.now.attacker c.args.position.now) c.as_slice-by-items.result.now c.loop-place.place
    c.loop-place.children.items c.loop-place-test.false c.loop-place.invariant
    (subst (λ (ms : List Move). Lists (IsCheck c.args.facts.now.attacker c.args.position.now) ms) (sym c.as_slice-by-items.ensures.moves)
    (subst (λ (s : Side). Lists (IsCheck s c.args.position.now) c.in_ok-listed.listed) (sym c.requires.same) c.in_ok-listed.ensures))

pub known_check-requires-clause-check : goal.known_check-requires-clause-check
known_check-requires-clause-check c =
    (subst (λ (ms : List Move). Lists (IsCheck c.args.problem.now.position.side c.args.position.now) ms) (sym c.as_slice-by-items.ensures.moves) c.in_ok-listed.ensures).sound
    c.by-item.result (c.loop-place.place, c.loop-place-test.true, sym c.by-item.is)

pub loop-place-preserved : goal.loop-place-preserved
loop-place-preserved c =
    one_more (IsKnownCheck (known_of c.args.facts.now) c.args.position.now) c.as_slice-by-items.result.now c.loop-place.place c.loop-place.children.items c.push.new.self.items
    c.in_ok-known_check.field-0 c.by-item.result c.loop-place-test.true c.by-item.is c.in_ok-known_check.ensures.by c.in_ok-known_check.ensures.known c.in_ok-push.ensures.items c.loop-place.invariant
