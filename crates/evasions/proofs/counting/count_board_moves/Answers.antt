use Rattle.std.proofs.Common.{◌+◌, ◌*◌, [], arith, refl, true, false, ◌∙◌}
use Rattle.bit_boards.specs.Mask.{holds}
use Rattle.list_laws.proofs.Filling.{FromOwn, fills_none, fills_to, fills_more, fills_all}
use Rattle.list_laws.proofs.Adding.{taken_out, stays_in}
use Rattle.list_laws.proofs.Totals.{few_before, from_counted}
use Rattle.evasions.proofs.Evading.{Evasion, board_exact, evasion_from}
use Rattle.evasions.proofs.counting.count_board_moves.Goals as goal

pub loop-from-init : goal.loop-from-init
loop-from-init c = record {
  moves = [];
  fills = fills_none (Evasion c.args.position.now) (holds c.movers-left.result);
  long = refl;
  few = omega arith;
}

pub loop-from-preserved : goal.loop-from-preserved
loop-from-preserved c =
    let b = c.args.position.now in
    let P = Evasion b in
    let from = c.in-Some.from in
    let popped = c.in-Some.ensures in
    let own : FromOwn P (holds c.movers-left.result) = evasion_from b c.movers-left.result c.movers-left.ensures.all in
    let i = c.loop-from.invariant in
    let before = fills_to c.order_laws.ensures.origins P (holds c.movers-left.result) (holds c.loop-from.left) i.moves from.number
    own from.on_board popped.found popped.least i.fills in
    let now = from_counted c.order_laws.ensures.apart P from c.board_moves-found.result.plain c.board_moves-found.result.promoted c.loop-from.count
    c.from.result c.from-in-Some.result
    (board_exact b from false c.full.result.plain c.board_moves-found.result.plain c.full.ensures.plain c.board_moves-found.ensures.plain)
    (board_exact b from true c.full.result.promoted c.board_moves-found.result.promoted c.full.ensures.promoted c.board_moves-found.ensures.promoted)
    (c.from.ensures ∙ c.len.ensures.count) (c.from-in-Some.ensures ∙ c.len-in-Some.ensures.count)
    (record { moves = i.moves; lists = before; long = i.long }) in
    let few = few_before P (162 * from.number + 162) _ now in
    let within = from.on_board in
    record {
      moves = now.moves;
      fills = fills_more P (holds c.movers-left.result) (holds c.loop-from.left) (holds c.pop_first.new.self) i.moves now.moves from.number
          from.on_board popped.found popped.least
          (λ t has. taken_out _ _ t from.number (popped.rest t) has)
          (λ t has apart. stays_in _ _ t from.number (popped.rest t) has apart)
          i.fills now.lists;
      long = now.long;
      few = omega arith;
    }

pub returns-clause-are : goal.returns-clause-are
returns-clause-are c =
    let b = c.args.position.now in
    let P = Evasion b in
    let own : FromOwn P (holds c.movers-left.result) = evasion_from b c.movers-left.result c.movers-left.ensures.all in
    let i = c.loop-from.invariant in
    record {
      moves = i.moves;
      lists = fills_all c.order_laws.ensures.origins P (holds c.movers-left.result) (holds c.loop-from.left) i.moves own c.in_default.ensures.none i.fills;
      long = i.long;
    }
