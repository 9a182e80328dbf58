use Rattle.std.proofs.Common.{arith, subst, sym}
use Rattle.board_core.specs.declared.moves.Move.{Move}
use Rattle.board_core.specs.Board.{Board}
use Rattle.shogi_rules.specs.Rules.{after}
use Rattle.shogi_rules.specs.Tsume.{IsEvasion}
use Rattle.list_laws.proofs.Standing.{more, of_all}
use Rattle.shortest_lists.specs.Line.{Lasts}
use Rattle.shortest_lists.proofs.Putting.{item_at, read_at}
use Rattle.shortest_lists.proofs.Lines.{first_in}
use Rattle.shortest_lists.proofs.line.first_lasting.Goals as goal

pub apply-next-requires-clause-legal : goal.apply-next-requires-clause-legal
apply-next-requires-clause-legal c =
    (item_at (IsEvasion c.args.problem.now.position.side c.args.checked.now) c.as_slice-evasion-items.result.now c.in_ok-evasions.evasions
    c.in_ok-evasions.ensures c.as_slice-evasion-items.ensures.moves c.loop-evasion.evasion-index c.evasion-item.result (omega arith) c.evasion-item.is).legal

pub returns-then-lasts : goal.returns-then-lasts
returns-then-lasts c =
    let items = c.as_slice-evasion-items.result.now in
    let evasions = c.in_ok-evasions.evasions in
    let lasting = λ (b : Board). Lasts c.args.certificate.now c.args.bound.now.entries c.args.rank b in
    record {
      is_evasion = item_at (IsEvasion c.args.problem.now.position.side c.args.checked.now) items evasions c.in_ok-evasions.ensures
          c.as_slice-evasion-items.ensures.moves c.loop-evasion.evasion-index c.evasion-item.result (omega arith) c.evasion-item.is;
      lasts = subst lasting c.apply-next.ensures.position (c.lasts.ensures.0 c.if-lasts.true);
      first = first_in c.order_laws.ensures.places (λ (m : Move). lasting (after c.args.checked.now m))
          (IsEvasion c.args.problem.now.position.side c.args.checked.now) items evasions c.loop-evasion.evasion-index c.evasion-item.result
          c.in_ok-evasions.ensures c.as_slice-evasion-items.ensures.moves
          (read_at items c.loop-evasion.evasion-index c.evasion-item.result (omega arith) c.evasion-item.is) c.loop-evasion.invariant;
    }

pub loop-evasion-preserved : goal.loop-evasion-preserved
loop-evasion-preserved c =
    let items = c.as_slice-evasion-items.result.now in
    let lasting = λ (b : Board). Lasts c.args.certificate.now c.args.bound.now.entries c.args.rank b in
    more (λ (m : Move). ¬ lasting (after c.args.checked.now m)) items c.loop-evasion.evasion-index c.evasion-item.result
    (read_at items c.loop-evasion.evasion-index c.evasion-item.result (omega arith) c.evasion-item.is)
    (λ has. let yes = c.lasts.ensures.1 (subst lasting (sym c.apply-next.ensures.position) has) in cc)
    c.loop-evasion.invariant

pub unreachable-requires : goal.unreachable-requires
unreachable-requires c =
    let some = c.requires.some in
    of_all (λ (m : Move). ¬ Lasts c.args.certificate.now c.args.bound.now.entries c.args.rank (after c.args.checked.now m))
    c.as_slice-evasion-items.result.now c.in_ok-evasions.evasions c.loop-evasion.evasion-index c.as_slice-evasion-items.ensures.moves (omega arith)
    c.loop-evasion.invariant some.evasion (c.in_ok-evasions.ensures.complete some.evasion some.is_evasion) some.leads
