use Rattle.std.proofs.Common.{rules, ◌≡◌, ◌<◌, List, sym, subst, arith}
use Rattle.std.specs.Prelude.{All}
use Rattle.board_core.specs.Board.{Board}
use Rattle.table_shard.specs.Entry.{EntryView}
use Rattle.table_shard.specs.Known.{TakesNotes}
use Rattle.unit_desk.specs.Known.{IsKnown}
use Rattle.lone_port.proofs.Filling.{filled_lone}
use Rattle.lone_port.proofs.lone.LonePort.make_filled.Goals as goal

pub invariant_of-result : goal.invariant_of-result
invariant_of-result c =
    let s = c.args.settings.now in
    let notes = c.args.notes.now in
    let at : c.match-branch-4.desk.position ≡ c.args.problem.now.position = search rules in
    let some : 0 < s.rows = (let low = s.rows_in_range.0 in omega (arith, low)) in
    filled_lone s.rows notes c.take_all.new.shard c.in_ok-pins.pins.items c.match-branch-4.desk s.lends some c.in_ok-pins.ensures
    (subst (λ (rows : List (List EntryView)). TakesNotes rows notes c.take_all.new.shard) c.in_ok-shard.ensures c.in_ok-take_all.ensures)
    (subst (λ (b : Board). All (IsKnown b.side) notes) (sym at) c.requires.known)
