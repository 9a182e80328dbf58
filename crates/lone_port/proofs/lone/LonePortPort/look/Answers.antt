use Rattle.std.proofs.Common.{◌≡◌, ℕ, List, length, subst, sym}
use Rattle.std.specs.Prelude.{Option, IfOk}
use Rattle.bit_boards.specs.declared.piece.Side.{Side}
use Rattle.visit_log.specs.declared.words.Request.TheVariants.{Look}
use Rattle.visit_log.specs.Round.{MayShow}
use Rattle.table_shard.specs.Row.{Looks}
use Rattle.table_shard.specs.Shard.{row_of}
use Rattle.worker_core.specs.Port.{shown}
use Rattle.lone_port.specs.Lone.{LonePortView, Turns, to_whom}
use Rattle.lone_port.proofs.Asked.{found, look_turns, look_may, spot_place, counts_in, tells, tells_standing, looks_in, row_kept}
use Rattle.lone_port.proofs.lone.LonePortPort.look.Goals as goal

pub returns-clause-turn : goal.returns-clause-turn
returns-clause-turn c =
    let port : LonePortView = record { rows = c.self.inside.shard; pins = c.self.inside.pins.items; desk = c.self.inside.desk; going = c.self.inside.is_going; stops = c.self.inside.stops; lends = c.self.inside.lends } in
    let key = c.args.key.now in
    let long : length port.rows ≡ length port.pins = sym c.self.invariant.as_many in
    let counts = found port.pins key c.spot_of-spot.result.place (length port.rows) c.index.result.now long (spot_place c.spot_of-spot.result c.args.key.now (length port.rows) c.spot_of-spot.ensures.spot) c.spot_of-spot.ensures.there c.index.ensures in
    let looked : IfOk c.look.result (Looks (to_whom port) (row_of port.rows key) c.index.result.now key c.args.path.now) =
    subst (λ (to : Option Side). IfOk c.look.result (Looks to (row_of port.rows key) c.index.result.now key c.args.path.now)) c.to_whom-to.ensures
    (looks_in counts_in tells tells_standing c.to_whom-to.result (row_of port.rows key) key c.args.path.now _ _ c.look.result (row_kept port key c.self.invariant c.laws.ensures.rows)
    c.look.ensures.looks) in
    subst (λ (q : LonePortView). Turns q c.args.path.now (Look key) (shown c.look.result) q) c.self.view_is
    (look_turns port key c.args.path.now c.look.result
    (subst (λ (n : List ℕ). IfOk c.look.result (Looks (to_whom port) (row_of port.rows key) n key c.args.path.now)) counts looked))

pub returns-clause-may : goal.returns-clause-may
returns-clause-may c =
    let port : LonePortView = record { rows = c.self.inside.shard; pins = c.self.inside.pins.items; desk = c.self.inside.desk; going = c.self.inside.is_going; stops = c.self.inside.stops; lends = c.self.inside.lends } in
    let key = c.args.key.now in
    let long : length port.rows ≡ length port.pins = sym c.self.invariant.as_many in
    let counts = found port.pins key c.spot_of-spot.result.place (length port.rows) c.index.result.now long (spot_place c.spot_of-spot.result c.args.key.now (length port.rows) c.spot_of-spot.ensures.spot) c.spot_of-spot.ensures.there c.index.ensures in
    let looked : IfOk c.look.result (Looks (to_whom port) (row_of port.rows key) c.index.result.now key c.args.path.now) =
    subst (λ (to : Option Side). IfOk c.look.result (Looks to (row_of port.rows key) c.index.result.now key c.args.path.now)) c.to_whom-to.ensures
    (looks_in counts_in tells tells_standing c.to_whom-to.result (row_of port.rows key) key c.args.path.now _ _ c.look.result (row_kept port key c.self.invariant c.laws.ensures.rows)
    c.look.ensures.looks) in
    subst (λ (q : LonePortView). IfOk c.look.result (MayShow q.desk.position.side key c.args.path.now)) c.self.view_is
    (look_may port key c.args.path.now c.look.result c.self.invariant c.laws.ensures.rows
    (subst (λ (n : List ℕ). IfOk c.look.result (Looks (to_whom port) (row_of port.rows key) n key c.args.path.now)) counts looked))
