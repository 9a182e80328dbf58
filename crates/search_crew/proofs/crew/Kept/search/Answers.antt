use Rattle.std.proofs.Common.{◌≡◌, Ok, Result, map, subst}
use Rattle.std.specs.Prelude.{IfOk}
use Rattle.search_limits.specs.Settings.{settings_in}
use Rattle.search_crew.specs.End.{IsCrewEnd}
use Rattle.search_crew.specs.Inside.{Shared}
use Rattle.search_crew.proofs.Crews.{closes, none_polled}
use Rattle.search_crew.proofs.crew.Kept.search.Goals as goal

pub returns-in_err-desk-clause-polled : goal.returns-in_err-desk-clause-polled
returns-in_err-desk-clause-polled g c = none_polled c.args.settings.now.workers (map g.T.Stop.signal c.args.stops.now.items)

pub outcome-requires-clause-closes : goal.outcome-requires-clause-closes
outcome-requires-clause-closes g c =
    let its : Shared = record { problem = c.args.problem.now.position; words = c.args.self.table.words; desk = c.in_ok-desk.desk } in (
      c.args.problem.now.position,
      closes (settings_in c.args.settings.now) its (map g.T.Stop.signal c.args.stops.now.items) (map g.T.Stop.signal c.work_crew.new.stops.items) c.in_ok-crew.crew.items
          c.work_crew.new.desk_seat c.close.result.drawn c.close.result.claimed c.close.result.note c.laws.ensures c.in_ok-crew.ensures.tells c.close.ensures
          c.in_ok-desk.ensures.position c.in_ok-desk.ensures.expansions c.in_ok-desk.ensures.room,
    )

-- what holds of a result that is there
of_ok : {T E : Type 0} (P : T → Type 0) (r : Result T E) (x : T) → r ≡ Ok x → IfOk r P → P x
of_ok {T} {E} P r x is holds = subst (λ (q : Result T E). IfOk q P) is holds

pub returns-clause-end : goal.returns-clause-end
returns-clause-end g c =
    let its : Shared = record { problem = c.args.problem.now.position; words = c.args.self.table.words; desk = c.in_ok-desk.desk } in
    let before = map g.T.Stop.signal c.args.stops.now.items in
    let after = map g.T.Stop.signal c.work_crew.new.stops.items in
    of_ok (IsCrewEnd c.args.problem.now.position (settings_in c.args.settings.now) before after) c.outcome.result c.in_ok-end.end c.in_ok-end.was
    (c.outcome.ensures c.args.problem.now.position before after c.in_ok-crew.ensures.tells.searched
    (closes (settings_in c.args.settings.now) its before after c.in_ok-crew.crew.items
    c.work_crew.new.desk_seat c.close.result.drawn c.close.result.claimed c.close.result.note c.laws.ensures c.in_ok-crew.ensures.tells c.close.ensures
    c.in_ok-desk.ensures.position c.in_ok-desk.ensures.expansions c.in_ok-desk.ensures.room))
