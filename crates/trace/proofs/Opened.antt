-- A crew of a table and a desk is one of these once they are opened.
use Rattle.std.proofs.Common.{◌≡◌, List, Bool, sym, subst}
use Rattle.visit_log.specs.Run.{WorkerView}
use Rattle.lone_port.specs.Lone.{LonePortView, opened, book_of}
use Rattle.world_play.specs.Crew.{IsCrew}

pub opened_crew : (port ready : LonePortView) (stops : Bool) (workers : List WorkerView) → ready ≡ opened port stops → IsCrew (book_of port) workers → IsCrew (book_of ready) workers
opened_crew port ready stops workers is crew =
    subst (λ (p : LonePortView). IsCrew (book_of p) workers) (sym is)
    (record { held = crew.held; size = crew.size; visits = crew.visits; most = crew.most; members = crew.members })
