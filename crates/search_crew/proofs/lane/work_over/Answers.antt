use Rattle.search_crew.proofs.Working.{done, served}
use Rattle.search_crew.proofs.lane.work_over.Goals as goal

pub returns-clause-worked : goal.returns-clause-worked
returns-clause-worked g c = λ shared number fresh.
    let went = c.work.ensures.went in
    done _ (λ p. record { cut = p.cut; shards = g.X.Rows.shards p.rows; seat = p.seats.row; desk = p.seats.desk_seat }) (λ p. g.T.Stop.signal p.watch.stop)
    (λ p path q a r h. served _ _ path q a _ _ h) shared number c.args.port.now c.work.new.port c.args.worker.now c.work.new.worker went.0 c.work.result
    c.visit_laws.ensures.causes fresh went.1 went.2 c.work.ensures.others c.work.ensures.idle c.work.ensures.ended
