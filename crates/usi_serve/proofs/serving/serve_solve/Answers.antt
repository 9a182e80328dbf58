use Rattle.std.proofs.Common.{ℕ, List, [], ◌∷◌, ◌∙◌, subst}
use Rattle.tsume_io.specs.Sink.{GrewBy, GrewByPrefix}
use Rattle.one_run.specs.Stops.{signals}
use Rattle.usi_serve.specs.Reply.{reply_line}
use Rattle.usi_serve.proofs.Acts.{goes_on, solved}
use Rattle.usi_serve.proofs.serving.serve_solve.Goals as goal

-- The answer was written.
pub returns-in-Ok-write_all : goal.returns-in-Ok-write_all
returns-in-Ok-write_all g c =
    let stops = signals g.T.Stop.signal c.args.stops.now.items c.solve_problem.new.stops.items in
    let kept = g.K.Sink.kept in
    record {
      text = reply_line c.in-Ok.solution;
      done = solved c.args.asked stops c.in-Ok.solution c.in-Ok.ensures.true_of c.solve_problem.ensures.used;
      tells = goes_on c.args.asked;
      grew = subst (λ (t : List ℕ). GrewBy (kept c.args.sink.now) (kept c.write_all.new.sink) t)
          (c.deref.ensures.value ∙ c.in-Ok-reply_text.ensures) c.in-Ok-write_all.ensures.whole;
      kept = c.in-Ok-write_all.ensures.counted;
    }

-- A part of it was.
pub returns : goal.returns
returns g c =
    let stops = signals g.T.Stop.signal c.args.stops.now.items c.solve_problem.new.stops.items in
    let kept = g.K.Sink.kept in
    record {
      text = reply_line c.in-Ok.solution;
      replies = (record { asked = c.args.asked; solution = c.in-Ok.solution }) ∷ [];
      done = solved c.args.asked stops c.in-Ok.solution c.in-Ok.ensures.true_of c.solve_problem.ensures.used;
      grew = subst (λ (t : List ℕ). GrewByPrefix (kept c.args.sink.now) (kept c.write_all.new.sink) t)
          (c.deref.ensures.value ∙ c.in-Ok-reply_text.ensures) c.in-Err.ensures.prefix;
      rose = c.in-Err.ensures.fault;
    }
