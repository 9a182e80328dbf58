use Rattle.std.proofs.Common.{ℕ, subst, sym}
use Rattle.std.proofs.lemmas.Result.{IfOk-weaker}
use Rattle.search_gate.specs.Polls.{IsPolledForEach}
use Rattle.shortest_mate.proofs.Told.{told, told_quiet}
use Rattle.shortest_mate.proofs.search.by_lengths.Goals as goal

pub returns-in-Ok-true-clause-finding : goal.returns-in-Ok-true-clause-finding
returns-in-Ok-true-clause-finding g c =
    IfOk-weaker c.or_too_many.result _ _
    (λ found h. told c.args.problem.now.position c.args.limit.number c.args.run.most found.1 c.found.result found.0 c.found.ensures.finding
    c.found.ensures.too_many h) c.or_too_many.ensures.finding

pub returns-in-Ok-true-clause-heeds : goal.returns-in-Ok-true-clause-heeds
returns-in-Ok-true-clause-heeds g c =
    IfOk-weaker c.or_too_many.result _ _
    (λ found h. told_quiet (g.T.Stop.signal c.args.stop.now) (g.T.Stop.signal c.find_length-length.new.stop) c.found.result found.0 c.found.ensures.quiet
    c.in-Ok-true.ensures.stopped h) c.or_too_many.ensures.finding

pub returns-in-Ok-false-clause-finding : goal.returns-in-Ok-false-clause-finding
returns-in-Ok-false-clause-finding g c =
    IfOk-weaker c.or_too_many-in-Ok-false.result _ _
    (λ found h. told c.args.problem.now.position c.args.limit.number c.args.run.most found.1 c.none_within.result found.0 c.none_within.ensures.finding
    c.none_within.ensures.too_many h) c.or_too_many-in-Ok-false.ensures.finding

pub returns-in-Ok-false-clause-heeds : goal.returns-in-Ok-false-clause-heeds
returns-in-Ok-false-clause-heeds g c =
    IfOk-weaker c.or_too_many-in-Ok-false.result _ _
    (λ found h. told_quiet (g.T.Stop.signal c.args.stop.now) (g.T.Stop.signal c.find_length-length.new.stop) c.none_within.result found.0
    c.none_within.ensures.quiet c.in-Ok-false.ensures.stopped h) c.or_too_many-in-Ok-false.ensures.finding

pub returns-in-Ok-true-clause-polled : goal.returns-in-Ok-true-clause-polled
returns-in-Ok-true-clause-polled g c =
    IfOk-weaker c.or_too_many.result _ _
    (λ found h. subst (λ (n : ℕ). IsPolledForEach c.args.run.made n (g.T.Stop.signal c.args.stop.now) (g.T.Stop.signal c.find_length-length.new.stop))
    (sym h) c.find_length-length.ensures.polled) c.or_too_many.ensures.made

pub returns-in-Ok-false-clause-polled : goal.returns-in-Ok-false-clause-polled
returns-in-Ok-false-clause-polled g c =
    IfOk-weaker c.or_too_many-in-Ok-false.result _ _
    (λ found h. subst (λ (n : ℕ). IsPolledForEach c.args.run.made n (g.T.Stop.signal c.args.stop.now) (g.T.Stop.signal c.find_length-length.new.stop))
    (sym h) c.find_length-length.ensures.polled) c.or_too_many-in-Ok-false.ensures.made
