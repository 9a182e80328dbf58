use Rattle.std.proofs.Common.{◌≤◌, ℕ, sym, subst}
use Rattle.search_gate.specs.Polls.{IsPolledForEach}
use Rattle.search_limits.specs.Settings.{settings_in}
use Rattle.search_pool.specs.End.{IsAloneDrawing}
use Rattle.search_pool.proofs.alone.search_alone_counted.Goals as goal

pub returns-clause-alone : goal.returns-clause-alone
returns-clause-alone g c =
    subst (λ (n : ℕ). IsAloneDrawing c.args.problem.now.position (settings_in c.args.settings.now) (g.T.Stop.signal c.args.stop.now)
    (g.T.Stop.signal c.search_over.new.stop) c.in_ok-end.end n)
    (sym c.drawn.ensures) c.in_ok-end.ensures.drawing

pub returns-clause-few : goal.returns-clause-few
returns-clause-few g c = subst (λ (n : ℕ). n ≤ c.args.settings.now.expansions) (sym c.drawn.ensures) c.in_ok-end.ensures.few

pub returns-clause-polled : goal.returns-clause-polled
returns-clause-polled g c =
    subst (λ (n : ℕ). IsPolledForEach 0 n (g.T.Stop.signal c.args.stop.now) (g.T.Stop.signal c.search_over.new.stop))
    (sym c.drawn.ensures) c.in_ok-end.ensures.polled
