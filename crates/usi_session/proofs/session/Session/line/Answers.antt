-- What a problem and settings keep, and that there is something to be done.
use Rattle.std.proofs.Common.{ℕ, List, Result, Ok, Err, IfOk, subst}
use Rattle.std.specs.declared.alloc.AllocError.{AllocError}
use Rattle.search_limits.specs.Settings.{PowersHaveOneBit}
use Rattle.usi_session.specs.declared.act.Act.{Act}
use Rattle.usi_session.specs.Commands.{IsCommand}
use Rattle.usi_session.specs.Seen.{IsFit}
use Rattle.usi_session.specs.Reading.{command_seen}
use Rattle.usi_session.proofs.Sound.{fit}
use Rattle.usi_session.proofs.Somes.{act-some}
use Rattle.usi_session.proofs.session.Session.line.Goals as goal

fit-result : PowersHaveOneBit → (result : Result Act AllocError) → IfOk result IsFit
fit-result law (Ok act) = fit law act
fit-result law (Err error) = tt

pub returns-clause-fit : goal.returns-clause-fit
returns-clause-fit c = fit-result c.power_laws.ensures c.serve.result

pub returns-clause-some : goal.returns-clause-some
returns-clause-some c =
    let seen = command_seen c.command_of.result in
    act-some c.args.self.now c.serve.new.self c.args.line.now seen c.serve.result (subst (λ (l : List ℕ). IsCommand l seen) c.without_return.ensures c.command_of.ensures)
    c.serve.ensures.act c.serve.ensures.some
