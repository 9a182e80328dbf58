use Rattle.std.proofs.Common.{refl}
use Rattle.cmd_check.specs.Asked.{check_in}
use Rattle.cmd_check.proofs.Offered.{posed_has_no_fault}
use Rattle.tsume_app.proofs.program.check_ended.Goals as goal

pub returns-in-Err-clause-kept : goal.returns-in-Err-clause-kept
returns-in-Err-clause-kept g c = λ words stops unused. (
  (c.in-Err.ensures.found, λ posed. posed_has_no_fault c.problem_laws.ensures (check_in c.args.asked.now) c.in-Err.fault posed c.in-Err.ensures.found),
  (record { told = refl; faults = refl }, unused),
  record { told = refl; faults = refl },
)
