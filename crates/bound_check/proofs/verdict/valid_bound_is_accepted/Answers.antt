use Rattle.bound_check.proofs.Verdicts.{accepted_iff, shown}
use Rattle.bound_check.proofs.verdict.valid_bound_is_accepted.Goals as goal

pub returns-clause-accepted : goal.returns-clause-accepted
returns-clause-accepted c = λ entries p within verdict is valid. (accepted_iff entries p within verdict is).1 valid

pub returns-clause-shows : goal.returns-clause-shows
returns-clause-shows c = λ entries p within valid. shown entries p within valid
