use Rattle.std.proofs.Common.{◌≡◌, ◌↔◌, None}
use Rattle.library_check.specs.Judged.{IsFound}
use Rattle.library_check.specs.Refused.{AreValid}
use Rattle.library_check.proofs.Judging.{none_where_valid, ok_on}
use Rattle.library_check.proofs.refused.first_refused.Goals as goal

pub returns-clause-valid : goal.returns-clause-valid
returns-clause-valid c =
    ok_on c.first_of.result (IsFound c.args.certificates.now) (λ found. (found ≡ None) ↔ AreValid c.args.certificates.now)
    (none_where_valid c.valid_is_accepted.ensures.accepted c.args.certificates.now) c.first_of.ensures
