use Rattle.cert_check.proofs.Verdicts.{accepted_iff}
use Rattle.cert_check.proofs.Shown.{shown, readable_shown}
use Rattle.cert_check.proofs.verdict.valid_is_accepted.Goals as goal

pub returns-clause-accepted : goal.returns-clause-accepted
returns-clause-accepted c = λ certificate p verdict is valid. (accepted_iff certificate p verdict is).1 valid

pub returns-clause-shows : goal.returns-clause-shows
returns-clause-shows c =
    let laws = c.listing_laws.ensures in
    λ certificate p all kept valid. shown laws.covers laws.ranks laws.none laws.escapes certificate p all kept valid

pub returns-clause-readable : goal.returns-clause-readable
returns-clause-readable c =
    let laws = c.listing_laws.ensures in
    λ certificate p can valid. readable_shown laws.covers laws.ranks laws.none laws.escapes certificate p can valid
