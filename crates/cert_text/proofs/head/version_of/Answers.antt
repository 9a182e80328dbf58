use Rattle.cert_text.proofs.Cuts.{if_none_always}
use Rattle.cert_text.proofs.Heads.{no_version}
use Rattle.cert_text.proofs.head.version_of.Goals as goal

pub returns-in_err-rest-clause-none : goal.returns-in_err-rest-clause-none
returns-in_err-rest-clause-none c =
    if_none_always c.from_residual.result _ (no_version c.args.text.now c.in_default.ensures.none c.in_err-rest.ensures.none)
