use Rattle.cert_text.proofs.Cuts.{if_none_always}
use Rattle.cert_text.proofs.Heads.{no_claim}
use Rattle.cert_text.proofs.head.claim_of.Goals as goal

pub returns-in_err-digits-clause-none : goal.returns-in_err-digits-clause-none
returns-in_err-digits-clause-none c =
    if_none_always c.from_residual-in_err-digits.result _ (no_claim c.args.text.now c.in_default.ensures.none c.in_err-digits.ensures.none)
