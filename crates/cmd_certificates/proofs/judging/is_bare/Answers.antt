use Rattle.std.proofs.Common.{sym, ◌∙◌}
use Rattle.std.specs.Prelude.{codes}
use Rattle.cert_text.proofs.Offered.{found_rest, rest_found}
use Rattle.cmd_certificates.proofs.judging.is_bare.Goals as goal

pub returns : goal.returns
returns c = (
  (λ yes. let found = found_rest c.behind.result _ (sym c.is_some.ensures ∙ yes) c.behind.ensures.found in (found.0.now, found.1)),
  (λ bare. c.is_some.ensures ∙ rest_found c.behind.result c.args.text.now (codes "certificate ") bare.0 bare.1 c.behind.ensures.none),
)
