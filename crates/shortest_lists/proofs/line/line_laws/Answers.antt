use Rattle.cert_text.specs.declared.certificate.Certificate.TheVariants as certificates
use Rattle.shortest_lists.proofs.Lines.{exact}
use Rattle.shortest_lists.proofs.line.line_laws.Goals as goal

pub returns : goal.returns
returns c certificate bounds p b within rank kept problem valid bounded lasts =
    exact c.rank_grows.ensures certificate bounds p b within rank
    (c.valid_is_accepted.ensures.shows (certificates.Mate certificate) p kept problem valid) (c.valid_bound_is_accepted.ensures.shows bounds p within bounded) lasts
