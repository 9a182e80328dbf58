use Rattle.shortest_text.proofs.Again.{Laws, texts_apart, first_same, faultless}
use Rattle.shortest_text.proofs.laws.shortest_laws.Goals as goal

pub returns-clause-texts : goal.returns-clause-texts
returns-clause-texts c = λ a b bytes r s e f.
    let laws : Laws = record {
      apart = c.sfen_laws.ensures.apart;
      lines = c.sfen_laws.ensures.lines;
      certificates = c.cert_laws.ensures.texts;
      certificate_fault = c.cert_laws.ensures.one_fault;
      certificate_faultless = c.cert_laws.ensures.faultless;
      bounds = c.bound_laws.ensures.texts;
      bound_fault = c.bound_laws.ensures.one_fault;
      bound_faultless = c.bound_laws.ensures.faultless;
    } in
    texts_apart laws a b bytes r s e f

pub returns-clause-one_fault : goal.returns-clause-one_fault
returns-clause-one_fault c = λ bytes one other h k.
    let laws : Laws = record {
      apart = c.sfen_laws.ensures.apart;
      lines = c.sfen_laws.ensures.lines;
      certificates = c.cert_laws.ensures.texts;
      certificate_fault = c.cert_laws.ensures.one_fault;
      certificate_faultless = c.cert_laws.ensures.faultless;
      bounds = c.bound_laws.ensures.texts;
      bound_fault = c.bound_laws.ensures.one_fault;
      bound_faultless = c.bound_laws.ensures.faultless;
    } in
    first_same laws bytes one other h k

pub returns-clause-faultless : goal.returns-clause-faultless
returns-clause-faultless c = λ t bytes fault r e h.
    let laws : Laws = record {
      apart = c.sfen_laws.ensures.apart;
      lines = c.sfen_laws.ensures.lines;
      certificates = c.cert_laws.ensures.texts;
      certificate_fault = c.cert_laws.ensures.one_fault;
      certificate_faultless = c.cert_laws.ensures.faultless;
      bounds = c.bound_laws.ensures.texts;
      bound_fault = c.bound_laws.ensures.one_fault;
      bound_faultless = c.bound_laws.ensures.faultless;
    } in
    faultless laws t bytes fault r e h
