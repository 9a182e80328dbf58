use Rattle.library_text.proofs.Again.{Laws, texts_apart, first_same, faultless}
use Rattle.library_text.proofs.laws.library_laws.Goals as goal

pub returns-clause-texts : goal.returns-clause-texts
returns-clause-texts c =
    let laws : Laws = record {
      lines = c.sfen_laws.ensures.lines;
      texts = c.cert_laws.ensures.texts;
      one_fault = c.cert_laws.ensures.one_fault;
      faultless = c.cert_laws.ensures.faultless;
    } in
    texts_apart laws

pub returns-clause-one_fault : goal.returns-clause-one_fault
returns-clause-one_fault c =
    let laws : Laws = record {
      lines = c.sfen_laws.ensures.lines;
      texts = c.cert_laws.ensures.texts;
      one_fault = c.cert_laws.ensures.one_fault;
      faultless = c.cert_laws.ensures.faultless;
    } in
    first_same laws

pub returns-clause-faultless : goal.returns-clause-faultless
returns-clause-faultless c =
    let laws : Laws = record {
      lines = c.sfen_laws.ensures.lines;
      texts = c.cert_laws.ensures.texts;
      one_fault = c.cert_laws.ensures.one_fault;
      faultless = c.cert_laws.ensures.faultless;
    } in
    faultless laws
