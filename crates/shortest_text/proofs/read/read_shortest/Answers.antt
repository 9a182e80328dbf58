use Rattle.shortest_text.proofs.Again.{Laws, read_again, read_fault}
use Rattle.shortest_text.proofs.read.read_shortest.Goals as goal

pub returns-clause-again : goal.returns-clause-again
returns-clause-again c = λ t readable text.
    let laws : Laws = record {
      apart = c.sfen_laws.ensures.apart;
      lines = c.sfen_laws.ensures.lines;
      certificates = c.cert_laws.ensures.texts;
      certificate_fault = c.cert_laws.ensures.one_fault;
      certificate_faultless = c.cert_laws.ensures.faultless;
      bounds = c.bound_laws.ensures.texts;
      bound_fault = c.bound_laws.ensures.one_fault;
      bound_faultless = c.bound_laws.ensures.faultless;
    } in
    read_again laws t c.args.bytes.now c.shortest_of.result readable text c.shortest_of.ensures

pub returns-clause-only : goal.returns-clause-only
returns-clause-only c = λ fault first.
    let laws : Laws = record {
      apart = c.sfen_laws.ensures.apart;
      lines = c.sfen_laws.ensures.lines;
      certificates = c.cert_laws.ensures.texts;
      certificate_fault = c.cert_laws.ensures.one_fault;
      certificate_faultless = c.cert_laws.ensures.faultless;
      bounds = c.bound_laws.ensures.texts;
      bound_fault = c.bound_laws.ensures.one_fault;
      bound_faultless = c.bound_laws.ensures.faultless;
    } in
    read_fault laws fault c.args.bytes.now c.shortest_of.result first c.shortest_of.ensures
