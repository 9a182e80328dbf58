use Rattle.bound_text.proofs.Entries.{Laws}
use Rattle.bound_text.proofs.Again.{texts_apart, first_same, faultless}
use Rattle.bound_text.proofs.laws.bound_laws.Goals as goal

pub returns-clause-texts : goal.returns-clause-texts
returns-clause-texts c = λ problem a b r k e.
    let laws : Laws = record { apart = c.sfen_laws.ensures.apart; lines = c.sfen_laws.ensures.lines } in
    texts_apart laws problem a b r k e

pub returns-clause-one_fault : goal.returns-clause-one_fault
returns-clause-one_fault c = λ problem bytes one other h k.
    let laws : Laws = record { apart = c.sfen_laws.ensures.apart; lines = c.sfen_laws.ensures.lines } in
    first_same laws problem bytes one other h k

pub returns-clause-faultless : goal.returns-clause-faultless
returns-clause-faultless c = λ problem b line r h.
    let laws : Laws = record { apart = c.sfen_laws.ensures.apart; lines = c.sfen_laws.ensures.lines } in
    faultless laws problem b line r h
