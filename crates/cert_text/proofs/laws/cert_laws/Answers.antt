use Rattle.cert_text.proofs.Again.{Laws, texts_apart, first_same, no_first_fault}
use Rattle.cert_text.proofs.laws.cert_laws.Goals as goal

pub returns-clause-texts : goal.returns-clause-texts
returns-clause-texts c =
    let laws : Laws = record { apart = c.sfen_laws.ensures.apart; lines = c.sfen_laws.ensures.lines; moves = c.move_laws.ensures } in
    texts_apart laws

pub returns-clause-one_fault : goal.returns-clause-one_fault
returns-clause-one_fault c =
    let laws : Laws = record { apart = c.sfen_laws.ensures.apart; lines = c.sfen_laws.ensures.lines; moves = c.move_laws.ensures } in
    first_same laws

pub returns-clause-faultless : goal.returns-clause-faultless
returns-clause-faultless c =
    let laws : Laws = record { apart = c.sfen_laws.ensures.apart; lines = c.sfen_laws.ensures.lines; moves = c.move_laws.ensures } in
    no_first_fault laws
