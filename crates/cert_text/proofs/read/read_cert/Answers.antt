use Rattle.cert_text.proofs.Again.{Laws, read_again, read_fault}
use Rattle.cert_text.proofs.read.read_cert.Goals as goal

pub returns-clause-again : goal.returns-clause-again
returns-clause-again c = λ certificate readable text.
    let laws : Laws = record { apart = c.sfen_laws.ensures.apart; lines = c.sfen_laws.ensures.lines; moves = c.move_laws.ensures } in
    read_again laws certificate c.args.bytes.now c.certificate_of.result readable text c.certificate_of.ensures

pub returns-clause-only : goal.returns-clause-only
returns-clause-only c = λ fault first.
    let laws : Laws = record { apart = c.sfen_laws.ensures.apart; lines = c.sfen_laws.ensures.lines; moves = c.move_laws.ensures } in
    read_fault laws fault c.args.bytes.now c.certificate_of.result first c.certificate_of.ensures
