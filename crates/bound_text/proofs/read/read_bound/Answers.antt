use Rattle.bound_text.proofs.Entries.{Laws}
use Rattle.bound_text.proofs.Again.{read_again, read_fault}
use Rattle.bound_text.proofs.read.read_bound.Goals as goal

pub returns-clause-again : goal.returns-clause-again
returns-clause-again c = λ b readable text.
    let laws : Laws = record { apart = c.sfen_laws.ensures.apart; lines = c.sfen_laws.ensures.lines } in
    read_again laws c.args.problem.now.position b c.args.bytes.now c.bound_of.result readable text c.bound_of.ensures

pub returns-clause-only : goal.returns-clause-only
returns-clause-only c = λ line first.
    let laws : Laws = record { apart = c.sfen_laws.ensures.apart; lines = c.sfen_laws.ensures.lines } in
    read_fault laws c.args.problem.now.position c.args.bytes.now line c.bound_of.result first c.bound_of.ensures
