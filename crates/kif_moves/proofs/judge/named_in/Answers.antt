use Rattle.kif_moves.proofs.judge.named_in.Goals as goal

pub returns : goal.returns
returns c = rw c.in_ok-behind_number.ensures.word c.spoken_of.ensures
