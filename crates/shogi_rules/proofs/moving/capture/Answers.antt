use Rattle.shogi_rules.proofs.moving.capture.Goals as goal

pub gain-requires-clause-king : goal.gain-requires-clause-king
gain-requires-clause-king c = (c.requires c.in-Some.piece c.in-Some.is).0
