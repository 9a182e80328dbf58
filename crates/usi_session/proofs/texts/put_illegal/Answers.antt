-- The parts, one behind the other.
use Rattle.std.proofs.Common.{append_assoc}
use Rattle.usi_session.proofs.texts.put_illegal.Goals as goal

pub returns : goal.returns
returns c = rw (c.in_ok-extend_from_slice.ensures.items, c.in_ok-push.ensures.items, c.in_ok-put_numbered.ensures) (simp append_assoc)
