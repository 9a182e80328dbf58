-- The parts, one behind the other.
use Rattle.std.proofs.Common.{append_assoc}
use Rattle.usi_session.specs.Texts.{option_line}
use Rattle.usi_session.proofs.texts.put_option.Goals as goal

pub returns : goal.returns
unfolding option_line
returns c =
    rw (
      c.in_ok-push.ensures.items,
      c.in_ok-put_numbered-3.ensures,
      c.in_ok-put_numbered-2.ensures,
      c.in_ok-put_numbered.ensures,
      c.in_ok-extend_from_slice-2.ensures.items,
      c.in_ok-extend_from_slice.ensures.items,
      c.name_of.ensures,
      c.first_number.ensures,
      c.least_of.ensures,
      c.most_of.ensures,
    ) (simp append_assoc)
