use Rattle.std.proofs.Common.{refl, sym}
use Rattle.std.specs.Str.{chars}
use Rattle.kif_moves.specs.Steps.{last_number, way_seen}
use Rattle.kif_moves.proofs.Naming.{spoken_parts}
use Rattle.kif_moves.proofs.word.spoken_of.Goals as goal

pub returns : goal.returns
returns c = (
  record { to = c.in_ok-to.to.number; name = c.in_ok-name.name; way = way_seen c.in_ok-way.way },
  spoken_parts (last_number c.args.last) (chars c.args.word.now) c.in_ok-to.to.number (chars c.in_ok-to.rest.now) c.in_ok-name.name (chars c.in_ok-name.rest.now)
      (way_seen c.in_ok-way.way) c.in_ok-to.ensures.goal c.in_ok-name.ensures.name (sym c.in_ok-way.ensures),
  refl,
  c.move_of.ensures,
)
