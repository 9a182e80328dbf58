-- One more move was made.
use Rattle.std.proofs.Common.{arith}
use Rattle.usi_session.specs.Fields.{fields_of}
use Rattle.usi_session.proofs.Moved.{played-more}
use Rattle.usi_session.proofs.playing.played.Goals as goal

pub loop-field-preserved : goal.loop-field-preserved
loop-field-preserved c = record {
  to = played-more c.args.first.now.position c.loop-field.position c.apply-position.result (fields_of c.args.moves.now) (fields_of c.loop-field.rest.now)
      (fields_of c.in-Some.behind.now) c.loop-field.number c.in-Some.field.now c.in-Some-move_on.by
      c.loop-field.invariant.to c.in-Some.ensures.fields c.in-Some-move_on.ensures.found c.apply-position.ensures.position c.apply-position.ensures.quiet;
  fits = let shorter = c.in-Some.ensures.shorter in omega (arith, c.loop-field.invariant.fits);
}
