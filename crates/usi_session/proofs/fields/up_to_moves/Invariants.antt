-- None of the fields that were seen is `moves`.
use Rattle.usi_session.specs.Reading.{IsWalked}
use Rattle.std.proofs.Common.{length}
use Rattle.usi_session.proofs.fields.up_to_moves.Given as goal

abbrev pub invariant-loop-field : goal.invariant-loop-field
invariant-loop-field l = IsWalked l.text l.rest

abbrev pub decreases-loop-field : goal.decreases-loop-field
decreases-loop-field l = length l.rest
