-- The moves before the rest were legal, each where it was made.
use Rattle.std.proofs.Common.{◌+◌, ◌≤◌, ℕ, length}
use Rattle.usi_session.specs.Fields.{fields_of}
use Rattle.usi_session.specs.Reading.{IsPlayedTo}
use Rattle.usi_session.proofs.playing.played.Given as goal

-- The moves so far, and that their number fits.
pub record SoFar (played : Type 0) (number left all : ℕ) : Type 0 where
  pub to : played
  pub fits : number + left ≤ all + 1

abbrev pub invariant-loop-field : goal.invariant-loop-field
invariant-loop-field l = SoFar (IsPlayedTo l.first.position (fields_of l.moves) l.position l.number (fields_of l.rest)) l.number (length l.rest) (length l.moves)

abbrev pub decreases-loop-field : goal.decreases-loop-field
decreases-loop-field l = length l.rest
