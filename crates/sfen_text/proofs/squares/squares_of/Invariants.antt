use Rattle.std.proofs.Common.{◌≡◌, ◌+◌, length}
use Rattle.sfen_text.specs.Signs.{squares, signs, filled_squares, in_front, IsFilling}
use Rattle.sfen_text.proofs.squares.squares_of.Given as goal

abbrev pub invariant-loop-rest : goal.invariant-loop-rest
invariant-loop-rest l = record {
  filling : IsFilling l.filling;
  place : l.here + length l.rest ≡ l.end;
  same : in_front (filled_squares l.filling) (squares l.end l.filling.further_rows l.filling.left (signs l.here l.rest)) ≡ squares l.end 8 9 (signs l.at l.text);
}

abbrev pub decreases-loop-rest : goal.decreases-loop-rest
decreases-loop-rest l = length l.rest
