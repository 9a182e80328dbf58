use Rattle.evasions.specs.Before.{AreDropSquares}
use Rattle.evasions.proofs.counting.drop_squares.Given as goal

-- the squares of the drops of the kinds so far
abbrev pub invariant-loop-kind : goal.invariant-loop-kind
invariant-loop-kind l = AreDropSquares l.position l.kind-index l.squares
