use Rattle.std.proofs.Common.{◌≡◌, ◌<◌, ℕ, Some, slice_get}
use Rattle.board_core.specs.declared.moves.Move.{Move}
use Rattle.shogi_rules.specs.Rules.{after}
use Rattle.notes.specs.Derivation.{Derivation}
use Rattle.notes.specs.Valid.{Says}
use Rattle.fact_tests.proofs.checked.say_each.Given as goal

abbrev pub invariant-loop-at : goal.invariant-loop-at
invariant-loop-at l = (i : ℕ) → i < l.at → (move : Move) (note : Derivation) → slice_get l.moves i ≡ Some move → slice_get l.notes i ≡ Some note
    → Says l.conclusion l.problem.position.side (after l.position move) note
