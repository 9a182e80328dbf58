use Rattle.std.proofs.Common.{◌≡◌, ◌∷◌, ◌++◌, List, length}
use Rattle.std.specs.List.{flat_map}
use Rattle.board_core.specs.declared.moves.Move.{Move}
use Rattle.usi_text.specs.Lines.{spaced_move, AllHaveText}
use Rattle.cert_text.specs.Scan.{AreMoves}
use Rattle.cert_text.proofs.head.are_moves.Given as goal

abbrev pub invariant-loop-word : goal.invariant-loop-word
invariant-loop-word l = record { done : List Move; have_text : AllHaveText done; so_far : l.text ≡ flat_map spaced_move done ++ 32 ∷ l.rest; only : AreMoves l.text → AreMoves (32 ∷ l.rest) }

abbrev pub decreases-loop-word : goal.decreases-loop-word
decreases-loop-word l = length l.rest
