-- The answers to a question for a mate (USI protocol: `checkmate`).
use Rattle.std.specs.Prelude.{ℕ, List, ◌∷◌, ◌++◌, codes}
use Rattle.std.specs.List.{AllByRecursion, flat_map}
use Rattle.board_core.specs.declared.moves.Move.{Move}
use Rattle.board_core.specs.Text.{HasText}
use Rattle.usi_text.specs.MoveText.{move_text}

-- A space and the move.
abbrev pub spaced_move : Move → List ℕ
spaced_move m = 32 ∷ move_text m

-- The answer that these moves mate: the word, then each move behind a space; no line feed.
abbrev pub mate_text : List Move → List ℕ
mate_text ms = codes "checkmate" ++ flat_map spaced_move ms

-- The answer that there is no mate; no line feed.
abbrev pub nomate_text : List ℕ
nomate_text = codes "checkmate nomate"

-- The answer that the time is over; no line feed.
abbrev pub timeout_text : List ℕ
timeout_text = codes "checkmate timeout"

-- Every move of the list has a text.
abbrev pub AllHaveText : List Move → Type 0
AllHaveText ms = AllByRecursion HasText ms
