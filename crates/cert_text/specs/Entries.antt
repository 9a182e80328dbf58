-- The lines of a certificate that tell a problem or an entry.
use Rattle.std.specs.Prelude.{ℕ, List, [], ◌∷◌, ◌++◌, codes}
use Rattle.std.specs.Fmt.{decimal}
use Rattle.mate_facts.specs.declared.entry.MateEntry.{MateEntry}
use Rattle.board_core.specs.Board.{Board}
use Rattle.usi_text.specs.MoveText.{move_text}
use Rattle.sfen_text.specs.Spelling.{sfen_of}

-- A line: its text and a line feed.
abbrev pub line : List ℕ → List ℕ
line text = text ++ 10 ∷ []

-- The problem's line.
abbrev pub problem_line : Board → List ℕ
problem_line problem = line (codes "problem " ++ sfen_of problem)

-- A mate's entry: its rank, its move and its position, a space between.
abbrev pub mate_entry_text : MateEntry → List ℕ
mate_entry_text entry = line (decimal entry.rank.number ++ 32 ∷ move_text entry.by ++ 32 ∷ sfen_of entry.at)

-- An escape's entry: its position.
abbrev pub escape_entry_text : Board → List ℕ
escape_entry_text position = line (sfen_of position)
