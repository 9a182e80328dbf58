-- What a bound is, before anybody has checked it.
use Rattle.std.specs.Prelude.{ℕ, List, ◌∷◌, ◌++◌, map}
use Rattle.std.specs.Fmt.{decimal}
use Rattle.board_core.specs.Board.{Board}
use Rattle.sfen_text.specs.Spelling.{sfen_of}
use Rattle.cert_text.specs.Entries.{line}
use Rattle.cert_text.specs.Certificate.{Form, IsEntry}
use Rattle.bound_text.specs.declared.entry.BoundEntry.{BoundEntry}

-- A bound's entry: its number and its position, a space between.
abbrev pub bound_entry_text : BoundEntry → List ℕ
bound_entry_text entry = line (decimal entry.bound.number ++ 32 ∷ sfen_of entry.at)

-- The entries of a bound: each position is a problem with the same side to move as the bound's
-- problem.
abbrev pub bound_form : Board → Form BoundEntry
bound_form problem = record { Lists = λ entry. IsEntry problem entry.at; text_of = bound_entry_text; at = λ entry. entry.at }

-- The positions of a bound's entries.
abbrev pub bounded_in : List BoundEntry → List Board
bounded_in entries = map (λ entry. entry.at) entries
