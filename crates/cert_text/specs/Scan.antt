-- What the loops over a front line and over the entries' lines have read: it serves private
-- functions alone, here and where lines of other entries are read.
use Rattle.std.specs.Prelude.{◌≡◌, ◌<◌, ◌↔◌, ℕ, List, [], ◌∷◌, ◌++◌, length, map}
use Rattle.std.specs.List.{flat_map}
use Rattle.std.specs.Ordering.{nat_cmp}
use Rattle.std.specs.Cmp.Lexicographic.{slice_cmp}
use Rattle.std.specs.declared.cmp.Ordering.TheVariants.{Less}
use Rattle.board_core.specs.declared.moves.Move.{Move}
use Rattle.usi_text.specs.Lines.{spaced_move, AllHaveText}
use Rattle.sfen_text.specs.Spelling.{sfen_of}
use Rattle.cert_text.specs.Certificate.{IsRising, Form}
use Rattle.cert_text.specs.Text.{entries_text}
use Rattle.cert_text.specs.Reading.{AreGood}

-- The text is moves, one or more, a space before each.
abbrev pub AreMoves : List ℕ → Type 0
AreMoves text = (moves : List Move) × (0 < length moves) × AllHaveText moves × (text ≡ flat_map spaced_move moves)

-- Where these bytes were the last, the next entry rises just where its SFEN text is greater.
abbrev pub Follows : {Entry : Type 0} → Form Entry → List Entry → List ℕ → Type 0
Follows {Entry} form entries last = (next : Entry) → (slice_cmp nat_cmp last (sfen_of (form.at next)) ≡ Less) ↔ IsRising (map form.at (entries ++ next ∷ []))

-- Good entries were read, the last with this SFEN text, and the rest is still to be read.
pub record HasRead {Entry : Type 0} (form : Form Entry) (bytes : List ℕ) (entries : List Entry) (rest last : List ℕ) : Type 0 where
  pub good : AreGood form entries
  pub so_far : bytes ≡ entries_text form entries ++ rest
  pub follows : Follows form entries last
