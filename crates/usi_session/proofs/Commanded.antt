-- What a line says, by its first field and what stands behind it.
use Rattle.std.proofs.Common.{◌≡◌, inl, inr, ℕ, List, ◌∷◌, sym, ap, ◌∙◌, subst}
use Rattle.std.specs.Prelude.{codes}
use Rattle.usi_session.specs.Fields.{fields_of, behind_field}
use Rattle.usi_session.specs.Commands as commands
use Rattle.usi_session.specs.Commands.{CommandView, start_sfen, GiveMoves, IsFromStart, IsFromSfen, IsPositionLine, IsCommand, SaysNothing, IsProtocolOption}
use Rattle.usi_session.specs.Reading.{IsStartRead, IsPlace, IsPlaceRead}

-- Behind `startpos` stands what was read there.
pub place-from_start : (behind : List ℕ) (rest : List (List ℕ)) (c : CommandView) → fields_of behind ≡ codes "startpos" ∷ rest → IsStartRead rest c → IsPlaceRead behind c
place-from_start behind rest commands.Usi e read = read
place-from_start behind rest commands.IsReady e read = read
place-from_start behind rest (commands.SetOption setting number) e read = read
place-from_start behind rest commands.BadOption e read = read
place-from_start behind rest (commands.Position sfen moves) e read = inl (read.0, record { rest = rest; words = e; given = read.1 })
place-from_start behind rest (commands.GoMate millis) e read = read
place-from_start behind rest commands.OtherGo e read = read
place-from_start behind rest commands.Quit e read = read
place-from_start behind rest commands.Nothing e read = λ sfen moves place. none sfen moves place where
  none : (sfen : List ℕ) (moves : List (List ℕ)) → IsPlace behind sfen moves → ⊥
  none sfen moves (inl start) = let same : start.1.rest ≡ rest = (let both = sym start.1.words ∙ e in cc) in read moves (subst (λ l. GiveMoves l moves) same start.1.given)
  none sfen moves (inr from) = absurd (let both = sym from.word ∙ e in cc)

-- A line of a place is what was read there.
line-place : (line sfen : List ℕ) (moves : List (List ℕ)) → fields_of line ≡ codes "position" ∷ fields_of (behind_field line) → IsPlace (behind_field line) sfen moves → IsPositionLine line sfen moves
line-place line sfen moves e (inl start) =
    inl (start.0, record { rest = start.1.rest; words = e ∙ ap (λ (l : List (List ℕ)). codes "position" ∷ l) start.1.words; given = start.1.given })
line-place line sfen moves e (inr from) =
    inr (record { rest = from.rest; words = e ∙ ap (λ (l : List (List ℕ)). codes "position" ∷ l) from.word; up_to = from.up_to })

place-line : (line sfen : List ℕ) (moves : List (List ℕ)) → fields_of line ≡ codes "position" ∷ fields_of (behind_field line) → IsPositionLine line sfen moves → IsPlace (behind_field line) sfen moves
place-line line sfen moves e (inl start) =
    inl (start.0, record { rest = start.1.rest; words = (let both = sym e ∙ start.1.words in cc); given = start.1.given })
place-line line sfen moves e (inr from) =
    inr (record { rest = from.rest; word = (let both = sym e ∙ from.words in cc); up_to = from.up_to })

-- A line that begins with `position` says what was read behind it.
pub command-from_place : (line : List ℕ) (c : CommandView) → fields_of line ≡ codes "position" ∷ fields_of (behind_field line) → IsPlaceRead (behind_field line) c → IsCommand line c
command-from_place line commands.Usi e read = absurd read
command-from_place line commands.IsReady e read = absurd read
command-from_place line (commands.SetOption setting number) e read = absurd read
command-from_place line commands.BadOption e read = absurd read
command-from_place line (commands.Position sfen moves) e read = line-place line sfen moves e read
command-from_place line (commands.GoMate millis) e read = absurd read
command-from_place line commands.OtherGo e read = absurd read
command-from_place line commands.Quit e read = absurd read
command-from_place line commands.Nothing e read = record {
  no_usi = λ other. (let both = sym e ∙ other in cc);
  no_isready = λ other. (let both = sym e ∙ other in cc);
  no_quit = λ other. (let both = sym e ∙ other in cc);
  no_go = λ rest other. (let both = sym e ∙ other in cc);
  no_option = λ rest other. absurd (let both = sym e ∙ other in cc);
  no_position = λ sfen moves position. read sfen moves (place-line line sfen moves e position);
}
