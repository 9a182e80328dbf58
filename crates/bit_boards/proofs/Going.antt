-- The table of going is what the movement of the pieces says, by computing it.
use Rattle.std.proofs.Common.{◌≡◌, ℕ, ◌+◌, ◌-◌, ◌*◌, ◌<◌, ◌%◌, ◌/◌, ◌||◌, ◌==◌, Bool, true, false, [], get_or, refl}
use Rattle.std.specs.Int.{bit_at}
use Rattle.std.proofs.lemmas.Bool.{agree_below, agree_below_at}
use Rattle.bit_boards.specs.declared.piece.Kind.{Kind}
use Rattle.bit_boards.specs.declared.piece.Kind.TheVariants.{Pawn, Lance, Knight, Silver, Gold, Bishop, Rook, King}
use Rattle.bit_boards.specs.declared.piece.Side.{Side}
use Rattle.bit_boards.specs.declared.piece.Side.TheVariants.{Black, White}
use Rattle.bit_boards.specs.declared.tables.TheConstants.{GOING}
use Rattle.bit_boards.specs.Gait.{row_of_side}
use Rattle.bit_boards.specs.Going.{row_of_face}
use Rattle.bit_boards.specs.Kind.{place_of}
use Rattle.bit_boards.specs.Movement.{steps, slides, distance}
use Rattle.bit_boards.specs.Square.{height}

-- a piece of the side and kind, promoted or not, goes from the one square to the other
abbrev pub going : Side → Kind → Bool → ℕ → ℕ → Bool
going side kind promoted from to =
    steps kind promoted (distance (from / 9) (to / 9)) (height side from) (height side to)
    || slides kind promoted (distance (from / 9) (to / 9)) (height side from) (height side to)

-- what the table has for two squares
abbrev pub bits_for : ℕ → ℕ → ℕ
bits_for from to = get_or (get_or GOING (to / 9 + 8 - from / 9) []) (to % 9 + 8 - from % 9) 0

-- the bit of a piece
abbrev pub place_by : Side → Kind → Bool → ℕ
place_by side kind promoted = 16 * row_of_side side + 8 * row_of_face promoted + place_of kind

abbrev told : Side → Kind → Bool → ℕ → ℕ → Bool
told side kind promoted from to = bit_at (bits_for from to) (place_by side kind promoted) == 1

going_is : (side : Side) (k : Kind) (p : Bool)
    → agree_below (λ x. agree_below (told side k p x) (going side k p x) 81) (λ _. true) 81 ≡ true
going_is Black Pawn false = refl
going_is Black Pawn true = refl
going_is Black Lance false = refl
going_is Black Lance true = refl
going_is Black Knight false = refl
going_is Black Knight true = refl
going_is Black Silver false = refl
going_is Black Silver true = refl
going_is Black Gold false = refl
going_is Black Gold true = refl
going_is Black Bishop false = refl
going_is Black Bishop true = refl
going_is Black Rook false = refl
going_is Black Rook true = refl
going_is Black King false = refl
going_is Black King true = refl
going_is White Pawn false = refl
going_is White Pawn true = refl
going_is White Lance false = refl
going_is White Lance true = refl
going_is White Knight false = refl
going_is White Knight true = refl
going_is White Silver false = refl
going_is White Silver true = refl
going_is White Gold false = refl
going_is White Gold true = refl
going_is White Bishop false = refl
going_is White Bishop true = refl
going_is White Rook false = refl
going_is White Rook true = refl
going_is White King false = refl
going_is White King true = refl

pub goes_as_told : (side : Side) (k : Kind) (p : Bool) (from to : ℕ) → from < 81 → to < 81
    → (bit_at (bits_for from to) (place_by side k p) == 1) ≡ going side k p from to
goes_as_told side k p from to hf ht =
    agree_below_at (told side k p from) (going side k p from) 81 to
    (agree_below_at (λ x. agree_below (told side k p x) (going side k p x) 81) (λ _. true) 81 from (going_is side k p) hf) ht
