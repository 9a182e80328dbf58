-- What the characters of a line with a move name.
use Rattle.std.specs.Prelude.{ℕ, List, [], ◌∷◌, Bool, Option, Some, None, nat_le, if◌then◌else◌}
use Rattle.bit_boards.specs.Square.{square_on}
use Rattle.kif_text.specs.Characters.{is, number_of}

-- Whether a character is a space.
abbrev pub is_space : ℕ → Bool
is_space c = is c " "

-- The number that an ASCII digit names, one to nine.
abbrev pub digit_of : ℕ → Option ℕ
digit_of c =
    if is c "1" then Some 1 else (if is c "2" then Some 2 else (if is c "3" then Some 3 else (
    if is c "4" then Some 4 else (if is c "5" then Some 5 else (if is c "6" then Some 6 else (
    if is c "7" then Some 7 else (if is c "8" then Some 8 else (if is c "9" then Some 9 else
    None))))))))

-- The file that a full-width digit names, one to nine.
abbrev pub file_of : ℕ → Option ℕ
file_of c =
    if is c "１" then Some 1 else (if is c "２" then Some 2 else (if is c "３" then Some 3 else (
    if is c "４" then Some 4 else (if is c "５" then Some 5 else (if is c "６" then Some 6 else (
    if is c "７" then Some 7 else (if is c "８" then Some 8 else (if is c "９" then Some 9 else
    None))))))))

-- A number, where there is one and it is at most nine.
abbrev pub up_to_nine : Option ℕ → Option ℕ
up_to_nine None = None
up_to_nine (Some n) = if nat_le n 9 then Some n else None

-- The row that a numeral names, one to nine.
abbrev pub row_of : ℕ → Option ℕ
row_of c = up_to_nine (number_of c)

-- The square of a file and a row, where both are there.
abbrev pub square_of : Option ℕ → Option ℕ → Option ℕ
square_of None row = None
square_of (Some file) None = None
square_of (Some file) (Some row) = Some (square_on file row)

-- What stands behind the characters in front that pass a test.
abbrev pub past : (ℕ → Bool) → List ℕ → List ℕ
past test [] = []
past test (c ∷ more) = if test c then past test more else c ∷ more

-- Whether a word is over: nothing more comes, or a space.
abbrev pub is_over : List ℕ → Bool
is_over [] = Bool.true
is_over (c ∷ more) = is_space c
