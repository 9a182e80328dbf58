-- What is true of all squares and kinds.
use Rattle.std.specs.Prelude.{◌≡◌, ◌≢◌, ◌<◌, Result}
use Rattle.bit_boards.specs.declared.square.Square.{Square}
use Rattle.bit_boards.specs.declared.piece.Kind.{Kind}
use Rattle.bit_boards.specs.declared.piece.Kind.TheVariants.{King}
use Rattle.bit_boards.specs.Kind.{place_of}
use Rattle.bit_boards.specs.Text.{kind_letter}
use Rattle.board_core.specs.declared.build.BadPosition.{BadPosition}
use Rattle.board_core.specs.Board.{Board}
use Rattle.board_core.specs.Build.{IsBuilt}

-- A law: no two squares have one number.
abbrev pub SquaresApart : Type 0
SquaresApart = (a b : Square) → a.number ≡ b.number → a ≡ b

-- A law: no two kinds have one place.
abbrev pub PlacesApart : Type 0
PlacesApart = (k l : Kind) → place_of k ≡ place_of l → k ≡ l

-- A law: the kinds that can stand in a hand have the first seven places.
abbrev pub PlacesInHand : Type 0
PlacesInHand = (k : Kind) → k ≢ King → place_of k < 7

-- A law: no two kinds have one letter.
abbrev pub LettersApart : Type 0
LettersApart = (k l : Kind) → kind_letter k ≡ kind_letter l → k ≡ l

-- A law: cells, hands and a side make one position, or have one first fault.
abbrev pub BuiltOnce : Type 0
BuiltOnce = (b : Board) (one two : Result Board BadPosition) → IsBuilt b one → IsBuilt b two → one ≡ two
