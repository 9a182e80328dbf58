-- How the faults of an SFEN text print.
use Rattle.std.specs.Prelude.{◌+◌, ℕ, List, [], ◌∷◌, ◌++◌, codes}
use Rattle.std.specs.Fmt.{decimal}
use Rattle.board_core.specs.declared.build.BadPosition.{BadPosition}
use Rattle.board_core.specs.declared.build.BadPosition.TheVariants.{TooMany, NoDefenderKing, TwoKings, DeadPiece, TwoPawns}
use Rattle.bit_boards.specs.Square.{file_of, row_of}
use Rattle.bit_boards.specs.Text.{kind_letter}
use Rattle.sfen_text.specs.declared.fault.TextFault.{TextFault}
use Rattle.sfen_text.specs.declared.fault.TextFault.TheVariants.{BadRow, BadPiece, BadSide, BadHand, HandTwice, Trailing, BadPosition as NoPosition}

-- What is wrong with a position, in words, with the kind's letter, the square as the USI protocol
-- writes it, or the file.
abbrev pub bad_position_text : BadPosition → List ℕ
bad_position_text (TooMany kind) = codes "too many " ++ kind_letter kind ∷ []
bad_position_text NoDefenderKing = codes "no defender king"
bad_position_text TwoKings = codes "two kings"
bad_position_text (DeadPiece square) = codes "dead piece at " ++ decimal (file_of square.number) ++ (96 + row_of square.number) ∷ []
bad_position_text (TwoPawns file) = codes "two pawns on file " ++ decimal file

-- What is wrong with a text, in words, with its place; or what is wrong with the position that it
-- spells.
abbrev pub fault_text : TextFault → List ℕ
fault_text (BadRow at) = codes "bad row at " ++ decimal at
fault_text (BadPiece at) = codes "bad piece at " ++ decimal at
fault_text (BadSide at) = codes "bad side at " ++ decimal at
fault_text (BadHand at) = codes "bad hand at " ++ decimal at
fault_text (HandTwice at) = codes "hand twice at " ++ decimal at
fault_text (Trailing at) = codes "trailing at " ++ decimal at
fault_text (NoPosition bad) = bad_position_text bad
