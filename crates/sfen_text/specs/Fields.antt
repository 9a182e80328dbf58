-- The text within an input, and its fields: texts and their parts side by side, in no order of
-- reading.
use Rattle.std.specs.Prelude.{◌≡◌, ◌≤◌, ◌+◌, ℕ, List, [], ◌∷◌, ◌++◌, length, Bool, true, false, not}
use Rattle.std.specs.List.{list_all}
use Rattle.sfen_text.specs.Bytes.{is_space, is_blank}
use Rattle.sfen_text.specs.Spells.{IsFrontWord}

-- The text doesn't begin with a byte that passes the test.
abbrev pub BeginsWithNo : (ℕ → Bool) → List ℕ → Type 0
BeginsWithNo test text = (byte : ℕ) (behind : List ℕ) → text ≡ byte ∷ behind → test byte ≡ false

-- The text doesn't end with a byte that passes the test.
abbrev pub EndsWithNo : (ℕ → Bool) → List ℕ → Type 0
EndsWithNo test text = (front : List ℕ) (byte : ℕ) → text ≡ front ++ byte ∷ [] → test byte ≡ false

-- The text within an input, which begins at a place: the blanks in front are dropped, all of them,
-- then those at the end, and then the one word in front, where there is one.
pub record IsTextIn (input text : List ℕ) (at : ℕ) : Type 0 where
  pub before : List ℕ
  pub front : List ℕ
  pub after : List ℕ
  pub parts : input ≡ before ++ ((front ++ text) ++ after)
  pub is_before : list_all is_blank before ≡ true
  pub all_before : BeginsWithNo is_blank ((front ++ text) ++ after)
  pub is_after : list_all is_blank after ≡ true
  pub all_after : EndsWithNo is_blank (front ++ text)
  pub is_front : IsFrontWord front
  pub whole_front : (word behind : List ℕ) → IsFrontWord word → front ++ text ≡ word ++ behind → length word ≤ length front
  pub place : at ≡ length (before ++ front)

-- A field: its place, its bytes, and the text behind it.
pub record Field : Type 0 where
  pub at : ℕ
  pub text : List ℕ
  pub rest : List ℕ

-- A field of these parts.
abbrev pub field : ℕ → List ℕ → List ℕ → Field
field at text rest = record { at = at; text = text; rest = rest }

-- The place at which a field ends.
abbrev pub end_of : Field → ℕ
end_of field = field.at + length field.text

-- The first field of a text that begins at a place: it stands behind all the spaces in front, and
-- reaches to the next space or to the end. Where no byte stands behind the spaces it is empty.
pub record HasField (at : ℕ) (text : List ℕ) (first : Field) : Type 0 where
  pub spaces : List ℕ
  pub parts : text ≡ spaces ++ (first.text ++ first.rest)
  pub is_spaces : list_all is_space spaces ≡ true
  pub all_spaces : BeginsWithNo is_space (first.text ++ first.rest)
  pub no_space : list_all (λ byte. not (is_space byte)) first.text ≡ true
  pub whole : BeginsWithNo (λ byte. not (is_space byte)) first.rest
  pub place : first.at ≡ at + length spaces

-- The first five fields of an input, one behind the other, with their places in it: the board, the
-- side to move, the hands, the move number, and one more. Those that the input lacks are empty and
-- stand at the end of its text.
pub record FieldsOf (input : List ℕ) : Type 0 where
  pub text : List ℕ
  pub at : ℕ
  pub within : IsTextIn input text at
  pub board : Field
  pub side : Field
  pub hands : Field
  pub number : Field
  pub more : Field
  pub is_board : HasField at text board
  pub is_side : HasField (end_of board) board.rest side
  pub is_hands : HasField (end_of side) side.rest hands
  pub is_number : HasField (end_of hands) hands.rest number
  pub is_more : HasField (end_of number) number.rest more
