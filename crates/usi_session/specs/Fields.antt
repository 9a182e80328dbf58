-- The fields of a line: what stands between its spaces.
use Rattle.std.specs.Prelude.{◌≡◌, ◌≢◌, ◌⊎◌, ℕ, Bool, true, false, not, List, [], ◌∷◌, ◌++◌, length, drop, codes}
use Rattle.std.specs.List.{filter, slice_split, take_while, AllByRecursion}
use Rattle.sfen_text.specs.Bytes.{is_space}

-- Whether a text has a byte.
abbrev pub has_bytes : List ℕ → Bool
has_bytes [] = false
has_bytes (byte ∷ bytes) = true

-- The fields of a text: what stands between its spaces, wherever something does.
unfoldable pub fields_of : List ℕ → List (List ℕ)
fields_of text = filter has_bytes (slice_split is_space text)

-- A text without the spaces in front.
unfoldable pub bare : List ℕ → List ℕ
bare text = drop (length (take_while is_space text)) text

-- The first field of a text, without the spaces in front and up to the next one; empty where the
-- text has no field.
unfoldable pub first_field : List ℕ → List ℕ
first_field text = take_while (λ byte. not (is_space byte)) (bare text)

-- What stands behind the first field of a text.
unfoldable pub behind_field : List ℕ → List ℕ
behind_field text = drop (length (first_field text)) (bare text)

-- The field `moves`.
abbrev pub moves_word : List ℕ
moves_word = codes "moves"

-- None of the fields of a text is `moves`.
abbrev pub LacksMoves : List ℕ → Type 0
LacksMoves text = AllByRecursion (λ field. field ≢ moves_word) (fields_of text)

-- The text is this front, the field `moves`, the first one of that name, and these fields behind
-- it.
pub record IsCutAtMoves (text front : List ℕ) (moves : List (List ℕ)) : Type 0 where
  pub behind : List ℕ
  pub parts : text ≡ front ++ (moves_word ++ behind)
  pub fields : fields_of text ≡ fields_of front ++ moves_word ∷ moves
  pub those : fields_of behind ≡ moves
  pub first : LacksMoves front

-- The front is the text up to its first field `moves`, and these fields stand behind that; or no
-- field is `moves`, the front is all of the text, and nothing stands behind it.
abbrev pub GoesUpToMoves : List ℕ → List ℕ → List (List ℕ) → Type 0
GoesUpToMoves text front moves = IsCutAtMoves text front moves ⊎ (LacksMoves text × (front ≡ text) × (moves ≡ []))
