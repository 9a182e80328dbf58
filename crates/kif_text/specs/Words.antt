-- The pieces in hand, as the text of a hand names them: items between blanks, each a kind's
-- character and a count.
use Rattle.std.specs.Prelude.{◌≡◌, ◌≢◌, ℕ, List, [], ◌∷◌, length, map, filter, replicate, is_some, Option, Some, None, nat_lt, unwrap_or, if◌then◌else◌, codes}
use Rattle.std.specs.List.{slice_split, sum_by}
use Rattle.std.specs.Str.{chars, encode_utf8_all}
use Rattle.bit_boards.specs.declared.piece.Kind.{Kind}
use Rattle.bit_boards.specs.declared.piece.Kind.TheVariants.{Pawn, Lance, Knight, Silver, Gold, Bishop, Rook}
use Rattle.bit_boards.specs.Kind.{same_kind}
use Rattle.kif_text.specs.declared.fault.KifFault.{KifFault}
use Rattle.kif_text.specs.declared.fault.KifFault.TheVariants.{BadHand, BadCount, HandTwice}
use Rattle.kif_text.specs.Characters.{kind_of, count_of, is_blank}
use Rattle.kif_text.specs.First.{HasFirst}

-- Those of some parts in which something stands.
abbrev pub some_of : List (List ℕ) → List (List ℕ)
some_of parts = filter (λ part. nat_lt 0 (length part)) parts

-- The words of a list of characters: what stands between its blanks, where something stands there.
unfoldable pub words : List ℕ → List (List ℕ)
words characters = some_of (slice_split is_blank characters)

-- The kind that a word's first character names.
abbrev pub word_kind : List ℕ → Option Kind
word_kind [] = None
word_kind (c ∷ more) = kind_of c

-- The count that a word's other characters name.
abbrev pub word_count : List ℕ → Option ℕ
word_count [] = None
word_count (c ∷ more) = count_of more

-- How many pieces of a kind there are where so many of another are named.
abbrev pub count_where : Kind → Option Kind → Option ℕ → ℕ
count_where wanted None count = 0
count_where wanted (Some named) count = if same_kind named wanted then unwrap_or count 0 else 0

-- How many pieces of a kind a word names.
abbrev pub count_in : Kind → List ℕ → ℕ
count_in kind word = count_where kind (word_kind word) (word_count word)

-- How many pieces of a kind words name.
unfoldable pub count_for : Kind → List (List ℕ) → ℕ
count_for kind list = sum_by (count_in kind) list

-- The hand that words name: its seven counts.
abbrev pub hand_with : List (List ℕ) → List ℕ
hand_with list = map (λ kind. count_for kind list) (Pawn ∷ Lance ∷ Knight ∷ Silver ∷ Gold ∷ Bishop ∷ Rook ∷ [])

-- The fault of a word in this line whose first character names this kind, or none, and whose others
-- name this count, or none: no kind, a kind that the words in front named already, or no count.
abbrev pub fault_of : ℕ → List (List ℕ) → Option Kind → Option ℕ → Option KifFault
fault_of line before None count = Some (BadHand line)
fault_of line before (Some kind) count =
    if nat_lt 0 (count_for kind before) then Some (HandTwice line) else (if is_some count then None else Some (BadCount line))

-- The word has the fault behind these words of the line.
abbrev pub HasWordFault : ℕ → List (List ℕ) → List ℕ → KifFault → Type 0
HasWordFault line before word fault = fault_of line before (word_kind word) (word_count word) ≡ Some fault

-- The text of a hand in this line has the fault: it isn't `なし`, and its first faulty word has it.
abbrev pub HasHandFault : ℕ → List ℕ → KifFault → Type 0
HasHandFault line text fault = (text ≢ encode_utf8_all (codes "なし")) × HasFirst (HasWordFault line) (words (chars text)) fault

-- The hand that a text names; the empty one where there is no text, and for `なし`, which names no
-- kind.
abbrev pub hand_of : Option (List ℕ) → List ℕ
hand_of None = replicate 7 0
hand_of (Some text) = hand_with (words (chars text))
