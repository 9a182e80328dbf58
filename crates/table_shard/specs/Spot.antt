-- Where a table has a position.
use Rattle.std.specs.Prelude.{◌+◌, ◌*◌, ◌/◌, ◌%◌, ◌^◌, ℕ, List, fold, nat_lt, if◌then◌else◌}
use Rattle.board_core.specs.declared.keys.Key.{Key}
use Rattle.hand_dominance.specs.ByKey.{board_words}
use Rattle.table_shard.specs.declared.hash.Spot.{Spot}
use Rattle.table_shard.specs.declared.hash.TheConstants.{MULTIPLIER, MODULUS}

-- The hash after another word.
abbrev pub hashed : ℕ → ℕ → ℕ
hashed hash word = (hash + word) * MULTIPLIER % MODULUS

-- The hash of some words, the first first.
abbrev pub hash_over : List ℕ → ℕ
hash_over words = fold hashed 0 words

-- The hash of a key's words without the hands: keys of one board and side to move have one hash.
abbrev pub hash_of : List ℕ → ℕ
hash_of words = hash_over (board_words words)

-- Which of so many rows a key has. Keys of one board and side to move have one row.
abbrev pub place_of : Key → ℕ → ℕ
place_of key rows = hash_of key.0 % rows

-- The mark of a key's entry: the hash without its 32 lowest bits. Keys of one board and side to
-- move have one mark; others seldom have the same.
abbrev pub mark_of : Key → ℕ
mark_of key = hash_of key.0 / 2 ^ 32

-- Where a table of so many rows has a key's position.
abbrev pub spot_of : Key → ℕ → Spot
spot_of key rows = record { place = place_of key rows; mark = mark_of key }

-- The word that counts the visits below a slot of a key's row, in a table of so many rows: the
-- words of a row lie side by side, the first of the first row is word 0. What is no slot of the
-- eight has a word that no row has.
abbrev pub word_of : ℕ → Key → ℕ → ℕ
word_of rows key slot = if nat_lt slot 8 then 8 * place_of key rows + slot else 8 * rows
