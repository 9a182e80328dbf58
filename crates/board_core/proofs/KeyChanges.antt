-- How a key changes with one cell, with a hand, and with the side to move.
use Rattle.std.proofs.Common.{◌≡◌, ◌<◌, ◌≤◌, ◌+◌, ◌-◌, ◌*◌, ◌/◌, ◌%◌, ◌^◌, ◌==◌, ℕ, zero, suc, List, [], ◌∷◌, Option, None, false, length, take, drop, slice_set, slice_index_or, arith, refl, ap, sym, subst, ◌∙◌, length-drop, inl, inr}
use Rattle.std.proofs.lemmas.Bool.{cases_order, eq-eqb}
use Rattle.std.proofs.lemmas.Nat.{mul-le}
use Rattle.std.proofs.lemmas.List.{length-take, take-set-le, drop-set-lt, drop-set-add, get_or-take, get_or-drop}
use Rattle.std.proofs.Math.Seq.{take-set-lt}
use Rattle.std.proofs.Math.Nat.{mul_assoc, mul_comm, div-add-mod, pow-le-pow_right}
use Rattle.bit_boards.specs.declared.piece.Piece.{Piece}
use Rattle.bit_boards.specs.declared.piece.Kind.{Kind}
use Rattle.bit_boards.specs.declared.piece.Kind.TheVariants.{Pawn, Lance, Knight, Silver, Gold, Bishop, Rook, King}
use Rattle.bit_boards.specs.declared.piece.Side.{Side}
use Rattle.bit_boards.specs.declared.piece.Side.TheVariants.{Black, White}
use Rattle.bit_boards.specs.Kind.{other}
use Rattle.board_core.specs.Board.{Board, piece_at, hand_count, hand_of, with_more, with_less, with_cell, with_hand, with_turn_passed}
use Rattle.board_core.specs.Kept.{IsKept}
use Rattle.board_core.specs.Key.{code_of, packed_cells, key_word, hand_code, one_code, one_in_hand, side_bit, hands_word, key_of}
use Rattle.board_core.proofs.Cells.{piece_at-get_or, length-set}
use Rattle.board_core.proofs.Packing.{code_small, five_more, packed_below}
use Rattle.board_core.proofs.KeyExact.{seven, hand_small, modest_black, modest_white}

-- a square five bits further counts 32 times as much
five_times : (i c : ℕ) → 2 ^ (5 * suc i) * c ≡ 32 * (2 ^ (5 * i) * c)
five_times i c = ap (λ (m : ℕ). m * c) (five_more i) ∙ mul_assoc 32 (2 ^ (5 * i)) c

-- squares in a word change with one of them by what it held and holds
packed_cells-set : (cells : List (Option Piece)) (i : ℕ) (v : Option Piece) → i < length cells
    → packed_cells (slice_set cells i v) + 2 ^ (5 * i) * code_of (piece_at cells i) ≡ packed_cells cells + 2 ^ (5 * i) * code_of v
packed_cells-set [] i v h = absurd (omega arith)
packed_cells-set (x ∷ xs) zero v h = omega arith
packed_cells-set (x ∷ xs) (suc i) v h =
    let others = packed_cells-set xs i v (omega arith) in
    omega (arith, five_times i (code_of (piece_at xs i)), five_times i (code_of v))

-- a code among the twelve of a word is small
placed_small : (i c : ℕ) → i < 12 → c < 32 → c * 2 ^ (5 * i) < 2 ^ 60
placed_small i c within small =
    let bits : 2 ^ (5 * i) ≤ 2 ^ 55 = pow-le-pow_right {n = 2} (omega arith) {i = 5 * i} {j = 55} (omega arith) in
    let most : c * 2 ^ (5 * i) ≤ 31 * 2 ^ 55 = mul-le c (2 ^ (5 * i)) 31 (2 ^ 55) (omega arith) bits in
    omega arith

-- a small number more and another less, without what overflows
difference : (w x a b : ℕ) → w < 2 ^ 60 → x < 2 ^ 60 → a < 2 ^ 60 → b < 2 ^ 60 → x + b ≡ w + a
    → ((w + a % 18446744073709551616) % 18446744073709551616 + (18446744073709551616 - b % 18446744073709551616)) % 18446744073709551616 ≡ x
difference w x a b before after more less e = omega arith

-- a word changes by the difference of two codes
pub word_changed : (cells : List (Option Piece)) (i word : ℕ) (taken put : Option Piece) → length cells ≤ 12 → i < length cells
    → word ≡ packed_cells cells → piece_at cells i ≡ taken
    → ((word + code_of put * 2 ^ (5 * i) % 18446744073709551616) % 18446744073709551616
    + (18446744073709551616 - code_of taken * 2 ^ (5 * i) % 18446744073709551616)) % 18446744073709551616 ≡ packed_cells (slice_set cells i put)
word_changed cells i word taken put long within e held =
    let inside : i < 12 = omega arith in
    let changes = rw held at (packed_cells-set cells i put within) in
    let after : packed_cells (slice_set cells i put) < 2 ^ 60 = packed_below (slice_set cells i put) 12 (omega (arith, length-set cells i put)) in
    let before : packed_cells cells < 2 ^ 60 = packed_below cells 12 long in
    difference word (packed_cells (slice_set cells i put)) (code_of put * 2 ^ (5 * i)) (code_of taken * 2 ^ (5 * i))
    (omega arith) after (placed_small i (code_of put) inside (code_small put)) (placed_small i (code_of taken) inside (code_small taken))
    (omega (arith, mul_comm (code_of put) (2 ^ (5 * i)), mul_comm (code_of taken) (2 ^ (5 * i))))

-- the words of other squares stay
key_word-set_other : (cells : List (Option Piece)) (m n j : ℕ) (v : Option Piece) → j < 12 → (m == n) ≡ false
    → key_word (slice_set cells (12 * n + j) v) m ≡ key_word cells m
unfolding key_word
key_word-set_other cells m n j v within apart = elim (cases_order m n) [
  | inl same ↦ absurd (let e = eq-eqb m n same in cc)
  | inr differ ↦ elim differ [
    | inl below ↦
        let far : 12 * n + j ≡ 12 * m + (12 * n + j - 12 * m) = omega arith in
        let later = drop-set-add (12 * m) cells (12 * n + j - 12 * m) v in
        rw (far, later, take-set-le 12 (drop (12 * m) cells) (12 * n + j - 12 * m) v (omega arith)) refl
    | inr above ↦ rw (drop-set-lt (12 * m) cells (12 * n + j) v (omega arith)) refl
  ]
]

-- the word of the square is that of its twelve squares with it changed
key_word-set : (cells : List (Option Piece)) (n j : ℕ) (v : Option Piece) → j < 12
    → key_word (slice_set cells (12 * n + j) v) n ≡ packed_cells (slice_set (take 12 (drop (12 * n) cells)) j v)
unfolding key_word
key_word-set cells n j v within =
    ap (λ (xs : List (Option Piece)). packed_cells (take 12 xs)) (drop-set-add (12 * n) cells j v) ∙ ap packed_cells (take-set-lt 12 (drop (12 * n) cells) j v within)

-- the word of a number in a key
key_of-word : (b : Board) (n : ℕ) → n < 7 → slice_index_or (key_of b) n 0 ≡ key_word b.cells n
unfolding key_of
key_of-word b zero h = refl
key_of-word b (suc zero) h = refl
key_of-word b (suc (suc zero)) h = refl
key_of-word b (suc (suc (suc zero))) h = refl
key_of-word b (suc (suc (suc (suc zero)))) h = refl
key_of-word b (suc (suc (suc (suc (suc zero))))) h = refl
key_of-word b (suc (suc (suc (suc (suc (suc zero)))))) h = refl
key_of-word b (suc (suc (suc (suc (suc (suc (suc n))))))) h = absurd (omega arith)

-- a key with one word changed is that of a board that differs in the squares of that word alone
key_of-set : (b c : Board) (n word : ℕ) → n < 7 → word ≡ key_word c.cells n
    → ((m : ℕ) → (m == n) ≡ false → key_word c.cells m ≡ key_word b.cells m) → hands_word c ≡ hands_word b
    → slice_set (key_of b) n word ≡ key_of c
unfolding key_of
key_of-set b c zero word h e o w = rw (e, o 1 refl, o 2 refl, o 3 refl, o 4 refl, o 5 refl, o 6 refl, w) refl
key_of-set b c (suc zero) word h e o w = rw (e, o 0 refl, o 2 refl, o 3 refl, o 4 refl, o 5 refl, o 6 refl, w) refl
key_of-set b c (suc (suc zero)) word h e o w = rw (e, o 0 refl, o 1 refl, o 3 refl, o 4 refl, o 5 refl, o 6 refl, w) refl
key_of-set b c (suc (suc (suc zero))) word h e o w = rw (e, o 0 refl, o 1 refl, o 2 refl, o 4 refl, o 5 refl, o 6 refl, w) refl
key_of-set b c (suc (suc (suc (suc zero)))) word h e o w = rw (e, o 0 refl, o 1 refl, o 2 refl, o 3 refl, o 5 refl, o 6 refl, w) refl
key_of-set b c (suc (suc (suc (suc (suc zero))))) word h e o w = rw (e, o 0 refl, o 1 refl, o 2 refl, o 3 refl, o 4 refl, o 6 refl, w) refl
key_of-set b c (suc (suc (suc (suc (suc (suc zero)))))) word h e o w = rw (e, o 0 refl, o 1 refl, o 2 refl, o 3 refl, o 4 refl, o 5 refl, w) refl
key_of-set b c (suc (suc (suc (suc (suc (suc (suc n))))))) word h e o w = absurd (omega arith)

-- what the calls for a word of squares say of any squares
abbrev pub ChangesWord : ℕ → ℕ → ℕ → Option Piece → Option Piece → Type 0
ChangesWord word changed place taken put = (cells : List (Option Piece)) → length cells ≤ 12 → place < length cells → word ≡ packed_cells cells
    → piece_at cells place ≡ taken → changed ≡ packed_cells (slice_set cells place put)

piece_at-part : (cells : List (Option Piece)) (n j : ℕ) → j < 12 → piece_at (take 12 (drop (12 * n) cells)) j ≡ piece_at cells (12 * n + j)
piece_at-part cells n j within =
    sym (piece_at-get_or (take 12 (drop (12 * n) cells)) j) ∙ (get_or-take 12 (drop (12 * n) cells) j None within
    ∙ (get_or-drop (12 * n) cells j None ∙ piece_at-get_or cells (12 * n + j)))

-- a key with the word of a square changed is that of the board with the square changed
key_replaced : (b : Board) (n j changed : ℕ) (taken put : Option Piece) → length b.cells ≡ 81 → 12 * n + j < 81 → j < 12
    → piece_at b.cells (12 * n + j) ≡ taken → ChangesWord (slice_index_or (key_of b) n 0) changed j taken put
    → slice_set (key_of b) n changed ≡ key_of (with_cell b (12 * n + j) put)
unfolding key_word
key_replaced b n j changed taken put long within inside held changes =
    let low : n < 7 = omega arith in
    let part : List (Option Piece) = take 12 (drop (12 * n) b.cells) in
    let size = length-take 12 (drop (12 * n) b.cells) in
    let left = length-drop (12 * n) b.cells in
    key_of-set b (with_cell b (12 * n + j) put) n changed low
    (changes part (omega (arith, size)) (omega (arith, size, left)) (key_of-word b n low) (piece_at-part b.cells n j inside ∙ held)
    ∙ sym (key_word-set b.cells n j put inside))
    (λ m apart. key_word-set_other b.cells m n j put inside apart) refl

pub key_of-with_cell : (b : Board) (square changed : ℕ) (taken put : Option Piece) (words : List ℕ) → length b.cells ≡ 81 → square < 81
    → words ≡ key_of b → piece_at b.cells square ≡ taken → ChangesWord (slice_index_or words (square / 12) 0) changed (square % 12) taken put
    → slice_set words (square / 12) changed ≡ key_of (with_cell b square put)
key_of-with_cell b square changed taken put words long within e held changes =
    let is : 12 * (square / 12) + square % 12 ≡ square = div-add-mod square 12 in
    let known : ChangesWord (slice_index_or (key_of b) (square / 12) 0) changed (square % 12) taken put =
    subst (λ (ws : List ℕ). ChangesWord (slice_index_or ws (square / 12) 0) changed (square % 12) taken put) e changes in
    let there : piece_at b.cells (12 * (square / 12) + square % 12) ≡ taken = rw is held in
    ap (λ (ws : List ℕ). slice_set ws (square / 12) changed) e
    ∙ (key_replaced b (square / 12) (square % 12) changed taken put long (omega arith) (omega arith) there known
    ∙ ap (λ (s : ℕ). key_of (with_cell b s put)) is)

-- a hand of seven counts with one more of a kind, and with one less
more_of_seven : (p l n s g b r : ℕ) (k : Kind)
    → hand_code (with_more (p ∷ l ∷ n ∷ s ∷ g ∷ b ∷ r ∷ []) k) ≡ hand_code (p ∷ l ∷ n ∷ s ∷ g ∷ b ∷ r ∷ []) + one_code k
unfolding hand_code
more_of_seven p l n s g b r Pawn = omega arith
more_of_seven p l n s g b r Lance = omega arith
more_of_seven p l n s g b r Knight = omega arith
more_of_seven p l n s g b r Silver = omega arith
more_of_seven p l n s g b r Gold = omega arith
more_of_seven p l n s g b r Bishop = omega arith
more_of_seven p l n s g b r Rook = omega arith
more_of_seven p l n s g b r King = omega arith

less_of_seven : (p l n s g b r : ℕ) (k : Kind) → 0 < hand_count (p ∷ l ∷ n ∷ s ∷ g ∷ b ∷ r ∷ []) k
    → hand_code (with_less (p ∷ l ∷ n ∷ s ∷ g ∷ b ∷ r ∷ []) k) + one_code k ≡ hand_code (p ∷ l ∷ n ∷ s ∷ g ∷ b ∷ r ∷ [])
unfolding hand_code
less_of_seven p l n s g b r Pawn h = omega arith
less_of_seven p l n s g b r Lance h = omega arith
less_of_seven p l n s g b r Knight h = omega arith
less_of_seven p l n s g b r Silver h = omega arith
less_of_seven p l n s g b r Gold h = omega arith
less_of_seven p l n s g b r Bishop h = omega arith
less_of_seven p l n s g b r Rook h = omega arith
less_of_seven p l n s g b r King h = omega arith

hand_code-with_more : (hand : List ℕ) (k : Kind) → length hand ≡ 7 → hand_code (with_more hand k) ≡ hand_code hand + one_code k
hand_code-with_more hand k long =
    subst (λ (h : List ℕ). hand_code (with_more h k) ≡ hand_code h + one_code k) (sym (seven hand long)) (more_of_seven _ _ _ _ _ _ _ k)

hand_code-with_less : (hand : List ℕ) (k : Kind) → length hand ≡ 7 → 0 < hand_count hand k
    → hand_code (with_less hand k) + one_code k ≡ hand_code hand
hand_code-with_less hand k long =
    subst (λ (h : List ℕ). 0 < hand_count h k → hand_code (with_less h k) + one_code k ≡ hand_code h) (sym (seven hand long)) (less_of_seven _ _ _ _ _ _ _ k)

-- the last word with one more of a kind in a hand, with one less, and with the other side to move
hands_word-more : (b : Board) (side : Side) (k : Kind) → IsKept b
    → hands_word (with_hand b side (with_more (hand_of b side) k)) ≡ hands_word b + one_in_hand side k
hands_word-more b Black k kept = omega (arith, hand_code-with_more b.black k kept.black)
hands_word-more b White k kept = omega (arith, hand_code-with_more b.white k kept.white)

hands_word-less : (b : Board) (side : Side) (k : Kind) → IsKept b → 0 < hand_count (hand_of b side) k
    → hands_word (with_hand b side (with_less (hand_of b side) k)) + one_in_hand side k ≡ hands_word b
hands_word-less b Black k kept some = omega (arith, hand_code-with_less b.black k kept.black some)
hands_word-less b White k kept some = omega (arith, hand_code-with_less b.white k kept.white some)

side_bit_small : (side : Side) → side_bit side ≤ 1
side_bit_small Black = omega arith
side_bit_small White = omega arith

hands_word_small : (b : Board) → IsKept b → hands_word b < 2 ^ 43
hands_word_small b kept =
    omega (arith, hand_small b.black (modest_black b kept), hand_small b.white (modest_white b kept), side_bit_small b.side)

one_code_small : (k : Kind) → one_code k ≤ 2 ^ 19
one_code_small Pawn = omega arith
one_code_small Lance = omega arith
one_code_small Knight = omega arith
one_code_small Silver = omega arith
one_code_small Gold = omega arith
one_code_small Bishop = omega arith
one_code_small Rook = omega arith
one_code_small King = omega arith

one_in_hand_small : (side : Side) (k : Kind) → one_in_hand side k ≤ 2 ^ 40
one_in_hand_small Black k = omega (arith, one_code_small k)
one_in_hand_small White k = omega (arith, one_code_small k)

-- a key with the last word changed is that of a board that differs in hands and side alone
key_of-set_last : (b c : Board) (word : ℕ) → c.cells ≡ b.cells → word ≡ hands_word c → slice_set (key_of b) 7 word ≡ key_of c
unfolding key_of
key_of-set_last b c word same e = rw (same, e) refl

key_of-last : (b : Board) → slice_index_or (key_of b) 7 0 ≡ hands_word b
unfolding key_of
key_of-last b = refl

-- so much more in the last word, without what overflows
pub more_in_last : (b c : Board) (more : ℕ) (words : List ℕ) → words ≡ key_of b → c.cells ≡ b.cells → (hands_word b + more) % 18446744073709551616 ≡ hands_word c
    → slice_set words 7 ((slice_index_or words 7 0 + more) % 18446744073709551616) ≡ key_of c
more_in_last b c more words e same becomes =
    subst (λ (ws : List ℕ). slice_set ws 7 ((slice_index_or ws 7 0 + more) % 18446744073709551616) ≡ key_of c) (sym e)
    (key_of-set_last b c ((slice_index_or (key_of b) 7 0 + more) % 18446744073709551616) same (rw (key_of-last b) becomes))

pub key_of-more : (b : Board) (side : Side) (k : Kind) (words : List ℕ) → IsKept b → words ≡ key_of b
    → slice_set words 7 ((slice_index_or words 7 0 + one_in_hand side k) % 18446744073709551616) ≡ key_of (with_hand b side (with_more (hand_of b side) k))
key_of-more b side k words kept e =
    more_in_last b (with_hand b side (with_more (hand_of b side) k)) (one_in_hand side k) words e refl
    (omega (arith, hands_word-more b side k kept, hands_word_small b kept, one_in_hand_small side k))

pub key_of-less : (b : Board) (side : Side) (k : Kind) (words : List ℕ) → IsKept b → words ≡ key_of b → 0 < hand_count (hand_of b side) k
    → slice_set words 7 ((slice_index_or words 7 0 + (18446744073709551616 - one_in_hand side k)) % 18446744073709551616) ≡ key_of (with_hand b side (with_less (hand_of b side) k))
key_of-less b side k words kept e some =
    more_in_last b (with_hand b side (with_less (hand_of b side) k)) (18446744073709551616 - one_in_hand side k) words e refl
    (omega (arith, hands_word-less b side k kept some, hands_word_small b kept, one_in_hand_small side k))

pub key_of-white_moves : (b : Board) (words : List ℕ) → IsKept b → words ≡ key_of b → b.side ≡ Black
    → slice_set words 7 ((slice_index_or words 7 0 + 4398046511104) % 18446744073709551616) ≡ key_of (with_turn_passed b)
key_of-white_moves b words kept e turn =
    let was : side_bit b.side ≡ 0 = ap side_bit turn in
    let is : side_bit (other b.side) ≡ 1 = ap (λ (s : Side). side_bit (other s)) turn in
    more_in_last b (with_turn_passed b) 4398046511104 words e refl (omega (arith, hands_word_small b kept))

pub key_of-black_moves : (b : Board) (words : List ℕ) → IsKept b → words ≡ key_of b → b.side ≡ White
    → slice_set words 7 ((slice_index_or words 7 0 + 18446739675663040512) % 18446744073709551616) ≡ key_of (with_turn_passed b)
key_of-black_moves b words kept e turn =
    let was : side_bit b.side ≡ 1 = ap side_bit turn in
    let is : side_bit (other b.side) ≡ 0 = ap (λ (s : Side). side_bit (other s)) turn in
    more_in_last b (with_turn_passed b) 18446739675663040512 words e refl (omega (arith, hands_word_small b kept))
