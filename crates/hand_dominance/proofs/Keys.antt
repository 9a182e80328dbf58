-- What the words of a key tell of its position.
use Rattle.std.proofs.Common.{◌≡◌, ◌≢◌, ◌<◌, ◌≤◌, ◌+◌, ◌*◌, ◌/◌, ◌%◌, ◌^◌, ℕ, List, [], ◌∷◌, Option, length, get_or, arith, refl, ap, sym, ◌∙◌, ◌↔◌}
use Rattle.std.specs.Prelude.{slice_index}
use Rattle.bit_boards.specs.declared.piece.Piece.{Piece}
use Rattle.bit_boards.specs.declared.piece.Kind.{Kind}
use Rattle.bit_boards.specs.declared.piece.Kind.TheVariants.{Pawn, Lance, Knight, Silver, Gold, Bishop, Rook, King}
use Rattle.bit_boards.specs.declared.piece.Side.{Side}
use Rattle.bit_boards.specs.declared.piece.Side.TheVariants.{Black, White}
use Rattle.bit_boards.specs.Kind.{other}
use Rattle.board_core.specs.declared.keys.Key.{Key}
use Rattle.board_core.specs.Board.{Board, hand_count, hand_of}
use Rattle.board_core.specs.Kept.{IsKept}
use Rattle.board_core.specs.Key.{key_word, hand_code, side_bit, hands_word, key_of}
use Rattle.board_core.proofs.KeyExact.{Modest, cells_exact, hand_small, modest_black, modest_white, seven}
use Rattle.hand_dominance.specs.Dominance.{Dominates}
use Rattle.hand_dominance.specs.ByKey.{count_in, HasAtLeast, bits_of, hand_in, board_words, without_hands, KeyDominates, KeysTellDominance}

-- 1. HANDS.

no_king : (hand : List ℕ) → length hand ≡ 7 → hand_count hand King ≡ 0
no_king hand long = ap (λ (h : List ℕ). hand_count h King) (seven hand long)

counts : (kind : Kind) (hand : List ℕ) → length hand ≡ 7 → Modest hand → count_in kind (hand_code hand) ≡ hand_count hand kind
unfolding hand_code
counts Pawn hand long few = omega (arith, few Pawn (λ q. absurd (cc)))
counts Lance hand long few = omega (arith, few Pawn (λ q. absurd (cc)), few Lance (λ q. absurd (cc)))
counts Knight hand long few = omega (arith, few Pawn (λ q. absurd (cc)), few Lance (λ q. absurd (cc)), few Knight (λ q. absurd (cc)))
counts Silver hand long few =
    omega (arith, few Pawn (λ q. absurd (cc)), few Lance (λ q. absurd (cc)), few Knight (λ q. absurd (cc)), few Silver (λ q. absurd (cc)))
counts Gold hand long few =
    omega (arith, few Pawn (λ q. absurd (cc)), few Lance (λ q. absurd (cc)), few Knight (λ q. absurd (cc)), few Silver (λ q. absurd (cc)), few Gold (λ q. absurd (cc)))
counts Bishop hand long few = omega (
  arith,
  few Pawn (λ q. absurd (cc)),
  few Lance (λ q. absurd (cc)),
  few Knight (λ q. absurd (cc)),
  few Silver (λ q. absurd (cc)),
  few Gold (λ q. absurd (cc)),
  few Bishop (λ q. absurd (cc)),
)
counts Rook hand long few = omega (
  arith,
  few Pawn (λ q. absurd (cc)),
  few Lance (λ q. absurd (cc)),
  few Knight (λ q. absurd (cc)),
  few Silver (λ q. absurd (cc)),
  few Gold (λ q. absurd (cc)),
  few Bishop (λ q. absurd (cc)),
  few Rook (λ q. absurd (cc)),
)
counts King hand long few = sym (no_king hand long)

bits_black : (b : Board) → IsKept b → bits_of Black (hands_word b) ≡ hand_code b.black
bits_black b kept = let small = hand_small b.black (modest_black b kept) in omega (arith, small)

bits_white : (b : Board) → IsKept b → bits_of White (hands_word b) ≡ hand_code b.white
bits_white b kept =
    let black = hand_small b.black (modest_black b kept) in
    let white = hand_small b.white (modest_white b kept) in
    omega (arith, black, white)

last_word : (b : Board) → slice_index (key_of b) 7 ≡ hands_word b
unfolding key_of
last_word b = refl

-- how many of a kind a side has in hand
pub held : (b : Board) (key : Key) (side : Side) (kind : Kind) → IsKept b → key.0 ≡ key_of b → count_in kind (hand_in side key) ≡ hand_count (hand_of b side) kind
held b key Black kind kept is =
    ap (λ (words : List ℕ). count_in kind (bits_of Black (slice_index words 7))) is
    ∙ (ap (λ (word : ℕ). count_in kind (bits_of Black word)) (last_word b)
    ∙ (ap (count_in kind) (bits_black b kept) ∙ counts kind b.black kept.black (modest_black b kept)))
held b key White kind kept is =
    ap (λ (words : List ℕ). count_in kind (bits_of White (slice_index words 7))) is
    ∙ (ap (λ (word : ℕ). count_in kind (bits_of White word)) (last_word b)
    ∙ (ap (count_in kind) (bits_white b kept) ∙ counts kind b.white kept.white (modest_white b kept)))

-- as many of each kind that a hand can have
pub each_kind : (one two : ℕ) → count_in Pawn two ≤ count_in Pawn one → count_in Lance two ≤ count_in Lance one → count_in Knight two ≤ count_in Knight one
    → count_in Silver two ≤ count_in Silver one → count_in Gold two ≤ count_in Gold one → count_in Bishop two ≤ count_in Bishop one
    → count_in Rook two ≤ count_in Rook one → HasAtLeast one two
each_kind one two pawn lance knight silver gold bishop rook Pawn = pawn
each_kind one two pawn lance knight silver gold bishop rook Lance = lance
each_kind one two pawn lance knight silver gold bishop rook Knight = knight
each_kind one two pawn lance knight silver gold bishop rook Silver = silver
each_kind one two pawn lance knight silver gold bishop rook Gold = gold
each_kind one two pawn lance knight silver gold bishop rook Bishop = bishop
each_kind one two pawn lance knight silver gold bishop rook Rook = rook
each_kind one two pawn lance knight silver gold bishop rook King = omega arith

-- 2. THE BOARD.

-- the words of a board and a side to move
abbrev words_by : List (Option Piece) → Side → List ℕ
words_by cells side = key_word cells 0 ∷ key_word cells 1 ∷ key_word cells 2 ∷ key_word cells 3 ∷ key_word cells 4 ∷ key_word cells 5
    ∷ key_word cells 6 ∷ 2 ^ 42 * side_bit side ∷ []

turn_bit : (b : Board) → IsKept b → hands_word b / 2 ^ 42 ≡ side_bit b.side
turn_bit b kept =
    let black = hand_small b.black (modest_black b kept) in
    let white = hand_small b.white (modest_white b kept) in
    omega (arith, black, white)

words_of : (b : Board) → IsKept b → board_words (key_of b) ≡ words_by b.cells b.side
unfolding key_of
words_of b kept =
    ap (λ (turn : ℕ). key_word b.cells 0 ∷ key_word b.cells 1 ∷ key_word b.cells 2 ∷ key_word b.cells 3 ∷ key_word b.cells 4 ∷ key_word b.cells 5
    ∷ key_word b.cells 6 ∷ 2 ^ 42 * turn ∷ []) (turn_bit b kept)

side_by_bit : (one two : Side) → 2 ^ 42 * side_bit one ≡ 2 ^ 42 * side_bit two → one ≡ two
side_by_bit Black Black e = refl
side_by_bit Black White e = absurd (omega (arith, e))
side_by_bit White Black e = absurd (omega (arith, e))
side_by_bit White White e = refl

abbrev words_key : List ℕ → Key
words_key words = record { 0 = words }

-- keys without hands are the same where the boards and the sides to move are
same_without : (over under : Board) (high low : Key) → IsKept over → IsKept under → high.0 ≡ key_of over → low.0 ≡ key_of under
    → over.cells ≡ under.cells → over.side ≡ under.side → without_hands high ≡ without_hands low
same_without over under high low kept too is other_is cells side =
    ap words_key (ap board_words is
    ∙ (words_of over kept
    ∙ (ap (λ (c : List (Option Piece)). words_by c over.side) cells
    ∙ (ap (words_by under.cells) side
    ∙ (sym (words_of under too) ∙ sym (ap board_words other_is))))))

-- and else not
same_board : (over under : Board) (high low : Key) → IsKept over → IsKept under → high.0 ≡ key_of over → low.0 ≡ key_of under
    → without_hands high ≡ without_hands low → (over.cells ≡ under.cells) × (over.side ≡ under.side)
same_board over under high low kept too is other_is same =
    let words : words_by over.cells over.side ≡ words_by under.cells under.side =
    sym (words_of over kept) ∙ (sym (ap board_words is) ∙ (ap (λ (k : Key). k.0) same ∙ (ap board_words other_is ∙ words_of under too))) in
    let at = λ (n : ℕ). ap (λ (ws : List ℕ). get_or ws n 0) words in (
      cells_exact over.cells under.cells kept.cells too.cells (at 0) (at 1) (at 2) (at 3) (at 4) (at 5) (at 6),
      side_by_bit over.side under.side (at 7),
    )

-- 3. DOMINANCE.

dominates : (attacker : Side) (over under : Board) (high low : Key) → IsKept over → IsKept under → high.0 ≡ key_of over → low.0 ≡ key_of under
    → KeyDominates attacker high low → Dominates attacker over under
dominates attacker over under high low kept too is other_is d =
    let board = same_board over under high low kept too is other_is d.board in
    record {
      cells = board.0;
      turn = board.1;
      more = λ kind. omega (arith, d.more kind, held over high attacker kind kept is, held under low attacker kind too other_is);
      less = λ kind. omega (arith, d.less kind, held over high (other attacker) kind kept is, held under low (other attacker) kind too other_is);
    }

by_key : (attacker : Side) (over under : Board) (high low : Key) → IsKept over → IsKept under → high.0 ≡ key_of over → low.0 ≡ key_of under
    → Dominates attacker over under → KeyDominates attacker high low
by_key attacker over under high low kept too is other_is d = record {
  board = same_without over under high low kept too is other_is d.cells d.turn;
  more = λ kind. omega (arith, d.more kind, held over high attacker kind kept is, held under low attacker kind too other_is);
  less = λ kind. omega (arith, d.less kind, held over high (other attacker) kind kept is, held under low (other attacker) kind too other_is);
}

pub keys_tell : KeysTellDominance
keys_tell attacker over under high low kept too is other_is = (
  dominates attacker over under high low kept too is other_is,
  by_key attacker over under high low kept too is other_is,
)
