-- What is written for hands is read as these hands.
use Rattle.std.proofs.Common.{◌≡◌, ◌≢◌, inl, inr, ℕ, zero, suc, ◌+◌, ◌-◌, ◌*◌, ◌/◌, ◌%◌, ◌≤◌, Bool, true, false, eqb, ltb, List, [], ◌∷◌, ◌++◌, length, Option, Some, None, Ok, refl, sym, ap, ◌∙◌, append_assoc, arith}
use Rattle.std.specs.Prelude.{slice_set, nat_le, nat_lt, ◌&&◌, unwrap_or}
use Rattle.std.proofs.lemmas.Bool.{ltb-true, ltb-false}
use Rattle.std.proofs.lemmas.Bool.Decides.{eqb_tells, nat_tests}
use Rattle.std.proofs.lemmas.List.{append-nil}
use Rattle.std.specs.List.{flat_map}
use Rattle.bit_boards.specs.declared.piece.Kind.{Kind}
use Rattle.bit_boards.specs.declared.piece.Kind.TheVariants.{Pawn, Lance, Knight, Silver, Gold, Bishop, Rook, King}
use Rattle.bit_boards.specs.declared.piece.Side.{Side}
use Rattle.bit_boards.specs.declared.piece.Side.TheVariants.{Black, White}
use Rattle.bit_boards.specs.Kind.{place_of}
use Rattle.board_core.specs.Board.{hand_count}
use Rattle.sfen_text.specs.Pieces.{letter_of}
use Rattle.sfen_text.specs.Spelling.{count_text, held_text, hand_text}
use Rattle.sfen_text.specs.Hands.{item, items, hands_with, empty_hand}
use Rattle.sfen_text.specs.Bytes.{is_digit}
use Rattle.sfen_text.proofs.PiecesAgain.{letter_again}

digit_is : (d : ℕ) → d ≤ 9 → is_digit (48 + d) ≡ true
digit_is d le = grind (arith, nat_tests)

in_count : (n : ℕ) → 1 ≤ n → n ≤ 18 → (nat_lt 0 n && nat_le n 18) ≡ true
in_count n from to = grind (arith, nat_tests)

pub digit_step : (start : ℕ) (count : Option ℕ) (at d n : ℕ) (text : List ℕ) → d ≤ 9 → 10 * unwrap_or count 0 + d ≡ n → 1 ≤ n → n ≤ 18 → items start count at ((48 + d) ∷ text) ≡ items start (Some n) (at + 1) text
unfolding items
digit_step start count at d n text le e from to =
    let value : 10 * unwrap_or count 0 + (48 + d - 48) ≡ n = omega arith in
    rw (digit_is d le, value, in_count n from to) refl

pub letter_step : (start : ℕ) (count : Option ℕ) (at : ℕ) (side : Side) (kind : Kind) (text : List ℕ) → kind ≢ King → items start count at (letter_of side kind ∷ text) ≡ item at (unwrap_or count 1) side kind (items (at + 1) None (at + 1) text)
unfolding items
letter_step start count at Black Pawn text h = rw (letter_again Black Pawn) refl
letter_step start count at Black Lance text h = rw (letter_again Black Lance) refl
letter_step start count at Black Knight text h = rw (letter_again Black Knight) refl
letter_step start count at Black Silver text h = rw (letter_again Black Silver) refl
letter_step start count at Black Gold text h = rw (letter_again Black Gold) refl
letter_step start count at Black Bishop text h = rw (letter_again Black Bishop) refl
letter_step start count at Black Rook text h = rw (letter_again Black Rook) refl
letter_step start count at Black King text h = absurd (h refl)
letter_step start count at White Pawn text h = rw (letter_again White Pawn) refl
letter_step start count at White Lance text h = rw (letter_again White Lance) refl
letter_step start count at White Knight text h = rw (letter_again White Knight) refl
letter_step start count at White Silver text h = rw (letter_again White Silver) refl
letter_step start count at White Gold text h = rw (letter_again White Gold) refl
letter_step start count at White Bishop text h = rw (letter_again White Bishop) refl
letter_step start count at White Rook text h = rw (letter_again White Rook) refl
letter_step start count at White King text h = absurd (h refl)

-- An item that is written is read as that item.
item_again : (at n : ℕ) (side : Side) (kind : Kind) (text : List ℕ) → 1 ≤ n → n ≤ 18 → kind ≢ King
    → (next : ℕ) × (letter : ℕ) × (items at None at ((count_text n ++ letter_of side kind ∷ []) ++ text) ≡ item letter n side kind (items next None next text))
item_again at n side kind text from to h = elim (eqb_tells n 1) [
  | inl one ↦ (at + 1, at, rw one.0 (letter_step at None at side kind text h ∙ ap (λ (k : ℕ). item at k side kind (items (at + 1) None (at + 1) text)) (sym one.1)))
  | inr many ↦ several at n side kind text from to h many.0 (λ e. many.1 e)
] where
  several : (at n : ℕ) (side : Side) (kind : Kind) (text : List ℕ) → 1 ≤ n → n ≤ 18 → kind ≢ King → eqb n 1 ≡ false → n ≢ 1
      → (next : ℕ) × (letter : ℕ) × (items at None at ((count_text n ++ letter_of side kind ∷ []) ++ text) ≡ item letter n side kind (items next None next text))
  several at n side kind text from to h e apart = go (ltb n 10) refl where
    go : (b : Bool) → ltb n 10 ≡ b → (next : ℕ) × (letter : ℕ) × (items at None at ((count_text n ++ letter_of side kind ∷ []) ++ text) ≡ item letter n side kind (items next None next text))
    go true t = (at + 1 + 1, at + 1, rw (e, t) (digit_step at None at n n (letter_of side kind ∷ text) (omega (arith, ltb-true n 10 t)) (omega arith) from to ∙ letter_step at (Some n) (at + 1) side kind text h))
    go false f = (at + 1 + 1 + 1, at + 1 + 1, rw (e, f) (digit_step at None at (n / 10) 1 ((48 + n % 10) ∷ letter_of side kind ∷ text) (omega arith) (omega (arith, ltb-false n 10 f)) (omega arith) (omega arith) ∙ digit_step at (Some 1) (at + 1) (n % 10) n (letter_of side kind ∷ text) (omega arith) (omega (arith, ltb-false n 10 f)) from to ∙ letter_step at (Some n) (at + 1 + 1) side kind text h))

-- ---- hands

black_step : (black white : List ℕ) (kind : Kind) (n at : ℕ) (text : List ℕ) → kind ≢ King → n ≤ 18 → hand_count black kind ≡ 0 → slice_set black (place_of kind) 0 ≡ black
    → (next : ℕ) × (hands_with black white (items at None at (held_text Black kind n ++ text)) ≡ hands_with (slice_set black (place_of kind) n) white (items next None next text))
unfolding hands_with
black_step black white k zero at text king le empty same = (at, rw same refl)
black_step black white k (suc n) at text king le empty same =
    let read = item_again at (suc n) Black k text (omega arith) le king in
    (read.0, rw (read.2, empty) refl)

white_step : (black white : List ℕ) (kind : Kind) (n at : ℕ) (text : List ℕ) → kind ≢ King → n ≤ 18 → hand_count white kind ≡ 0 → slice_set white (place_of kind) 0 ≡ white
    → (next : ℕ) × (hands_with black white (items at None at (held_text White kind n ++ text)) ≡ hands_with black (slice_set white (place_of kind) n) (items next None next text))
unfolding hands_with
white_step black white k zero at text king le empty same = (at, rw same refl)
white_step black white k (suc n) at text king le empty same =
    let read = item_again at (suc n) White k text (omega arith) le king in
    (read.0, rw (read.2, empty) refl)

-- What is in hand of these kinds, one after the other.
abbrev put_all : List Kind → List ℕ → List ℕ → List ℕ
put_all [] hand so_far = so_far
put_all (kind ∷ kinds) hand so_far = put_all kinds hand (slice_set so_far (place_of kind) (hand_count hand kind))

abbrev AreReady : List Kind → List ℕ → List ℕ → Type 0
AreReady [] hand so_far = Unit {0}
AreReady (kind ∷ kinds) hand so_far = (kind ≢ King) × (hand_count so_far kind ≡ 0) × (slice_set so_far (place_of kind) 0 ≡ so_far) × AreReady kinds hand (slice_set so_far (place_of kind) (hand_count hand kind))

abbrev pub IsSmall : List ℕ → Type 0
IsSmall hand = (kind : Kind) → kind ≢ King → hand_count hand kind ≤ 18

black_kinds : (kinds : List Kind) (hand black white : List ℕ) (at : ℕ) (text : List ℕ) → IsSmall hand → AreReady kinds hand black
    → (next : ℕ) × (hands_with black white (items at None at (flat_map (λ kind. held_text Black kind (hand_count hand kind)) kinds ++ text)) ≡ hands_with (put_all kinds hand black) white (items next None next text))
black_kinds [] hand black white at text small ready = (at, refl)
black_kinds (kind ∷ kinds) hand black white at text small ready =
    let first = black_step black white kind (hand_count hand kind) at (flat_map (λ kind. held_text Black kind (hand_count hand kind)) kinds ++ text) ready.0 (small kind ready.0) ready.1 ready.2 in
    let others = black_kinds kinds hand (slice_set black (place_of kind) (hand_count hand kind)) white first.0 text small ready.3 in
    (others.0, ap (λ (t : List ℕ). hands_with black white (items at None at t)) (append_assoc (held_text Black kind (hand_count hand kind)) (flat_map (λ kind. held_text Black kind (hand_count hand kind)) kinds) text) ∙ first.1 ∙ others.1)

white_kinds : (kinds : List Kind) (hand black white : List ℕ) (at : ℕ) (text : List ℕ) → IsSmall hand → AreReady kinds hand white
    → (next : ℕ) × (hands_with black white (items at None at (flat_map (λ kind. held_text White kind (hand_count hand kind)) kinds ++ text)) ≡ hands_with black (put_all kinds hand white) (items next None next text))
white_kinds [] hand black white at text small ready = (at, refl)
white_kinds (kind ∷ kinds) hand black white at text small ready =
    let first = white_step black white kind (hand_count hand kind) at (flat_map (λ kind. held_text White kind (hand_count hand kind)) kinds ++ text) ready.0 (small kind ready.0) ready.1 ready.2 in
    let others = white_kinds kinds hand black (slice_set white (place_of kind) (hand_count hand kind)) first.0 text small ready.3 in
    (others.0, ap (λ (t : List ℕ). hands_with black white (items at None at t)) (append_assoc (held_text White kind (hand_count hand kind)) (flat_map (λ kind. held_text White kind (hand_count hand kind)) kinds) text) ∙ first.1 ∙ others.1)

abbrev written_kinds : List Kind
written_kinds = Rook ∷ Bishop ∷ Gold ∷ Silver ∷ Knight ∷ Lance ∷ Pawn ∷ []

ready : (hand : List ℕ) → AreReady written_kinds hand empty_hand
ready hand = (λ e. cc, refl, refl, (λ e. cc, refl, refl, (λ e. cc, refl, refl, (λ e. cc, refl, refl, (λ e. cc, refl, refl, (λ e. cc, refl, refl, (λ e. cc, refl, refl, tt)))))))

all_seven : (hand : List ℕ) → length hand ≡ 7 → put_all written_kinds hand empty_hand ≡ hand
all_seven (p ∷ l ∷ n ∷ s ∷ g ∷ b ∷ r ∷ []) e = refl
all_seven [] e = absurd (omega (arith, e))
all_seven (p ∷ []) e = absurd (omega (arith, e))
all_seven (p ∷ l ∷ []) e = absurd (omega (arith, e))
all_seven (p ∷ l ∷ n ∷ []) e = absurd (omega (arith, e))
all_seven (p ∷ l ∷ n ∷ s ∷ []) e = absurd (omega (arith, e))
all_seven (p ∷ l ∷ n ∷ s ∷ g ∷ []) e = absurd (omega (arith, e))
all_seven (p ∷ l ∷ n ∷ s ∷ g ∷ b ∷ []) e = absurd (omega (arith, e))
all_seven (p ∷ l ∷ n ∷ s ∷ g ∷ b ∷ r ∷ x ∷ xs) e = absurd (omega (arith, e))

pub both_again : (black white : List ℕ) (at : ℕ) → length black ≡ 7 → length white ≡ 7 → IsSmall black → IsSmall white
    → hands_with empty_hand empty_hand (items at None at (hand_text Black black ++ hand_text White white)) ≡ Ok (black, white)
unfolding hands_with items
both_again black white at b7 w7 bs ws =
    let first = black_kinds written_kinds black empty_hand empty_hand at (hand_text White white) bs (ready black) in
    let second = white_kinds written_kinds white black empty_hand first.0 [] ws (ready white) in
    let whole : hand_text White white ++ [] ≡ hand_text White white = append-nil (hand_text White white) in
    first.1 ∙ rw (all_seven black b7) (rw (whole, all_seven white w7) at second.1)
