-- What spells hands is read as them.
use Rattle.std.proofs.Common.{◌≡◌, ◌≢◌, inl, inr, ℕ, zero, suc, ◌+◌, ◌/◌, ◌%◌, ◌<◌, ◌≤◌, Bool, true, false, cond, eqb, ltb, List, [], ◌∷◌, ◌++◌, length, get_or, Some, None, Ok, refl, sym, ap, subst, ◌∙◌, arith, get_or-set_same, get_or-set_other}
use Rattle.std.specs.Prelude.{slice_set, slice_index, ◌&&◌}
use Rattle.std.specs.List.{flat_map}
use Rattle.std.proofs.lemmas.Bool.{eq-eqb, ltb-true, ltb-false}
use Rattle.std.proofs.lemmas.Bool.Decides.{eqb_tells}
use Rattle.std.proofs.lemmas.List.{ext_get_or, length-set}
use Rattle.bit_boards.specs.declared.piece.Kind.{Kind}
use Rattle.bit_boards.specs.declared.piece.Kind.TheVariants.{Pawn, Lance, Knight, Silver, Gold, Bishop, Rook, King}
use Rattle.bit_boards.specs.declared.piece.Side.{Side}
use Rattle.bit_boards.specs.declared.piece.Side.TheVariants.{Black, White}
use Rattle.board_core.specs.Laws.{PlacesInHand}
use Rattle.bit_boards.specs.Kind.{place_of, same_side, same_kind}
use Rattle.board_core.specs.Board.{hand_count}
use Rattle.sfen_text.specs.Pieces.{letter_of}
use Rattle.sfen_text.specs.Spells.{HandItem, count_digits, hand_item_text, counts_for, one_count, ItemsHold, HandsSpell}
use Rattle.sfen_text.specs.Hands.{Items, item, items, hands_with, hands_of, empty_hand}
use Rattle.sfen_text.proofs.PiecesAgain.{letter_plain}
use Rattle.sfen_text.proofs.HandsAgain.{digit_step, letter_step}
use Rattle.sfen_text.proofs.BytesAgain.{ArePlain, both_plain, low_plain}
use Rattle.sfen_text.proofs.TextAgain.{dash_again}

pub one_of : (n : ℕ) → 1 ≤ n → one_count n ≡ n ∷ []
one_of zero le = absurd (omega arith)
one_of (suc n) le = refl

-- A count that is put into an empty place of a hand, or stands among the items yet.
pub put_same : (hand : List ℕ) (p q n : ℕ) (more : List ℕ) → p < length hand → slice_index hand p ≡ 0 → 1 ≤ n
    → one_count (slice_index hand q) ++ (cond (eqb p q) (n ∷ []) [] ++ more) ≡ one_count (slice_index (slice_set hand p n) q) ++ more
put_same hand p q n more lt empty some = elim (eqb_tells p q) [
  | inl t ↦
      let there : slice_index hand q ≡ 0 = ap (slice_index hand) (sym t.1) ∙ empty in
      let put : slice_index (slice_set hand p n) q ≡ n = ap (slice_index (slice_set hand p n)) (sym t.1) ∙ get_or-set_same hand p n 0 lt in
      rw (t.0, there, put, one_of n some) refl
  | inr f ↦
      let kept : slice_index (slice_set hand p n) q ≡ slice_index hand q = get_or-set_other hand p q n 0 (λ e. f.1 (sym e)) in
      rw (f.0, kept) refl
]

-- Of what a hand so far and the items hold, the hand that comes of it.
abbrev pub Fits : Side → List HandItem → List ℕ → List ℕ → Type 0
Fits side list hand final = (kind : Kind) → kind ≢ King → one_count (hand_count hand kind) ++ counts_for side kind list ≡ one_count (hand_count final kind)

was_none : (a n m : ℕ) (more : List ℕ) → one_count a ++ n ∷ more ≡ one_count m → a ≡ 0
was_none zero n m more e = refl
was_none (suc a) n zero more e = absurd cc
was_none (suc a) n (suc m) more e = absurd (let t = ap length e in omega (arith, t))

-- ---- what is spelled is read

counted : (at n : ℕ) (side : Side) (kind : Kind) (text : List ℕ) → 1 ≤ n → n ≤ 18 → kind ≢ King
    → (next : ℕ) × (letter : ℕ) × (items at None at ((count_digits n ++ letter_of side kind ∷ []) ++ text) ≡ item letter n side kind (items next None next text)) × (next ≡ at + length (count_digits n ++ letter_of side kind ∷ [])) × (letter ≡ at + length (count_digits n))
counted at n side kind text from to h = go (ltb n 10) refl where
  go : (b : Bool) → ltb n 10 ≡ b → (next : ℕ) × (letter : ℕ) × (items at None at ((count_digits n ++ letter_of side kind ∷ []) ++ text) ≡ item letter n side kind (items next None next text)) × (next ≡ at + length (count_digits n ++ letter_of side kind ∷ [])) × (letter ≡ at + length (count_digits n))
  go true t = (at + 1 + 1, at + 1, rw t (digit_step at None at n n (letter_of side kind ∷ text) (omega (arith, ltb-true n 10 t)) (omega arith) from to ∙ letter_step at (Some n) (at + 1) side kind text h), rw t (omega arith), rw t (omega arith))
  go false f = (at + 1 + 1 + 1, at + 1 + 1, rw f (digit_step at None at (n / 10) 1 ((48 + n % 10) ∷ letter_of side kind ∷ text) (omega arith) (omega (arith, ltb-false n 10 f)) (omega arith) (omega arith) ∙ digit_step at (Some 1) (at + 1) (n % 10) n (letter_of side kind ∷ text) (omega arith) (omega (arith, ltb-false n 10 f)) from to ∙ letter_step at (Some n) (at + 1 + 1) side kind text h), rw f (omega arith), rw f (omega arith))

-- Behind an item that is read the next begins.
abbrev pub next_at : ℕ → HandItem → ℕ
next_at at i = at + length (hand_item_text i)

pub item_read : (i : HandItem) (at : ℕ) (text : List ℕ) → items at None at (hand_item_text i ++ text) ≡ item (at + length i.digits) i.count i.side i.kind (items (next_at at i) None (next_at at i) text)
item_read i at text = elim i.spelled [
  | inl e ↦
      let read = counted at i.count i.side i.kind text i.some i.few i.no_king in
      placed read.0 read.1 (ap (λ (ds : List ℕ). items at None at ((ds ++ letter_of i.side i.kind ∷ []) ++ text)) e ∙ read.2) (read.3 ∙ ap (λ (ds : List ℕ). at + length (ds ++ letter_of i.side i.kind ∷ [])) (sym e)) (read.4 ∙ ap (λ (ds : List ℕ). at + length ds) (sym e))
  | inr e ↦
      placed (at + 1) at (ap (λ (ds : List ℕ). items at None at ((ds ++ letter_of i.side i.kind ∷ []) ++ text)) e.1 ∙ letter_step at None at i.side i.kind text i.no_king ∙ ap (λ (k : ℕ). item at k i.side i.kind (items (at + 1) None (at + 1) text)) (sym e.0))
      (ap (λ (ds : List ℕ). at + length (ds ++ letter_of i.side i.kind ∷ [])) (sym e.1)) (omega (arith, ap length e.1))
] where
  placed : (next letter : ℕ) → items at None at (hand_item_text i ++ text) ≡ item letter i.count i.side i.kind (items next None next text) → next ≡ next_at at i → letter ≡ at + length i.digits
      → items at None at (hand_item_text i ++ text) ≡ item (at + length i.digits) i.count i.side i.kind (items (next_at at i) None (next_at at i) text)
  placed next letter e n l = e ∙ ap (λ (k : ℕ). item k i.count i.side i.kind (items next None next text)) l ∙ ap (λ (k : ℕ). item (at + length i.digits) i.count i.side i.kind (items k None k text)) n

step_read : PlacesInHand → (side : Side) (kind : Kind) (n letter : ℕ) (rest : Items) (more : Side → Kind → List ℕ) (black white b w : List ℕ) → kind ≢ King → 1 ≤ n → length b ≡ 7 → length w ≡ 7
    → ((k : Kind) → k ≢ King → one_count (hand_count b k) ++ (cond (same_side side Black && same_kind kind k) (n ∷ []) [] ++ more Black k) ≡ one_count (hand_count black k))
    → ((k : Kind) → k ≢ King → one_count (hand_count w k) ++ (cond (same_side side White && same_kind kind k) (n ∷ []) [] ++ more White k) ≡ one_count (hand_count white k))
    → ((b w : List ℕ) → length b ≡ 7 → length w ≡ 7 → ((k : Kind) → k ≢ King → one_count (hand_count b k) ++ more Black k ≡ one_count (hand_count black k)) → ((k : Kind) → k ≢ King → one_count (hand_count w k) ++ more White k ≡ one_count (hand_count white k)) → hands_with b w rest ≡ Ok (black, white))
    → hands_with b w (item letter n side kind rest) ≡ Ok (black, white)
unfolding hands_with
step_read in_hand Black kind n letter rest more black white b w king some b7 w7 fb fw follow =
    let empty : hand_count b kind ≡ 0 = was_none (hand_count b kind) n (hand_count black kind) (more Black kind) (rw (eq-eqb (place_of kind) (place_of kind) refl) at (fb kind king)) in
    let in_hand : place_of kind < length b = omega (arith, b7, in_hand kind king) in
    rw empty (follow (slice_set b (place_of kind) n) w (length-set b (place_of kind) n ∙ b7) w7 (λ k h. sym (put_same b (place_of kind) (place_of k) n (more Black k) in_hand empty some) ∙ fb k h) fw)
step_read in_hand White kind n letter rest more black white b w king some b7 w7 fb fw follow =
    let empty : hand_count w kind ≡ 0 = was_none (hand_count w kind) n (hand_count white kind) (more White kind) (rw (eq-eqb (place_of kind) (place_of kind) refl) at (fw kind king)) in
    let in_hand : place_of kind < length w = omega (arith, w7, in_hand kind king) in
    rw empty (follow b (slice_set w (place_of kind) n) b7 (length-set w (place_of kind) n ∙ w7) fb (λ k h. sym (put_same w (place_of kind) (place_of k) n (more White k) in_hand empty some) ∙ fw k h))

same_count : (a b : ℕ) → one_count a ++ [] ≡ one_count b → a ≡ b
same_count zero zero e = refl
same_count zero (suc b) e = absurd cc
same_count (suc a) zero e = absurd cc
same_count (suc a) (suc b) e = cc

each_place : (P : ℕ → Type 0) → P 0 → P 1 → P 2 → P 3 → P 4 → P 5 → P 6 → (i : ℕ) → i < 7 → P i
each_place P a b c d e f g zero lt = a
each_place P a b c d e f g (suc zero) lt = b
each_place P a b c d e f g (suc (suc zero)) lt = c
each_place P a b c d e f g (suc (suc (suc zero))) lt = d
each_place P a b c d e f g (suc (suc (suc (suc zero)))) lt = e
each_place P a b c d e f g (suc (suc (suc (suc (suc zero))))) lt = f
each_place P a b c d e f g (suc (suc (suc (suc (suc (suc zero)))))) lt = g
each_place P a b c d e f g (suc (suc (suc (suc (suc (suc (suc i))))))) lt = absurd (omega arith)

same_hand : (hand final : List ℕ) → length hand ≡ 7 → length final ≡ 7 → ((k : Kind) → k ≢ King → hand_count hand k ≡ hand_count final k) → hand ≡ final
same_hand hand final h7 f7 each = ext_get_or 0 hand final (h7 ∙ sym f7) (λ i lt. each_place (λ i. get_or hand i 0 ≡ get_or final i 0) (each Pawn (λ e. cc)) (each Lance (λ e. cc)) (each Knight (λ e. cc)) (each Silver (λ e. cc)) (each Gold (λ e. cc)) (each Bishop (λ e. cc)) (each Rook (λ e. cc)) i (omega (arith, lt, h7)))

items_read : PlacesInHand → (list : List HandItem) (black white b w : List ℕ) (at : ℕ) → length black ≡ 7 → length white ≡ 7 → length b ≡ 7 → length w ≡ 7 → Fits Black list b black → Fits White list w white
    → hands_with b w (items at None at (flat_map hand_item_text list)) ≡ Ok (black, white)
unfolding hands_with items
items_read in_hand [] black white b w at bl7 wh7 b7 w7 fb fw =
    let of_black : b ≡ black = same_hand b black b7 bl7 (λ k h. same_count (hand_count b k) (hand_count black k) (fb k h)) in
    let of_white : w ≡ white = same_hand w white w7 wh7 (λ k h. same_count (hand_count w k) (hand_count white k) (fw k h)) in
    rw (of_black, of_white) refl
items_read in_hand (i ∷ list) black white b w at bl7 wh7 b7 w7 fb fw =
    ap (hands_with b w) (item_read i at (flat_map hand_item_text list)) ∙ step_read in_hand i.side i.kind i.count (at + length i.digits) (items (next_at at i) None (next_at at i) (flat_map hand_item_text list)) (λ side kind. counts_for side kind list) black white b w i.no_king i.some b7 w7 fb fw
    (λ b w b7 w7 fb fw. items_read in_hand list black white b w (next_at at i) bl7 wh7 b7 w7 fb fw)

digits_plain : (n : ℕ) → 1 ≤ n → n ≤ 18 → ArePlain (count_digits n)
digits_plain n some few = go (ltb n 10) refl where
  go : (b : Bool) → ltb n 10 ≡ b → ArePlain (cond b ((48 + n) ∷ []) ((48 + n / 10) ∷ (48 + n % 10) ∷ []))
  go true e = (low_plain (48 + n) (omega arith) (omega (arith, ltb-true n 10 e)) (λ d. omega arith), tt)
  go false e = (low_plain (48 + n / 10) (omega arith) (omega arith) (λ d. omega arith), (low_plain (48 + n % 10) (omega arith) (omega arith) (λ d. omega arith), tt))

pub item_plain : (i : HandItem) → ArePlain (hand_item_text i)
item_plain i = both_plain i.digits (letter_of i.side i.kind ∷ []) (elim i.spelled [
  | inl e ↦ subst ArePlain (sym e) (digits_plain i.count i.some i.few)
  | inr e ↦ subst ArePlain (sym e.1) tt
]) ((letter_plain i.side i.kind).0, tt)

pub items_plain : (list : List HandItem) → ArePlain (flat_map hand_item_text list)
items_plain [] = tt
items_plain (i ∷ list) = both_plain (hand_item_text i) (flat_map hand_item_text list) (item_plain i) (items_plain list)

pub empty_held : (k : Kind) → k ≢ King → hand_count empty_hand k ≡ 0
empty_held Pawn h = refl
empty_held Lance h = refl
empty_held Knight h = refl
empty_held Silver h = refl
empty_held Gold h = refl
empty_held Bishop h = refl
empty_held Rook h = refl
empty_held King h = absurd (h refl)

from_empty : (side : Side) (list : List HandItem) (hand : List ℕ) → ItemsHold side list hand → Fits side list empty_hand hand
from_empty side list hand hold k h = rw (empty_held k h) (hold k h)

pub spelled_hands : PlacesInHand → (text black white : List ℕ) (at : ℕ) → length black ≡ 7 → length white ≡ 7 → HandsSpell text black white → hands_of at text ≡ Ok (black, white)
spelled_hands in_hand text black white at b7 w7 spells =
    let list = spells.0 in
    ap (hands_of at) spells.1 ∙ dash_again (flat_map hand_item_text list) at (black, white) (items_plain list)
    (items_read in_hand list black white empty_hand empty_hand at b7 w7 refl refl (from_empty Black list black spells.2) (from_empty White list white spells.3))
