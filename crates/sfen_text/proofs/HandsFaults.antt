-- What is read of the hands' field is spelled there; and where it goes wrong, as a relation and as
-- it is read.
use Rattle.std.proofs.Common.{◌≡◌, ◌≢◌, ◌⊎◌, inl, inr, ℕ, zero, suc, ◌+◌, ◌-◌, ◌*◌, ◌/◌, ◌%◌, ltb, ◌<◌, ◌≤◌, Bool, true, false, cond, List, [], ◌∷◌, ◌++◌, length, Option, Some, None, Result, Ok, Err, refl, sym, ap, subst, ◌∙◌, append_assoc, arith}
use Rattle.std.specs.Prelude.{slice_set, nat_le, nat_lt, ◌&&◌, unwrap_or}
use Rattle.std.specs.List.{flat_map}
use Rattle.std.proofs.Math.Dec.{eqb-suc-zero}
use Rattle.std.proofs.lemmas.Bool.{and_parts, cases_Bool, eq-eqb, lt-ltb, and_right}
use Rattle.std.proofs.lemmas.Bool.Decides.{eqb_tells, nat_tests}
use Rattle.std.proofs.lemmas.List.{append-nil, nil_from_length, length-append, length-set, flat_map_more}
use Rattle.board_laws.proofs.Pieces.{not_the_king}
use Rattle.bit_boards.specs.declared.piece.Kind.{Kind}
use Rattle.bit_boards.specs.declared.piece.Kind.TheVariants.{Pawn, Lance, Knight, Silver, Gold, Bishop, Rook, King}
use Rattle.bit_boards.specs.declared.piece.Side.{Side}
use Rattle.bit_boards.specs.declared.piece.Side.TheVariants.{Black, White}
use Rattle.bit_boards.specs.declared.piece.Piece.{Piece}
use Rattle.board_core.specs.Laws.{PlacesInHand}
use Rattle.bit_boards.specs.Kind.{place_of, same_side, same_kind}
use Rattle.board_core.specs.Board.{hand_count}
use Rattle.sfen_text.specs.declared.fault.TextFault.{TextFault}
use Rattle.sfen_text.specs.declared.fault.TextFault.TheVariants as faults
use Rattle.sfen_text.specs.Bytes.{is_digit}
use Rattle.sfen_text.specs.Pieces.{letter_of, piece_of}
use Rattle.sfen_text.specs.Spelling.{or_dash}
use Rattle.sfen_text.specs.Spells.{HandItem, count_digits, hand_item_text, counts_for, one_count, ItemsHold, HandsSpell}
use Rattle.sfen_text.specs.Fields.{Field}
use Rattle.sfen_text.specs.Faults.{AreItemsUpTo, HasBadHand, HasLetterTwice}
use Rattle.sfen_text.specs.Hands.{Items, item, broken, items, is_byte, letter_item, value_with, IsCountSoFar, hands_with, hands_of, empty_hand}
use Rattle.sfen_text.proofs.BytesAgain.{ArePlain}
use Rattle.sfen_text.proofs.BoardSpelled.{plain_back}
use Rattle.sfen_text.proofs.HandsSpelled.{put_same, Fits, item_read, next_at, empty_held, items_plain}

-- ---- items

-- What a hand so far and these counts hold of a kind, is what the new hand and further counts hold.
abbrev Puts : (Kind → List ℕ) → (Kind → List ℕ) → List ℕ → List ℕ → Type 0
Puts counts further old new = (kind : Kind) → kind ≢ King → one_count (hand_count old kind) ++ counts kind ≡ one_count (hand_count new kind) ++ further kind

-- The counts of one item, and further ones.
abbrev with_one : Side → Kind → ℕ → Side → (Kind → List ℕ) → Kind → List ℕ
with_one side kind n of further k = cond (same_side side of && same_kind kind k) (n ∷ []) [] ++ further k

-- An item is put into a hand.
record Put (side : Side) (kind : Kind) (n letter : ℕ) (rest : Items) (more : Side → Kind → List ℕ) (b w : List ℕ) : Type 0 where
  black : List ℕ
  white : List ℕ
  black_size : length black ≡ 7
  white_size : length white ≡ 7
  read : hands_with b w (item letter n side kind rest) ≡ hands_with black white rest
  in_black : Puts (with_one side kind n Black (more Black)) (more Black) b black
  in_white : Puts (with_one side kind n White (more White)) (more White) w white

put : PlacesInHand → (side : Side) (kind : Kind) (n letter : ℕ) (rest : Items) (more : Side → Kind → List ℕ) (b w : List ℕ) → kind ≢ King → 1 ≤ n → length b ≡ 7 → length w ≡ 7
    → (side ≡ Black → hand_count b kind ≡ 0) → (side ≡ White → hand_count w kind ≡ 0) → Put side kind n letter rest more b w
unfolding hands_with
put in_hand Black kind n letter rest more b w king some b7 w7 black white = record {
  black = slice_set b (place_of kind) n;
  white = w;
  black_size = length-set b (place_of kind) n ∙ b7;
  white_size = w7;
  read = rw (black refl) refl;
  in_black = λ k h. put_same b (place_of kind) (place_of k) n (more Black k) (omega (arith, b7, in_hand kind king)) (black refl) some;
  in_white = λ k h. refl;
}
put in_hand White kind n letter rest more b w king some b7 w7 black white = record {
  black = b;
  white = slice_set w (place_of kind) n;
  black_size = b7;
  white_size = length-set w (place_of kind) n ∙ w7;
  read = rw (white refl) refl;
  in_black = λ k h. refl;
  in_white = λ k h. put_same w (place_of kind) (place_of k) n (more White k) (omega (arith, w7, in_hand kind king)) (white refl) some;
}

-- Of each kind one count at most stands in the hand and among these.
abbrev HasRoom : (Kind → List ℕ) → List ℕ → Type 0
HasRoom counts hand = (kind : Kind) → kind ≢ King → length (one_count (hand_count hand kind) ++ counts kind) ≤ 1

room_left : (a n : ℕ) (more : List ℕ) → length (one_count a ++ n ∷ more) ≤ 1 → a ≡ 0
room_left zero n more le = refl
room_left (suc a) n more le = absurd (omega (arith, le))

black_room : (side : Side) (kind : Kind) (n : ℕ) (further : Kind → List ℕ) (hand : List ℕ) → kind ≢ King → HasRoom (with_one side kind n Black further) hand → side ≡ Black → hand_count hand kind ≡ 0
black_room Black kind n further hand king room is = room_left (hand_count hand kind) n (further kind) (rw (eq-eqb (place_of kind) (place_of kind) refl) at (room kind king))
black_room White _ n further hand king room is = absurd cc

white_room : (side : Side) (kind : Kind) (n : ℕ) (further : Kind → List ℕ) (hand : List ℕ) → kind ≢ King → HasRoom (with_one side kind n White further) hand → side ≡ White → hand_count hand kind ≡ 0
white_room White kind n further hand king room is = room_left (hand_count hand kind) n (further kind) (rw (eq-eqb (place_of kind) (place_of kind) refl) at (room kind king))
white_room Black _ n further hand king room is = absurd cc

-- ---- a fault that is there is found

-- The items are read into the hands.
record Along (list : List HandItem) (b w : List ℕ) (at : ℕ) (rest : List ℕ) : Type 0 where
  black : List ℕ
  white : List ℕ
  read : hands_with b w (items at None at (flat_map hand_item_text list ++ rest)) ≡ hands_with black white (items (at + length (flat_map hand_item_text list)) None (at + length (flat_map hand_item_text list)) rest)
  in_black : Fits Black list b black
  in_white : Fits White list w white

along_more : (i : HandItem) (list : List HandItem) (b w : List ℕ) (at : ℕ) (rest : List ℕ)
    (one : Put i.side i.kind i.count (at + length i.digits) (items (next_at at i) None (next_at at i) (flat_map hand_item_text list ++ rest)) (λ side kind. counts_for side kind list) b w)
    → Along list one.black one.white (next_at at i) rest → Along (i ∷ list) b w at rest
along_more i list b w at rest one others =
    let behind = flat_map hand_item_text list in
    let place : next_at at i + length behind ≡ at + length (hand_item_text i ++ behind) = omega (arith, length-append (hand_item_text i) behind) in
    record {
      black = others.black;
      white = others.white;
      read = ap (λ (t : List ℕ). hands_with b w (items at None at t)) (append_assoc (hand_item_text i) behind rest)
          ∙ ap (hands_with b w) (item_read i at (behind ++ rest)) ∙ one.read ∙ others.read
          ∙ ap (λ (k : ℕ). hands_with others.black others.white (items k None k rest)) place;
      in_black = λ k h. one.in_black k h ∙ others.in_black k h;
      in_white = λ k h. one.in_white k h ∙ others.in_white k h;
    }

along : PlacesInHand → (list : List HandItem) (b w : List ℕ) (at : ℕ) (rest : List ℕ) → length b ≡ 7 → length w ≡ 7 → HasRoom (λ kind. counts_for Black kind list) b → HasRoom (λ kind. counts_for White kind list) w → Along list b w at rest
along in_hand [] b w at rest b7 w7 rb rw_ =
    let same : at + 0 ≡ at = omega arith in
    record { black = b; white = w; read = rw same refl; in_black = λ k h. append-nil (one_count (hand_count b k)); in_white = λ k h. append-nil (one_count (hand_count w k)) }
along in_hand (i ∷ list) b w at rest b7 w7 room_b room_w =
    let next = next_at at i in
    let one = put in_hand i.side i.kind i.count (at + length i.digits) (items next None next (flat_map hand_item_text list ++ rest)) (λ side kind. counts_for side kind list) b w i.no_king i.some b7 w7
    (black_room i.side i.kind i.count (λ kind. counts_for Black kind list) b i.no_king room_b) (white_room i.side i.kind i.count (λ kind. counts_for White kind list) w i.no_king room_w) in
    along_more i list b w at rest one (along in_hand list one.black one.white next rest one.black_size one.white_size
    (λ k h. subst (λ (xs : List ℕ). length xs ≤ 1) (one.in_black k h) (room_b k h)) (λ k h. subst (λ (xs : List ℕ). length xs ≤ 1) (one.in_white k h) (room_w k h)))

-- The digits of a count that is being read; none before its first digit.
abbrev so_far : Option ℕ → List ℕ
so_far None = []
so_far (Some count) = count_digits count

digits_more : (count : Option ℕ) (d v : ℕ) → IsCountSoFar count → v ≡ 10 * unwrap_or count 0 + d → 1 ≤ v → v ≤ 18 → d ≤ 9 → count_digits v ≡ so_far count ++ (48 + d) ∷ []
digits_more None d v is e some few le =
    let low : ltb v 10 ≡ true = lt-ltb v 10 (omega (arith, e, le)) in
    let same : v ≡ d = omega (arith, e) in
    rw low (ap (λ (x : ℕ). (48 + x) ∷ []) same)
digits_more (Some zero) d v is e some few le = absurd (omega (arith, is.0))
digits_more (Some (suc zero)) d v is e some few le =
    let high : ltb v 10 ≡ false = grind (arith, nat_tests, e) in
    let tens : 48 + v / 10 ≡ 49 = omega (arith, e, le) in
    let ones : 48 + v % 10 ≡ 48 + d = omega (arith, e, le) in
    rw (high, tens, ones) refl
digits_more (Some (suc (suc count))) d v is e some few le = absurd (omega (arith, e, few))

some_counted : (count : Option ℕ) → IsCountSoFar count → 1 ≤ unwrap_or count 1
some_counted None is = omega arith
some_counted (Some n) is = is.0

few_counted : (count : Option ℕ) → IsCountSoFar count → unwrap_or count 1 ≤ 18
few_counted None is = omega arith
few_counted (Some n) is = is.1

digits_spelled : (count : Option ℕ) → (so_far count ≡ count_digits (unwrap_or count 1)) ⊎ ((unwrap_or count 1 ≡ 1) × (so_far count ≡ []))
digits_spelled None = inr (refl, refl)
digits_spelled (Some n) = inl refl

-- The item of the digits so far and a letter.
abbrev item_with : (count : Option ℕ) (side : Side) (kind : Kind) → IsCountSoFar count → kind ≢ King → HandItem
item_with count side kind is king = record {
  digits = so_far count;
  count = unwrap_or count 1;
  side = side;
  kind = kind;
  some = some_counted count is;
  few = few_counted count is;
  no_king = king;
  spelled = digits_spelled count;
}

same_king : (k : Kind) → same_kind k King ≡ false → k ≢ King
same_king k f e = absurd (let t : same_kind k King ≡ true = ap (λ (j : Kind). same_kind j King) e in cc)

-- What stands first in a text of items, behind digits so far: an item, nothing, or no item.
data First (start : ℕ) (count : Option ℕ) (at : ℕ) (text : List ℕ) : Type 0 where
  an_item : (i : HandItem) (behind : List ℕ) → so_far count ++ text ≡ hand_item_text i ++ behind → First start count at text
  no_item : items start count at text ≡ broken start → First start count at text
  over : count ≡ None → text ≡ [] → First start count at text

letter_first : (start : ℕ) (count : Option ℕ) (at byte : ℕ) (text : List ℕ) (o : Option Piece) → IsCountSoFar count → piece_of byte ≡ o → items start count at (byte ∷ text) ≡ letter_item start at (unwrap_or count 1) o (items (at + 1) None (at + 1) text) → First start count at (byte ∷ text)
letter_first start count at byte text None so is e = no_item e
letter_first start count at byte text (Some p) so is e = go (same_kind p.kind King) refl e where
  go : (t : Bool) → same_kind p.kind King ≡ t → items start count at (byte ∷ text) ≡ cond t (broken start) (item at (unwrap_or count 1) p.side p.kind (items (at + 1) None (at + 1) text)) → First start count at (byte ∷ text)
  go true t h = no_item h
  go false t h = an_item (item_with count p.side p.kind so (same_king p.kind t)) text (spelled (plain_back byte p is).1) where
    spelled : byte ≡ letter_of p.side p.kind → so_far count ++ byte ∷ text ≡ (so_far count ++ letter_of p.side p.kind ∷ []) ++ text
    spelled same = ap (λ (x : ℕ). so_far count ++ x ∷ text) same ∙ sym (append_assoc (so_far count) (letter_of p.side p.kind ∷ []) text)

first_of : (text : List ℕ) (start : ℕ) (count : Option ℕ) (at : ℕ) → IsCountSoFar count → First start count at text
unfolding items
first_of [] start None at so = over refl refl
first_of [] start (Some n) at so = no_item refl
first_of (byte ∷ text) start count at so = go (λ v is. first_of text start (Some v) (at + 1) is) (is_digit byte) refl where
  value : ℕ
  value = value_with count byte

  digit : ((v : ℕ) → (1 ≤ v) × (v ≤ 18) → First start (Some v) (at + 1) text) → is_digit byte ≡ true → (t : Bool) → (nat_lt 0 value && nat_le value 18) ≡ t → First start count at (byte ∷ text)
  digit follow d false t = no_item (rw (d, t) refl)
  digit follow d true t =
      let tests = and_parts (nat_lt 0 value) (nat_le value 18) t in
      let ds = and_parts (nat_le 48 byte) (nat_le byte 57) d in
      let some : 0 < value = grind (arith, nat_tests, tests.0) in
      let most : value ≤ 18 = grind (arith, nat_tests, tests.1) in
      let from : 48 ≤ byte = grind (arith, nat_tests, ds.0) in
      let to : byte ≤ 57 = grind (arith, nat_tests, ds.1) in
      let own : 48 + (byte - 48) ≡ byte = omega (arith, from) in
      let longer : count_digits value ≡ so_far count ++ byte ∷ [] = digits_more count (byte - 48) value so refl some most (omega (arith, to)) ∙ ap (λ (x : ℕ). so_far count ++ x ∷ []) own in
      let whole : so_far count ++ byte ∷ text ≡ count_digits value ++ text = sym (append_assoc (so_far count) (byte ∷ []) text) ∙ ap (λ (ds : List ℕ). ds ++ text) (sym longer) in
      more whole (follow value (some, most)) where
        more : so_far count ++ byte ∷ text ≡ count_digits value ++ text → First start (Some value) (at + 1) text → First start count at (byte ∷ text)
        more whole (an_item i behind e) = an_item i behind (whole ∙ e)
        more whole (no_item e) = no_item (rw (d, t) e)
        more whole (over c e) = absurd cc

  go : ((v : ℕ) → (1 ≤ v) × (v ≤ 18) → First start (Some v) (at + 1) text) → (t : Bool) → is_digit byte ≡ t → First start count at (byte ∷ text)
  go follow true d = digit follow d (nat_lt 0 value && nat_le value 18) refl
  go follow false d = letter_first start count at byte text (piece_of byte) so refl (rw d refl)

pub byte_is : (wanted : ℕ) (text : List ℕ) → is_byte wanted text ≡ true → text ≡ wanted ∷ []
byte_is wanted [] e = absurd cc
byte_is wanted (x ∷ []) e = elim (eqb_tells x wanted) [ inl t ↦ ap (λ (y : ℕ). y ∷ []) t.1 | inr f ↦ absurd (let g = f.0 in cc) ]
byte_is wanted (x ∷ y ∷ text) e = absurd cc

some_text : (text : List ℕ) (at : ℕ) → text ≢ [] → text ≢ 45 ∷ [] → hands_of at text ≡ hands_with empty_hand empty_hand (items at None at text)
unfolding hands_of
some_text [] at some dash = absurd (some refl)
some_text (x ∷ xs) at some dash = elim (cases_Bool (is_byte 45 (x ∷ xs))) [ inl t ↦ absurd (dash (byte_is 45 (x ∷ xs) t)) | inr f ↦ rw (eqb-suc-zero (length xs), f) refl ]

-- Of items that are read from their start on.
from_start : PlacesInHand → (hands : Field) (here : ℕ) (rest : List ℕ) → (well : AreItemsUpTo hands here rest) → Along well.items empty_hand empty_hand hands.at rest
from_start in_hand hands here rest well = along in_hand well.items empty_hand empty_hand hands.at rest refl refl
    (λ k h. subst (λ (n : ℕ). length (one_count n ++ counts_for Black k well.items) ≤ 1) (sym (empty_held k h)) (well.once Black k))
    (λ k h. subst (λ (n : ℕ). length (one_count n ++ counts_for White k well.items) ≤ 1) (sym (empty_held k h)) (well.once White k))

-- What is found where all items before are well is found.
found_behind : (hands : Field) (here : ℕ) (rest : List ℕ) (fault : TextFault) (well : AreItemsUpTo hands here rest) (a : Along well.items empty_hand empty_hand hands.at rest)
    → hands.text ≢ [] → hands.text ≢ 45 ∷ [] → hands_with a.black a.white (items here None here rest) ≡ Err fault → hands_of hands.at hands.text ≡ Err fault
found_behind hands here rest fault well a some dash e =
    some_text hands.text hands.at some dash ∙ ap (λ (t : List ℕ). hands_with empty_hand empty_hand (items hands.at None hands.at t)) well.parts ∙ a.read
    ∙ ap (λ (k : ℕ). hands_with a.black a.white (items k None k rest)) (sym well.place) ∙ e

broken_read : (start : ℕ) (b w : List ℕ) → hands_with b w (broken start) ≡ Err (faults.BadHand start)
unfolding hands_with
broken_read start b w = refl

no_field : (at : ℕ) → hands_of at [] ≡ Err (faults.BadHand at)
unfolding hands_of
no_field at = refl

pub nothing_both : (xs ys : List ℕ) → xs ++ ys ≡ [] → (xs ≡ []) × (ys ≡ [])
nothing_both [] ys e = (refl, e)
nothing_both (x ∷ xs) ys e = absurd cc

pub bad_hand_found : PlacesInHand → (hands : Field) (here : ℕ) → HasBadHand hands here → hands_of hands.at hands.text ≡ Err (faults.BadHand here)
bad_hand_found in_hand hands here is = elim is.some [
  | inl some ↦ go some (first_of is.rest here None here tt)
  | inr nothing ↦
      let parts = nothing_both (flat_map hand_item_text is.well.items) is.rest (sym is.well.parts ∙ nothing) in
      let place : hands.at ≡ here = (let size : length (flat_map hand_item_text is.well.items) ≡ 0 = ap length parts.0 in omega (arith, size, is.well.place)) in
      ap (hands_of hands.at) nothing ∙ no_field hands.at ∙ ap (λ (k : ℕ). Err (faults.BadHand k)) place
] where
  go : is.rest ≢ [] → First here None here is.rest → hands_of hands.at hands.text ≡ Err (faults.BadHand here)
  go some (an_item i behind e) = absurd (is.no_item i behind e)
  go some (over c e) = absurd (some e)
  go some (no_item e) =
      let a = from_start in_hand hands here is.rest is.well in
      found_behind hands here is.rest (faults.BadHand here) is.well a (λ n. some (nothing_both (flat_map hand_item_text is.well.items) is.rest (sym is.well.parts ∙ n)).1) is.no_dash
      (ap (hands_with a.black a.white) e ∙ broken_read here a.black a.white)

twice_read : (side : Side) (kind : Kind) (n letter : ℕ) (rest : Items) (b w : List ℕ) → (side ≡ Black → hand_count b kind ≢ 0) → (side ≡ White → hand_count w kind ≢ 0) → hands_with b w (item letter n side kind rest) ≡ Err (faults.HandTwice letter)
unfolding hands_with
twice_read Black kind n letter rest b w black white = elim (eqb_tells (hand_count b kind) 0) [ inl t ↦ absurd (black refl t.1) | inr f ↦ rw f.0 refl ]
twice_read White kind n letter rest b w black white = elim (eqb_tells (hand_count w kind) 0) [ inl t ↦ absurd (white refl t.1) | inr f ↦ rw f.0 refl ]

is_held : (side : Side) (kind : Kind) (list : List HandItem) (hand : List ℕ) → kind ≢ King → Fits side list empty_hand hand → 1 ≤ length (counts_for side kind list) → hand_count hand kind ≢ 0
is_held side kind list hand king fits some none_held =
    let same : counts_for side kind list ≡ one_count (hand_count hand kind) = rw (empty_held kind king) at (fits kind king) in
    let nothing : one_count (hand_count hand kind) ≡ [] = ap one_count none_held in
    let size : length (counts_for side kind list) ≡ 0 = ap length (same ∙ nothing) in
    absurd (omega (arith, size, some))

item_long : (i : HandItem) → 1 ≤ length (hand_item_text i)
item_long i = omega (arith, length-append i.digits (letter_of i.side i.kind ∷ []))

-- A text that begins with items is no dash.
no_dash_items : (items text behind : List ℕ) → ArePlain items → 1 ≤ length items → text ≡ items ++ behind → (text ≢ []) × (text ≢ 45 ∷ [])
no_dash_items [] text behind plain le e = absurd (omega arith)
no_dash_items (x ∷ xs) text behind plain le e = (λ n. absurd (let h = sym e ∙ n in cc), λ n. plain.0.not_dash (let h : x ∷ (xs ++ behind) ≡ 45 ∷ [] = sym e ∙ n in cc))

pub twice_found : PlacesInHand → (hands : Field) (here : ℕ) → HasLetterTwice hands here → hands_of hands.at hands.text ≡ Err (faults.HandTwice here)
twice_found in_hand hands here is =
    let rest = hand_item_text is.next ++ is.behind in
    let list = is.well.items ++ is.next ∷ [] in
    let a = from_start in_hand hands is.start rest is.well in
    let whole : flat_map hand_item_text is.well.items ++ hand_item_text is.next ≡ flat_map hand_item_text list = flat_map_more hand_item_text [] is.well.items is.next in
    let parts : hands.text ≡ flat_map hand_item_text list ++ is.behind = is.well.parts ∙ sym (append_assoc (flat_map hand_item_text is.well.items) (hand_item_text is.next) is.behind) ∙ ap (λ (t : List ℕ). t ++ is.behind) whole in
    let size : length (flat_map hand_item_text list) ≡ length (flat_map hand_item_text is.well.items) + length (hand_item_text is.next) = ap length (sym whole) ∙ length-append (flat_map hand_item_text is.well.items) (hand_item_text is.next) in
    let apart = no_dash_items (flat_map hand_item_text list) hands.text is.behind (items_plain list) (omega (arith, size, item_long is.next)) parts in
    found_behind hands is.start rest (faults.HandTwice here) is.well a apart.0 apart.1
    (ap (hands_with a.black a.white) (item_read is.next is.start is.behind)
    ∙ twice_read is.next.side is.next.kind is.next.count (is.start + length is.next.digits) (items (next_at is.start is.next) None (next_at is.start is.next) is.behind) a.black a.white
    (λ e. is_held Black is.next.kind is.well.items a.black is.next.no_king a.in_black (subst (λ (s : Side). 1 ≤ length (counts_for s is.next.kind is.well.items)) e is.twice))
    (λ e. is_held White is.next.kind is.well.items a.white is.next.no_king a.in_white (subst (λ (s : Side). 1 ≤ length (counts_for s is.next.kind is.well.items)) e is.twice))
    ∙ ap (λ (k : ℕ). Err (faults.HandTwice k)) (sym is.place))

-- ---- a fault that is found is there

-- The fault is there in the hands' field.
abbrev pub HasHandsFault : Field → TextFault → Type 0
HasHandsFault hands (faults.BadRow here) = ⊥
HasHandsFault hands (faults.BadPiece here) = ⊥
HasHandsFault hands (faults.BadSide here) = ⊥
HasHandsFault hands (faults.BadHand here) = HasBadHand hands here
HasHandsFault hands (faults.HandTwice here) = HasLetterTwice hands here
HasHandsFault hands (faults.Trailing here) = ⊥
HasHandsFault hands (faults.BadPosition bad) = ⊥

-- What the items hold, the hand holds.
abbrev Held : Side → List HandItem → List ℕ → Type 0
Held side list hand = (kind : Kind) → kind ≢ King → counts_for side kind list ≡ one_count (hand_count hand kind)

one_at_most : (n : ℕ) → length (one_count n) ≤ 1
one_at_most zero = omega arith
one_at_most (suc n) = omega arith

no_kings : (side : Side) (list : List HandItem) → counts_for side King list ≡ []
no_kings side [] = refl
no_kings side (i ∷ list) = rw (not_the_king i.kind i.no_king, (and_right (same_side i.side side) false refl), no_kings side list) refl

once_each : (side : Side) (list : List HandItem) (hand : List ℕ) → Held side list hand → (kind : Kind) → length (counts_for side kind list) ≤ 1
once_each side list hand held kind = elim (cases_Bool (same_kind kind King)) [
  | inl king ↦ let size : length (counts_for side kind list) ≡ 0 = ap length (ap (λ (k : Kind). counts_for side k list) (is_king kind king) ∙ no_kings side list) in omega (arith, size)
  | inr other ↦ subst (λ (xs : List ℕ). length xs ≤ 1) (sym (held kind (same_king kind other))) (one_at_most (hand_count hand kind))
] where
  is_king : (k : Kind) → same_kind k King ≡ true → k ≡ King
  is_king Pawn e = absurd cc
  is_king Lance e = absurd cc
  is_king Knight e = absurd cc
  is_king Silver e = absurd cc
  is_king Gold e = absurd cc
  is_king Bishop e = absurd cc
  is_king Rook e = absurd cc
  is_king King e = refl

counts_more : (side : Side) (kind : Kind) (list : List HandItem) (i : HandItem) → counts_for side kind list ++ (cond (same_side i.side side && same_kind i.kind kind) (i.count ∷ []) []) ≡ counts_for side kind (list ++ i ∷ [])
counts_more side kind list i = flat_map_more (λ (item : HandItem). cond (same_side item.side side && same_kind item.kind kind) (item.count ∷ []) []) [] list i

held_more : (side : Side) (kind : Kind) (list : List HandItem) (i : HandItem) (old new : List ℕ) → counts_for side kind list ≡ one_count (hand_count old kind)
    → one_count (hand_count old kind) ++ (cond (same_side i.side side && same_kind i.kind kind) (i.count ∷ []) [] ++ []) ≡ one_count (hand_count new kind) ++ []
    → counts_for side kind (list ++ i ∷ []) ≡ one_count (hand_count new kind)
held_more side kind list i old new held one =
    let own = cond (same_side i.side side && same_kind i.kind kind) (i.count ∷ []) [] in
    sym (counts_more side kind list i) ∙ ap (λ (xs : List ℕ). xs ++ own) held ∙ ap (λ (xs : List ℕ). one_count (hand_count old kind) ++ xs) (sym (append-nil own)) ∙ one ∙ append-nil (one_count (hand_count new kind))

-- What was read of the hands' field: items that the hands hold, or a fault that is there.
abbrev HandsAre : Field → Result (List ℕ × List ℕ) TextFault → Type 0
HandsAre hands (Ok both) = (list : List HandItem) × (hands.text ≡ flat_map hand_item_text list) × Held Black list both.0 × Held White list both.1
HandsAre hands (Err fault) = HasHandsFault hands fault

-- Items so far, the hands that hold them, and what is left of the field.
record Well (hands : Field) (list : List HandItem) (b w : List ℕ) (here : ℕ) (rest : List ℕ) : Type 0 where
  black : Held Black list b
  white : Held White list w
  black_size : length b ≡ 7
  white_size : length w ≡ 7
  parts : hands.text ≡ flat_map hand_item_text list ++ rest
  place : here ≡ hands.at + length (flat_map hand_item_text list)

once_in : (side : Side) (list : List HandItem) (b w : List ℕ) → Held Black list b → Held White list w → (kind : Kind) → length (counts_for side kind list) ≤ 1
once_in Black list b w black white = once_each Black list b black
once_in White list b w black white = once_each White list w white

abbrev up_to : (hands : Field) (list : List HandItem) (b w : List ℕ) (here : ℕ) (rest : List ℕ) → Well hands list b w here rest → AreItemsUpTo hands here rest
up_to hands list b w here rest well = record { items = list; once = λ side. once_in side list b w well.black well.white; parts = well.parts; place = well.place }

-- One more item is put, or its letter came already.
record PutOn (hands : Field) (list : List HandItem) (i : HandItem) (letter : ℕ) (further : Items) (next : ℕ) (behind b w : List ℕ) : Type 0 where
  black : List ℕ
  white : List ℕ
  read : hands_with b w (item letter i.count i.side i.kind further) ≡ hands_with black white further
  well : Well hands (list ++ i ∷ []) black white next behind

put_on : PlacesInHand → (hands : Field) (list : List HandItem) (i : HandItem) (letter : ℕ) (further : Items) (here : ℕ) (rest behind b w : List ℕ) → Well hands list b w here rest → rest ≡ hand_item_text i ++ behind
    → (i.side ≡ Black → hand_count b i.kind ≡ 0) → (i.side ≡ White → hand_count w i.kind ≡ 0) → PutOn hands list i letter further (next_at here i) behind b w
put_on in_hand hands list i letter further here rest behind b w well e black white =
    let none_more : Side → Kind → List ℕ = λ side kind. [] in
    let one = put in_hand i.side i.kind i.count letter further none_more b w i.no_king i.some well.black_size well.white_size black white in
    let before = flat_map hand_item_text list in
    let longer : before ++ hand_item_text i ≡ flat_map hand_item_text (list ++ i ∷ []) = flat_map_more hand_item_text [] list i in
    let size : length (flat_map hand_item_text (list ++ i ∷ [])) ≡ length before + length (hand_item_text i) = ap length (sym longer) ∙ length-append before (hand_item_text i) in
    record {
      black = one.black;
      white = one.white;
      read = one.read;
      well = record {
        black = λ k h. held_more Black k list i b one.black (well.black k h) (one.in_black k h);
        white = λ k h. held_more White k list i w one.white (well.white k h) (one.in_white k h);
        black_size = one.black_size;
        white_size = one.white_size;
        parts = well.parts ∙ ap (λ (t : List ℕ). before ++ t) e ∙ sym (append_assoc before (hand_item_text i) behind) ∙ ap (λ (t : List ℕ). t ++ behind) longer;
        place = omega (arith, well.place, size);
      };
    }

held_already : (side : Side) (kind : Kind) (list : List HandItem) (hand : List ℕ) → kind ≢ King → Held side list hand → hand_count hand kind ≢ 0 → 1 ≤ length (counts_for side kind list)
held_already side kind list hand king held apart = subst (λ (xs : List ℕ). 1 ≤ length xs) (sym (held kind king)) (some_count (hand_count hand kind) apart) where
  some_count : (n : ℕ) → n ≢ 0 → 1 ≤ length (one_count n)
  some_count zero h = absurd (h refl)
  some_count (suc n) h = omega arith

-- Whether the letter of an item came already.
fresh_or_twice : (side : Side) (kind : Kind) (list : List HandItem) (b w : List ℕ) → kind ≢ King → Held Black list b → Held White list w
    → ((side ≡ Black → hand_count b kind ≡ 0) × (side ≡ White → hand_count w kind ≡ 0)) ⊎ ((1 ≤ length (counts_for side kind list)) × (side ≡ Black → hand_count b kind ≢ 0) × (side ≡ White → hand_count w kind ≢ 0))
fresh_or_twice Black kind list b w king black white = elim (eqb_tells (hand_count b kind) 0) [
  | inl t ↦ inl (λ e. t.1, λ e. absurd cc)
  | inr f ↦ inr (held_already Black kind list b king black f.1, λ e. f.1, λ e. absurd cc)
]
fresh_or_twice White kind list b w king black white = elim (eqb_tells (hand_count w kind) 0) [
  | inl t ↦ inl (λ e. absurd cc, λ e. t.1)
  | inr f ↦ inr (held_already White kind list w king white f.1, λ e. absurd cc, λ e. f.1)
]

over_read : (at : ℕ) (b w : List ℕ) → hands_with b w (items at None at []) ≡ Ok (b, w)
unfolding hands_with items
over_read at b w = refl

no_broken : (letter n start : ℕ) (side : Side) (kind : Kind) (rest : Items) → item letter n side kind rest ≡ broken start → ⊥
no_broken letter n start side _ rest e = absurd cc

-- What is read from here on is there.
walk : PlacesInHand → (n : ℕ) (hands : Field) (list : List HandItem) (b w : List ℕ) (here : ℕ) (rest : List ℕ) → length rest ≤ n → hands.text ≢ 45 ∷ [] → Well hands list b w here rest
    → HandsAre hands (hands_with b w (items here None here rest))
walk in_hand n hands list b w here [] le dash well = subst (HandsAre hands) (sym (over_read here b w)) (list, well.parts ∙ append-nil (flat_map hand_item_text list), well.black, well.white)
walk in_hand zero hands list b w here (byte ∷ text) le dash well = absurd (omega arith)
walk in_hand (suc n) hands list b w here (byte ∷ text) le dash well = go (λ list b w here rest le well. walk in_hand n hands list b w here rest le dash well) (first_of (byte ∷ text) here None here tt) where
  Follows : Type 0
  Follows = (list : List HandItem) (b w : List ℕ) (here : ℕ) (rest : List ℕ) → length rest ≤ n → Well hands list b w here rest → HandsAre hands (hands_with b w (items here None here rest))

  Here : Type 0
  Here = HandsAre hands (hands_with b w (items here None here (byte ∷ text)))

  next_item : Follows → (i : HandItem) (behind : List ℕ) → byte ∷ text ≡ hand_item_text i ++ behind
      → ((i.side ≡ Black → hand_count b i.kind ≡ 0) × (i.side ≡ White → hand_count w i.kind ≡ 0)) ⊎ ((1 ≤ length (counts_for i.side i.kind list)) × (i.side ≡ Black → hand_count b i.kind ≢ 0) × (i.side ≡ White → hand_count w i.kind ≢ 0)) → Here
  next_item follow i behind parts (inl fresh) =
      let further = items (next_at here i) None (next_at here i) behind in
      let on = put_on in_hand hands list i (here + length i.digits) further here (byte ∷ text) behind b w well parts fresh.0 fresh.1 in
      let size : length (byte ∷ text) ≡ length (hand_item_text i) + length behind = ap length parts ∙ length-append (hand_item_text i) behind in
      let read : hands_with b w (items here None here (byte ∷ text)) ≡ hands_with on.black on.white further
      = ap (λ (t : List ℕ). hands_with b w (items here None here t)) parts ∙ ap (hands_with b w) (item_read i here behind) ∙ on.read in
      subst (HandsAre hands) (sym read) (follow (list ++ i ∷ []) on.black on.white (next_at here i) behind (omega (arith, size, item_long i, le)) on.well)
  next_item follow i behind parts (inr twice) =
      let read : hands_with b w (items here None here (byte ∷ text)) ≡ Err (faults.HandTwice (here + length i.digits))
      = ap (λ (t : List ℕ). hands_with b w (items here None here t)) parts ∙ ap (hands_with b w) (item_read i here behind)
      ∙ twice_read i.side i.kind i.count (here + length i.digits) (items (next_at here i) None (next_at here i) behind) b w twice.1 twice.2 in
      subst (HandsAre hands) (sym read) (record {
        start = here;
        next = i;
        behind = behind;
        well = record { items = list; once = λ side. once_in side list b w well.black well.white; parts = well.parts ∙ ap (λ (t : List ℕ). flat_map hand_item_text list ++ t) parts; place = well.place };
        twice = twice.0;
        place = refl;
      })

  go : Follows → First here None here (byte ∷ text) → Here
  go follow (an_item i behind parts) = next_item follow i behind parts (fresh_or_twice i.side i.kind list b w i.no_king well.black well.white)
  go follow (over c nothing) = absurd cc
  go follow (no_item broke) = subst (HandsAre hands) (sym (ap (hands_with b w) broke ∙ broken_read here b w)) (record {
    rest = byte ∷ text;
    well = up_to hands list b w here (byte ∷ text) well;
    no_item = λ i behind parts. no_broken (here + length i.digits) i.count here i.side i.kind (items (next_at here i) None (next_at here i) behind) (sym (item_read i here behind) ∙ ap (items here None here) (sym parts) ∙ broke);
    some = inl (λ nothing. absurd cc);
    no_dash = dash;
  })

-- From the start of a field that is no dash.
walked : PlacesInHand → (hands : Field) → hands.text ≢ 45 ∷ [] → HandsAre hands (hands_with empty_hand empty_hand (items hands.at None hands.at hands.text))
walked in_hand hands dash = walk in_hand (length hands.text) hands [] empty_hand empty_hand hands.at hands.text (omega arith) dash begun where
  begun : Well hands [] empty_hand empty_hand hands.at hands.text
  begun = record { black = λ k h. ap one_count (sym (empty_held k h)); white = λ k h. ap one_count (sym (empty_held k h)); black_size = refl; white_size = refl; parts = refl; place = omega arith }

-- What a field of hands is read as: a field is missing, or a dash, or items.
data Read (hands : Field) : Type 0 where
  missing : hands.text ≡ [] → hands_of hands.at hands.text ≡ Err (faults.BadHand hands.at) → Read hands
  dash : hands.text ≡ 45 ∷ [] → hands_of hands.at hands.text ≡ Ok (empty_hand, empty_hand) → Read hands
  some_items : hands.text ≢ [] → HandsAre hands (hands_of hands.at hands.text) → Read hands

only_dash : (at : ℕ) → hands_of at (45 ∷ []) ≡ Ok (empty_hand, empty_hand)
unfolding hands_of
only_dash at = refl

read_of : PlacesInHand → (hands : Field) → Read hands
read_of in_hand hands = elim (eqb_tells (length hands.text) 0) [
  | inl none_there ↦ let nothing = nil_from_length hands.text none_there.1 in missing nothing (ap (hands_of hands.at) nothing ∙ no_field hands.at)
  | inr some ↦ elim (cases_Bool (is_byte 45 hands.text)) [
    | inl is_dash ↦ let one = byte_is 45 hands.text is_dash in dash one (ap (hands_of hands.at) one ∙ only_dash hands.at)
    | inr no_dash ↦
        let there : hands.text ≢ [] = λ nothing. some.1 (ap length nothing) in
        let apart : hands.text ≢ 45 ∷ [] = λ is. not_dash is no_dash in
        some_items there (subst (HandsAre hands) (sym (some_text hands.text hands.at there apart)) (walked in_hand hands apart))
  ]
] where
  not_dash : hands.text ≡ 45 ∷ [] → is_byte 45 hands.text ≡ false → ⊥
  not_dash is f = absurd (let t : is_byte 45 hands.text ≡ true = ap (is_byte 45) is in cc)

pub hands_fault_there : PlacesInHand → (hands : Field) (fault : TextFault) → hands_of hands.at hands.text ≡ Err fault → HasHandsFault hands fault
hands_fault_there in_hand hands fault e = go (read_of in_hand hands) where
  go : Read hands → HasHandsFault hands fault
  go (some_items there are) = subst (HandsAre hands) e are
  go (dash is read) = absurd (let h = sym read ∙ e in cc)
  go (missing nothing read) = subst (HasHandsFault hands) {x = faults.BadHand hands.at} (let h = sym read ∙ e in cc) (record {
    rest = [];
    well = record { items = []; once = λ side kind. omega arith; parts = nothing; place = omega arith };
    no_item = λ i behind parts. absurd (let size : 0 ≡ length (hand_item_text i) + length behind = ap length parts ∙ length-append (hand_item_text i) behind in omega (arith, size, item_long i));
    some = inr nothing;
    no_dash = λ is. absurd (let h = sym nothing ∙ is in cc);
  })

dash_same : (text list : List ℕ) → text ≢ [] → text ≡ list → text ≡ or_dash list
dash_same text [] some e = absurd (some e)
dash_same text (x ∷ list) some e = e

pub hands_spelled : PlacesInHand → (hands : Field) (both : List ℕ × List ℕ) → hands_of hands.at hands.text ≡ Ok both → HandsSpell hands.text both.0 both.1
hands_spelled in_hand hands both e = go (read_of in_hand hands) where
  go : Read hands → HandsSpell hands.text both.0 both.1
  go (missing nothing read) = absurd (let h = sym read ∙ e in cc)
  go (dash is read) =
      let same : (empty_hand, empty_hand) ≡ both = (let h = sym read ∙ e in cc) in
      ([], is, subst (λ (b : List ℕ × List ℕ). ItemsHold Black [] b.0) same (λ k h. ap one_count (sym (empty_held k h))), subst (λ (b : List ℕ × List ℕ). ItemsHold White [] b.1) same (λ k h. ap one_count (sym (empty_held k h))))
  go (some_items there are) = let found = subst (HandsAre hands) e are in (found.0, dash_same hands.text (flat_map hand_item_text found.0) there found.1, found.2, found.3)
