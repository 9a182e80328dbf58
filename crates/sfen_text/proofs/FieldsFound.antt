-- The text within an input and its fields, as relations and as they are read.
use Rattle.std.proofs.Common.{◌≡◌, ◌⊎◌, inl, inr, ℕ, suc, ◌+◌, ◌-◌, ◌≤◌, Bool, true, false, List, [], ◌∷◌, ◌++◌, length, take, drop, reverse, Result, Ok, refl, sym, ap, subst, ◌∙◌, arith}
use Rattle.std.specs.Prelude.{not, codes, nat_eq}
use Rattle.std.specs.List.{list_all, starts_with}
use Rattle.std.proofs.lemmas.Bool.Decides.{Decides-eqb}
use Rattle.std.proofs.lemmas.Slice.Eq.{starts_is}
use Rattle.board_core.specs.Board.{Board}
use Rattle.sfen_text.specs.declared.fault.TextFault.{TextFault}
use Rattle.sfen_text.specs.Hands.{hands_of}
use Rattle.std.proofs.lemmas.Bool.{and_parts}
use Rattle.std.proofs.lemmas.List.{length-append, length-reverse, reverse-append, reverse-reverse, take_at, drop_at}
use Rattle.sfen_text.specs.Bytes.{is_space, is_blank}
use Rattle.sfen_text.specs.Spells.{IsFrontWord}
use Rattle.sfen_text.specs.Fields.{BeginsWithNo, EndsWithNo, IsTextIn, Field, field, end_of, HasField, FieldsOf}
use Rattle.sfen_text.specs.Reading.{◌>>=◌, leading, without_end_blanks, front_len, field_of, next_of, cells_at, side_at, end_outcome, fields_at, input_parts}
use Rattle.sfen_text.proofs.FieldsAgain.{leading_none, leading_more, leading_nil, in_field}
use Rattle.sfen_text.proofs.TextAgain.{drop_none}
use Rattle.sfen_text.proofs.FieldsSpelled.{all_reversed, Split, split, end_parts}

leading_stop : (test : ℕ → Bool) (xs ys : List ℕ) → list_all test xs ≡ true → BeginsWithNo test ys → leading test (xs ++ ys) ≡ length xs
leading_stop test [] [] all stops = leading_nil test
leading_stop test [] (y ∷ ys) all stops = leading_none test y ys (stops y ys refl)
leading_stop test (x ∷ xs) ys all stops =
    let parts = and_parts (test x) (list_all test xs) all in
    leading_more test x (xs ++ ys) parts.0 ∙ ap suc (leading_stop test xs ys parts.1 stops)

stops_no : (test : ℕ → Bool) (ys : List ℕ) → (ys ≡ []) ⊎ ((x : ℕ) × (xs : List ℕ) × (ys ≡ x ∷ xs) × (test x ≡ false)) → BeginsWithNo test ys
stops_no test ys (inl e) byte behind h = absurd (cc)
stops_no test ys (inr (x, xs, e, f)) byte behind h = let same : byte ≡ x = cc in ap test same ∙ f

-- ---- fields

pub field_of_is : (at : ℕ) (text : List ℕ) (f : Field) → HasField at text f → f ≡ field_of at text
unfolding field_of
field_of_is at text f is =
    let lead : leading is_space text ≡ length is.spaces = ap (leading is_space) is.parts ∙ leading_stop is_space is.spaces (f.text ++ f.rest) is.is_spaces is.all_spaces in
    let behind : drop (length is.spaces) text ≡ f.text ++ f.rest = ap (drop (length is.spaces)) is.parts ∙ drop_at is.spaces (f.text ++ f.rest) (length is.spaces) refl in
    let size : leading in_field (f.text ++ f.rest) ≡ length f.text = leading_stop in_field f.text f.rest is.no_space is.whole in
    let own : take (length f.text) (f.text ++ f.rest) ≡ f.text = take_at f.text f.rest (length f.text) refl in
    let more : drop (length f.text) (f.text ++ f.rest) ≡ f.rest = drop_at f.text f.rest (length f.text) refl in
    rw (lead, behind, size, own, more) (ap (λ (k : ℕ). field k f.text f.rest) is.place)

field_at : (at : ℕ) (text : List ℕ) (lead : Split is_space text) (size : Split in_field lead.rest) → field (at + length lead.lead) size.lead size.rest ≡ field_of at text
unfolding field_of
field_at at text lead size =
    let behind : drop (length lead.lead) text ≡ lead.rest = ap (drop (length lead.lead)) lead.parts ∙ drop_at lead.lead lead.rest (length lead.lead) refl in
    let own : take (length size.lead) lead.rest ≡ size.lead = ap (take (length size.lead)) size.parts ∙ take_at size.lead size.rest (length size.lead) refl in
    let more : drop (length size.lead) lead.rest ≡ size.rest = ap (drop (length size.lead)) size.parts ∙ drop_at size.lead size.rest (length size.lead) refl in
    rw (lead.size, behind, size.size, own, more) refl

pub no_more : (rest : List ℕ) → BeginsWithNo is_space rest → BeginsWithNo (λ byte. not (is_space byte)) rest → rest ≡ []
no_more [] spaces others = refl
no_more (x ∷ xs) spaces others = absurd (let f = spaces x xs refl in let g = rw f at (others x xs refl) in cc)

pub has_field : (at : ℕ) (text : List ℕ) → HasField at text (field_of at text)
has_field at text =
    let lead = split is_space text in
    let size = split in_field lead.rest in
    subst (HasField at text) (field_at at text lead size) (record {
      spaces = lead.lead;
      parts = lead.parts ∙ ap (λ (t : List ℕ). lead.lead ++ t) size.parts;
      is_spaces = lead.all;
      all_spaces = subst (BeginsWithNo is_space) size.parts (stops_no is_space lead.rest lead.stops);
      no_space = size.all;
      whole = stops_no in_field size.rest size.stops;
      place = refl;
    })

-- ---- the text around them

pub reading_as : (input before rest body : List ℕ) (front : ℕ) → input ≡ before ++ rest → leading is_blank input ≡ length before → without_end_blanks rest ≡ body → front_len body ≡ front
    → input_parts input ≡ fields_at (length before + front) (drop front body)
unfolding input_parts
reading_as input before rest body front parts blanks ends word =
    let behind : drop (length before) input ≡ rest = ap (drop (length before)) parts ∙ drop_at before rest (length before) refl in
    rw (blanks, behind, ends, word) refl

pub short_front : (text : List ℕ) → front_len (codes "sfen " ++ text) ≡ 5
unfolding front_len
short_front [] = refl
short_front (x ∷ text) = refl

pub long_front : (text : List ℕ) → front_len (codes "position sfen " ++ text) ≡ 14
unfolding front_len
long_front [] = refl
long_front (x ∷ text) = refl

-- The front of a text, and the rest of it.
pub record FrontIs (text : List ℕ) : Type 0 where
  pub front : List ℕ
  pub is : IsFrontWord front
  pub size : front_len text ≡ length front
  pub parts : text ≡ front ++ drop (length front) text

pub front_is : (text : List ℕ) → FrontIs text
unfolding front_len
front_is text = long (starts_with nat_eq text (codes "position sfen ")) refl where
  short : (b : Bool) → starts_with nat_eq text (codes "sfen ") ≡ b → starts_with nat_eq text (codes "position sfen ") ≡ false → FrontIs text
  short true t n = record {
    front = codes "sfen ";
    is = inr (inl refl);
    size = rw (n, t) refl;
    parts = (starts_is Decides-eqb text (codes "sfen ") (starts_with nat_eq text (codes "sfen ")) refl).0 t;
  }
  short false t n = record { front = []; is = inl refl; size = rw (n, t) refl; parts = sym (drop_none text) }

  long : (b : Bool) → starts_with nat_eq text (codes "position sfen ") ≡ b → FrontIs text
  long true t = record {
    front = codes "position sfen ";
    is = inr (inr refl);
    size = rw t refl;
    parts = (starts_is Decides-eqb text (codes "position sfen ") (starts_with nat_eq text (codes "position sfen ")) refl).0 t;
  }
  long false t = short (starts_with nat_eq text (codes "sfen ")) refl t

ends_stop : (text : List ℕ) → EndsWithNo is_blank (without_end_blanks text)
unfolding without_end_blanks
ends_stop text front byte e =
    let back = split is_blank (reverse text) in
    let turned : text ≡ reverse back.rest ++ reverse back.lead = sym (reverse-reverse text) ∙ ap reverse back.parts ∙ reverse-append back.lead back.rest in
    let long : length text ≡ length (reverse back.rest) + length back.lead = ap length turned ∙ length-append (reverse back.rest) (reverse back.lead) ∙ ap (λ (k : ℕ). length (reverse back.rest) + k) (length-reverse back.lead) in
    let size : length (reverse back.rest) ≡ length text - leading is_blank (reverse text) = omega (arith, long, back.size) in
    let cut : take (length text - leading is_blank (reverse text)) text ≡ reverse back.rest = ap (take (length text - leading is_blank (reverse text))) turned ∙ take_at (reverse back.rest) (reverse back.lead) (length text - leading is_blank (reverse text)) size in
    let last : back.rest ≡ byte ∷ reverse front = sym (reverse-reverse back.rest) ∙ ap reverse (sym cut ∙ e) ∙ reverse-append front (byte ∷ []) in
    stops_no is_blank back.rest back.stops byte (reverse front) last

end_stripped : (body after : List ℕ) → list_all is_blank after ≡ true → EndsWithNo is_blank body → without_end_blanks (body ++ after) ≡ body
unfolding without_end_blanks
end_stripped body after blank stops =
    let begins : BeginsWithNo is_blank (reverse body) = λ byte behind e. stops (reverse behind) byte (sym (reverse-reverse body) ∙ ap reverse e ∙ reverse-append (byte ∷ []) behind) in
    let count : leading is_blank (reverse (body ++ after)) ≡ length after = ap (leading is_blank) (reverse-append body after) ∙ leading_stop is_blank (reverse after) (reverse body) (all_reversed is_blank after blank) begins ∙ length-reverse after in
    let size : length body ≡ length (body ++ after) - leading is_blank (reverse (body ++ after)) = omega (arith, count, length-append body after) in
    take_at body after (length (body ++ after) - leading is_blank (reverse (body ++ after))) size

short_len : (text front : List ℕ) → IsFrontWord front → ((word behind : List ℕ) → IsFrontWord word → front ++ text ≡ word ++ behind → length word ≤ length front) → front_len (front ++ text) ≡ length front
short_len text front (inl none) whole =
    let is = front_is (front ++ text) in
    let least : length is.front ≤ length front = whole is.front (drop (length is.front) (front ++ text)) is.is is.parts in
    let nothing : length front ≡ 0 = ap length none in
    omega (arith, least, nothing, is.size)
short_len text front (inr (inl short)) whole = rw short (short_front text)
short_len text front (inr (inr long)) whole = rw long (long_front text)

-- The word in front is the longest there.
longest : (text : List ℕ) (is : FrontIs text) (word behind : List ℕ) → IsFrontWord word → text ≡ word ++ behind → length word ≤ length is.front
longest text is word behind (inl none) e = let nothing : length word ≡ 0 = ap length none in omega (arith, nothing)
longest text is word behind (inr (inl short)) e =
    let size : front_len text ≡ length word = ap front_len (e ∙ ap (λ (w : List ℕ). w ++ behind) short) ∙ short_front behind ∙ sym (ap length short) in
    omega (arith, size, is.size)
longest text is word behind (inr (inr long)) e =
    let size : front_len text ≡ length word = ap front_len (e ∙ ap (λ (w : List ℕ). w ++ behind) long) ∙ long_front behind ∙ sym (ap length long) in
    omega (arith, size, is.size)

-- What is within an input is what is read.
pub read_within : (input text : List ℕ) (at : ℕ) → IsTextIn input text at → input_parts input ≡ fields_at at text
read_within input text at is =
    let body = is.front ++ text in
    let blanks : leading is_blank input ≡ length is.before = ap (leading is_blank) is.parts ∙ leading_stop is_blank is.before (body ++ is.after) is.is_before is.all_before in
    let whole = reading_as input is.before (body ++ is.after) body (length is.front) is.parts blanks (end_stripped body is.after is.is_after is.all_after) (short_len text is.front is.is_front is.whole_front) in
    let place : length is.before + length is.front ≡ at = sym (is.place ∙ length-append is.before is.front) in
    whole ∙ ap (fields_at (length is.before + length is.front)) (drop_at is.front text (length is.front) refl) ∙ ap (λ (k : ℕ). fields_at k text) place

within_with : (input body after : List ℕ) (blanks : Split is_blank input) → blanks.rest ≡ body ++ after → list_all is_blank after ≡ true → EndsWithNo is_blank body
    → (word : FrontIs body) → IsTextIn input (drop (length word.front) body) (length (blanks.lead ++ word.front))
within_with input body after blanks ends is_after stops word = record {
  before = blanks.lead;
  front = word.front;
  after = after;
  parts = blanks.parts ∙ ap (λ (t : List ℕ). blanks.lead ++ t) cut;
  is_before = blanks.all;
  all_before = subst (BeginsWithNo is_blank) cut (stops_no is_blank blanks.rest blanks.stops);
  is_after = is_after;
  all_after = subst (EndsWithNo is_blank) word.parts stops;
  is_front = word.is;
  whole_front = λ other behind is e. longest body word other behind is (word.parts ∙ e);
  place = refl;
} where
  cut : blanks.rest ≡ (word.front ++ drop (length word.front) body) ++ after
  cut = ends ∙ ap (λ (t : List ℕ). t ++ after) word.parts

fields_in : (input text : List ℕ) (at : ℕ) → IsTextIn input text at → FieldsOf input
fields_in input text at within =
    let board = field_of at text in
    let side = next_of board in
    let hands = next_of side in
    let number = next_of hands in
    record {
      text = text;
      at = at;
      within = within;
      board = board;
      side = side;
      hands = hands;
      number = number;
      more = next_of number;
      is_board = has_field at text;
      is_side = has_field (end_of board) board.rest;
      is_hands = has_field (end_of side) side.rest;
      is_number = has_field (end_of hands) hands.rest;
      is_more = has_field (end_of number) number.rest;
    }

-- Each input has its fields.
pub fields_of : (input : List ℕ) → FieldsOf input
fields_of input =
    let blanks = split is_blank input in
    let ends = end_parts blanks.rest in
    let body = without_end_blanks blanks.rest in
    let word = front_is body in
    fields_in input (drop (length word.front) body) (length (blanks.lead ++ word.front)) (within_with input body ends.0 blanks ends.1 ends.2 (ends_stop blanks.rest) word)

-- ---- what is read of the fields

-- What the fields of an input give, one after the other.
abbrev pub steps : Field → Field → Field → Field → Result Board TextFault
steps board side hands number = cells_at board.at board.text >>= (λ cells. side_at side.at side.text >>= (λ turn. hands_of hands.at hands.text >>= (λ both. end_outcome number >>= (λ over. Ok (record { cells = cells; black = both.0; white = both.1; side = turn })))))

pub fields_steps : (at : ℕ) (text : List ℕ) (board side hands number : Field) → board ≡ field_of at text → side ≡ next_of board → hands ≡ next_of side → number ≡ next_of hands
    → fields_at at text ≡ steps board side hands number
unfolding fields_at
fields_steps at text board side hands number one two three four = rw (← one, ← two, ← three, ← four) refl

-- The fields of an input are those that are read.
pub record AreRead {input : List ℕ} (fs : FieldsOf input) : Type 0 where
  pub board : fs.board ≡ field_of fs.at fs.text
  pub side : fs.side ≡ next_of fs.board
  pub hands : fs.hands ≡ next_of fs.side
  pub number : fs.number ≡ next_of fs.hands
  pub more : fs.more ≡ next_of fs.number
  pub whole : input_parts input ≡ fields_at fs.at fs.text

pub are_read : (input : List ℕ) (fs : FieldsOf input) → AreRead fs
are_read input fs = record {
  board = field_of_is fs.at fs.text fs.board fs.is_board;
  side = field_of_is (end_of fs.board) fs.board.rest fs.side fs.is_side;
  hands = field_of_is (end_of fs.side) fs.side.rest fs.hands fs.is_hands;
  number = field_of_is (end_of fs.hands) fs.hands.rest fs.number fs.is_number;
  more = field_of_is (end_of fs.number) fs.number.rest fs.more fs.is_more;
  whole = read_within input fs.text fs.at fs.within;
}
