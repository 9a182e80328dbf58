-- What is written for a hand is read as it.
use Rattle.std.proofs.Common.{◌≡◌, ◌≢◌, ◌<◌, ◌≤◌, ◌+◌, ◌++◌, ◌==◌, inl, inr, ⊎_elim, ℕ, zero, suc, Bool, true, false, not, ◌&&◌, List, [], ◌∷◌, length, Option, Some, None, refl, sym, subst, ap, ap₂, ◌∙◌, arith, append_assoc, if◌then◌else◌, is_some, nat_lt, encode_utf8_all}
use Rattle.std.specs.List.{slice_split, onto_first, All}
use Rattle.std.proofs.lemmas.Bool.{cases_Bool, cond-true, lt-ltb}
use Rattle.std.proofs.lemmas.List.Elements.{filter-append}
use Rattle.std.proofs.lemmas.Str.{encodes_same}
use Rattle.std.proofs.lemmas.List.Splits.{slice_split-cons_yes, slice_split-cons_no, slice_split_none, length-slice_split}
use Rattle.bit_boards.specs.declared.piece.Kind.{Kind}
use Rattle.bit_boards.specs.declared.piece.Kind.TheVariants.{Pawn, Lance, Knight, Silver, Gold, Bishop, Rook, King}
use Rattle.bit_boards.specs.Kind.{same_kind}
use Rattle.board_core.specs.Board.{hand_count}
use Rattle.kif_text.specs.Characters.{count_of, is_blank, kind_of}
use Rattle.kif_text.specs.declared.fault.KifFault.{KifFault}
use Rattle.kif_text.specs.First.{HasNone}
use Rattle.kif_text.specs.Words.{HasWordFault, count_for, count_in, fault_of, some_of, word_count, word_kind, words}
use Rattle.kif_text.proofs.Offered.{count_more, none_in_more, none_in_nothing}
use Rattle.kif_record.specs.Characters.{count_text, held_text, kind_text, wide_blank}
use Rattle.kif_record.specs.Diagram.{joined, with_blank}
use Rattle.kif_again.proofs.Numbers.{number_again}
use Rattle.kif_again.proofs.Written.{Written, written-append, written-nothing}

-- 1. TEXTS IN WORDS.

some-append : (xs ys : List (List ℕ)) → some_of (xs ++ ys) ≡ some_of xs ++ some_of ys
some-append xs ys = filter-append (λ (part : List ℕ). nat_lt 0 (length part)) xs ys

onto-append : (c : ℕ) (ps qs : List (List ℕ)) → 0 < length ps → onto_first c (ps ++ qs) ≡ onto_first c ps ++ qs
onto-append c [] qs some = absurd (omega (arith, some))
onto-append c (p ∷ ps) qs some = refl

split-append : (xs ys : List ℕ) (b : ℕ) → is_blank b ≡ true → slice_split is_blank (xs ++ b ∷ ys) ≡ slice_split is_blank xs ++ slice_split is_blank ys
split-append [] ys b blank = slice_split-cons_yes is_blank b ys blank
split-append (x ∷ xs) ys b blank =
    let more = split-append xs ys b blank in
    ⊎_elim
    (λ yes. slice_split-cons_yes is_blank x (xs ++ b ∷ ys) yes ∙ ap (λ (ps : List (List ℕ)). [] ∷ ps) more ∙ ap (λ (ps : List (List ℕ)). ps ++ slice_split is_blank ys) (sym (slice_split-cons_yes is_blank x xs yes)))
    (λ other. slice_split-cons_no is_blank x (xs ++ b ∷ ys) other ∙ ap (onto_first x) more
    ∙ onto-append x (slice_split is_blank xs) (slice_split is_blank ys) (omega (arith, length-slice_split is_blank xs))
    ∙ ap (λ (ps : List (List ℕ)). ps ++ slice_split is_blank ys) (sym (slice_split-cons_no is_blank x xs other)))
    (cases_Bool (is_blank x))

-- Words behind a blank are words behind those in front of it.
words-append : (xs ys : List ℕ) → words (xs ++ 0x3000 ∷ ys) ≡ words xs ++ words ys
unfolding words
words-append xs ys = ap some_of (split-append xs ys 0x3000 refl) ∙ some-append (slice_split is_blank xs) (slice_split is_blank ys)

-- 2. AN ITEM.

blankless : List ℕ → Bool
blankless [] = true
blankless (c ∷ characters) = not (is_blank c) && blankless characters

split_whole : (characters : List ℕ) → blankless characters ≡ true → slice_split is_blank characters ≡ characters ∷ []
unfolding blankless
split_whole [] none = refl
split_whole (c ∷ characters) none =
    let parts = both_true (not (is_blank c)) (blankless characters) none in
    slice_split-cons_no is_blank c characters (not_true (is_blank c) parts.0) ∙ ap (onto_first c) (split_whole characters parts.1)
  where
    both_true : (a b : Bool) → (a && b) ≡ true → (a ≡ true) × (b ≡ true)
    both_true true true e = (refl, refl)
    both_true true false e = absurd cc
    both_true false b e = absurd cc

    not_true : (a : Bool) → not a ≡ true → a ≡ false
    not_true true e = absurd cc
    not_true false e = refl

one_word : (c : ℕ) (characters : List ℕ) → blankless (c ∷ characters) ≡ true → words (c ∷ characters) ≡ (c ∷ characters) ∷ []
unfolding words
one_word c characters none =
    ap some_of (split_whole (c ∷ characters) none) ∙ cond-true _ _ _ (lt-ltb 0 (suc (length characters)) (omega arith))

record KindAgain (kind : Kind) : Type 0 where
  pub character : ℕ
  pub written : Written (kind_text kind) (character ∷ [])
  pub is_kind : kind_of character ≡ Some kind
  pub none : is_blank character ≡ false

kind_again : (kind : Kind) → kind ≢ King → KindAgain kind
unfolding lib.Utf8.encode
kind_again Pawn held = record { character = 27497; written = record { is = refl; scalars = refl; plain = refl }; is_kind = refl; none = refl }
kind_again Lance held = record { character = 39321; written = record { is = refl; scalars = refl; plain = refl }; is_kind = refl; none = refl }
kind_again Knight held = record { character = 26690; written = record { is = refl; scalars = refl; plain = refl }; is_kind = refl; none = refl }
kind_again Silver held = record { character = 37504; written = record { is = refl; scalars = refl; plain = refl }; is_kind = refl; none = refl }
kind_again Gold held = record { character = 37329; written = record { is = refl; scalars = refl; plain = refl }; is_kind = refl; none = refl }
kind_again Bishop held = record { character = 35282; written = record { is = refl; scalars = refl; plain = refl }; is_kind = refl; none = refl }
kind_again Rook held = record { character = 39131; written = record { is = refl; scalars = refl; plain = refl }; is_kind = refl; none = refl }
kind_again King held = absurd (held refl)

record CountAgain (n : ℕ) : Type 0 where
  pub characters : List ℕ
  pub written : Written (count_text n) characters
  pub is_count : count_of characters ≡ Some n
  pub none : blankless characters ≡ true

count_again : (n : ℕ) → 1 ≤ n → n ≤ 18 → CountAgain n
unfolding lib.Utf8.encode blankless
count_again zero from to = absurd (omega (arith, from))
count_again (suc zero) from to = record { characters = []; written = record { is = refl; scalars = refl; plain = refl }; is_count = refl; none = refl }
count_again (suc (suc zero)) from to = record { characters = 20108 ∷ []; written = record { is = refl; scalars = refl; plain = refl }; is_count = refl; none = refl }
count_again (suc (suc (suc zero))) from to = record { characters = 19977 ∷ []; written = record { is = refl; scalars = refl; plain = refl }; is_count = refl; none = refl }
count_again (suc (suc (suc (suc zero)))) from to = record { characters = 22235 ∷ []; written = record { is = refl; scalars = refl; plain = refl }; is_count = refl; none = refl }
count_again (suc (suc (suc (suc (suc zero))))) from to = record { characters = 20116 ∷ []; written = record { is = refl; scalars = refl; plain = refl }; is_count = refl; none = refl }
count_again (suc (suc (suc (suc (suc (suc zero)))))) from to = record { characters = 20845 ∷ []; written = record { is = refl; scalars = refl; plain = refl }; is_count = refl; none = refl }
count_again (suc (suc (suc (suc (suc (suc (suc zero))))))) from to = record { characters = 19971 ∷ []; written = record { is = refl; scalars = refl; plain = refl }; is_count = refl; none = refl }
count_again (suc (suc (suc (suc (suc (suc (suc (suc zero)))))))) from to = record { characters = 20843 ∷ []; written = record { is = refl; scalars = refl; plain = refl }; is_count = refl; none = refl }
count_again (suc (suc (suc (suc (suc (suc (suc (suc (suc zero))))))))) from to = record { characters = 20061 ∷ []; written = record { is = refl; scalars = refl; plain = refl }; is_count = refl; none = refl }
count_again (suc (suc (suc (suc (suc (suc (suc (suc (suc (suc zero)))))))))) from to = record { characters = 21313 ∷ []; written = record { is = refl; scalars = refl; plain = refl }; is_count = refl; none = refl }
count_again (suc (suc (suc (suc (suc (suc (suc (suc (suc (suc (suc zero))))))))))) from to = record { characters = 21313 ∷ 19968 ∷ []; written = record { is = refl; scalars = refl; plain = refl }; is_count = refl; none = refl }
count_again (suc (suc (suc (suc (suc (suc (suc (suc (suc (suc (suc (suc zero)))))))))))) from to = record { characters = 21313 ∷ 20108 ∷ []; written = record { is = refl; scalars = refl; plain = refl }; is_count = refl; none = refl }
count_again (suc (suc (suc (suc (suc (suc (suc (suc (suc (suc (suc (suc (suc zero))))))))))))) from to = record { characters = 21313 ∷ 19977 ∷ []; written = record { is = refl; scalars = refl; plain = refl }; is_count = refl; none = refl }
count_again (suc (suc (suc (suc (suc (suc (suc (suc (suc (suc (suc (suc (suc (suc zero)))))))))))))) from to = record { characters = 21313 ∷ 22235 ∷ []; written = record { is = refl; scalars = refl; plain = refl }; is_count = refl; none = refl }
count_again (suc (suc (suc (suc (suc (suc (suc (suc (suc (suc (suc (suc (suc (suc (suc zero))))))))))))))) from to = record { characters = 21313 ∷ 20116 ∷ []; written = record { is = refl; scalars = refl; plain = refl }; is_count = refl; none = refl }
count_again (suc (suc (suc (suc (suc (suc (suc (suc (suc (suc (suc (suc (suc (suc (suc (suc zero)))))))))))))))) from to = record { characters = 21313 ∷ 20845 ∷ []; written = record { is = refl; scalars = refl; plain = refl }; is_count = refl; none = refl }
count_again (suc (suc (suc (suc (suc (suc (suc (suc (suc (suc (suc (suc (suc (suc (suc (suc (suc zero))))))))))))))))) from to = record { characters = 21313 ∷ 19971 ∷ []; written = record { is = refl; scalars = refl; plain = refl }; is_count = refl; none = refl }
count_again (suc (suc (suc (suc (suc (suc (suc (suc (suc (suc (suc (suc (suc (suc (suc (suc (suc (suc zero)))))))))))))))))) from to = record { characters = 21313 ∷ 20843 ∷ []; written = record { is = refl; scalars = refl; plain = refl }; is_count = refl; none = refl }
count_again (suc (suc (suc (suc (suc (suc (suc (suc (suc (suc (suc (suc (suc (suc (suc (suc (suc (suc (suc n))))))))))))))))))) from to = absurd (omega (arith, to))

record ItemAgain (kind : Kind) (count : ℕ) : Type 0 where
  pub characters : List ℕ
  pub written : Written (kind_text kind ++ count_text count) characters
  pub is_kind : word_kind characters ≡ Some kind
  pub is_count : word_count characters ≡ Some count
  pub is_word : words characters ≡ characters ∷ []

item_again : (kind : Kind) (count : ℕ) → kind ≢ King → 1 ≤ count → count ≤ 18 → ItemAgain kind count
unfolding blankless
item_again piece count held from to =
    let k = kind_again piece held in
    let n = count_again count from to in
    record {
      characters = k.character ∷ n.characters;
      written = written-append (kind_text piece) (count_text count) (k.character ∷ []) n.characters k.written n.written;
      is_kind = k.is_kind;
      is_count = n.is_count;
      is_word = one_word k.character n.characters (rw (k.none, n.none) refl);
    }

-- 3. ITEMS ONE AFTER THE OTHER.

-- How many of a kind a hand has, among those of some kinds.
abbrev pub counted : Kind → List ℕ → List Kind → ℕ
counted wanted hand [] = 0
counted wanted hand (kind ∷ kinds) = counted wanted hand kinds + (if same_kind kind wanted then hand_count hand kind else 0)

-- The text names what a hand has of these kinds, and nothing else, with no fault.
pub record Items (hand : List ℕ) (done : List Kind) (text : List ℕ) : Type 0 where
  pub characters : List ℕ
  pub list : List (List ℕ)
  pub written : Written text characters
  pub is_words : words characters ≡ list
  pub counts : (kind : Kind) → count_for kind list ≡ counted kind hand done
  pub none : (line : ℕ) → HasNone (HasWordFault line) list

pub no_items : (hand : List ℕ) → Items hand [] []
unfolding words count_for
no_items hand = record {
  characters = [];
  list = [];
  written = written-nothing;
  is_words = refl;
  counts = λ kind. refl;
  none = λ line. none_in_nothing (HasWordFault line);
}

-- Nothing is written by no characters.
pub no_characters : (characters : List ℕ) → Written [] characters → characters ≡ []
no_characters characters w = encodes_same characters [] (sym w.is)

pub no_words : words [] ≡ []
unfolding words
no_words = refl

-- An item behind the others.
behind_others : (text characters item item_characters : List ℕ) (list : List (List ℕ)) → Written text characters → words characters ≡ list → Written item item_characters
    → words item_characters ≡ item_characters ∷ [] → (cs : List ℕ) × Written (with_blank text ++ item) cs × (words cs ≡ list ++ item_characters ∷ [])
unfolding lib.Utf8.encode
behind_others [] characters item item_characters list w is v word =
    let nothing : list ≡ [] = sym is ∙ ap words (no_characters characters w) ∙ no_words in
    (item_characters, v, word ∙ ap (λ (l : List (List ℕ)). l ++ item_characters ∷ []) (sym nothing))
behind_others (byte ∷ text) characters item item_characters list w is v word =
    let blank : Written wide_blank (0x3000 ∷ []) = record { is = refl; scalars = refl; plain = refl } in (
      (characters ++ 0x3000 ∷ []) ++ item_characters,
      written-append ((byte ∷ text) ++ wide_blank) item (characters ++ 0x3000 ∷ []) item_characters (written-append (byte ∷ text) wide_blank characters (0x3000 ∷ []) w blank) v,
      ap words (append_assoc characters (0x3000 ∷ []) item_characters) ∙ words-append characters item_characters ∙ ap₂ (λ (a b : List (List ℕ)). a ++ b) is word,
    )

word_faultless : (line : ℕ) (list : List (List ℕ)) (kind : Kind) (count : ℕ) (word : List ℕ) → word_kind word ≡ Some kind → word_count word ≡ Some count
    → count_for kind list ≡ 0 → (fault : KifFault) → HasWordFault line list word fault → ⊥
word_faultless line list piece count word k n none fault is =
    let nothing : fault_of line list (Some piece) (Some count) ≡ None = rw none refl in
    let same : fault_of line list (word_kind word) (word_count word) ≡ fault_of line list (Some piece) (Some count) = ap₂ (fault_of line list) k n in
    let no : None ≡ Some fault = sym nothing ∙ sym same ∙ is in
    absurd cc

some_item : (before item : List ℕ) → (byte : ℕ) × (rest : List ℕ) × (item ≡ byte ∷ rest) → joined before item ≡ with_blank before ++ item
some_item before item some = rw (some.2) refl

name_some : (kind : Kind) (count : List ℕ) → (byte : ℕ) × (rest : List ℕ) × (kind_text kind ++ count ≡ byte ∷ rest)
unfolding lib.Utf8.encode
name_some Pawn count = (_, _, refl)
name_some Lance count = (_, _, refl)
name_some Knight count = (_, _, refl)
name_some Silver count = (_, _, refl)
name_some Gold count = (_, _, refl)
name_some Bishop count = (_, _, refl)
name_some Rook count = (_, _, refl)
name_some King count = (_, _, refl)

plus_none : (same : Bool) (c n : ℕ) → n ≡ 0 → c ≡ c + (if same then n else 0)
plus_none true c n none = omega (arith, none)
plus_none false c n none = omega arith

word_counts : (wanted kind : Kind) (n : ℕ) (word : List ℕ) → word_kind word ≡ Some kind → word_count word ≡ Some n
    → count_in wanted word ≡ (if same_kind kind wanted then n else 0)
word_counts wanted piece n word k c = rw (k, c) refl

-- One more kind.
pub items_more : (hand : List ℕ) (done : List Kind) (kind : Kind) (n : ℕ) (text : List ℕ) → hand_count hand kind ≡ n → n ≤ 18 → kind ≢ King → counted kind hand done ≡ 0
    → Items hand done text → Items hand (kind ∷ done) (joined text (held_text kind n))
items_more hand done piece zero text has few held fresh items = record {
  characters = items.characters;
  list = items.list;
  written = items.written;
  is_words = items.is_words;
  counts = λ wanted. items.counts wanted ∙ plus_none (same_kind piece wanted) (counted wanted hand done) (hand_count hand piece) has;
  none = items.none;
}
items_more hand done piece (suc m) text has few held fresh items =
    let item = item_again piece (suc m) held (omega arith) few in
    let behind = behind_others text items.characters (kind_text piece ++ count_text (suc m)) item.characters items.list items.written items.is_words item.written item.is_word in
    record {
      characters = behind.0;
      list = items.list ++ item.characters ∷ [];
      written = subst (λ (t : List ℕ). Written t behind.0) (sym (some_item text (kind_text piece ++ count_text (suc m)) (name_some piece (count_text (suc m))))) behind.1;
      is_words = behind.2;
      counts = λ wanted. count_more wanted items.list item.characters ∙ ap₂ (λ (a b : ℕ). a + b) (items.counts wanted)
          (word_counts wanted piece (suc m) item.characters item.is_kind item.is_count ∙ ap (λ (n : ℕ). if same_kind piece wanted then n else 0) (sym has));
      none = λ line. none_in_more (HasWordFault line) items.list item.characters (items.none line)
          (word_faultless line items.list piece (suc m) item.characters item.is_kind item.is_count (items.counts piece ∙ fresh));
    }
