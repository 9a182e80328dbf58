-- What stands in front of a text, and behind that; and the words of a text.
use Rattle.std.proofs.Common.{◌≡◌, ℕ, ◌+◌, ◌<◌, Bool, true, false, cond, ◌&&◌, List, [], ◌∷◌, ◌++◌, length, take, drop, eqb, refl, sym, ap, subst, ◌∙◌, arith, Bor, Option, Some, None, append_assoc}
use Rattle.std.specs.Prelude.{MatchOption, nat_lt}
use Rattle.std.specs.Char.{encode_utf8}
use Rattle.std.specs.Str.{chars, IsUtf8, NonePass, NoCharPasses, IsCharBoundary, encode_utf8_all, all_scalars}
use Rattle.std.specs.Str.Pattern.{FindsTextPrefix, LacksTextAt, FindsBy}
use Rattle.std.specs.List.{starts_with, slice_split, All}
use lib.Utf8.{scalar}
use lib.Pointwise.{pointwise}
use Rattle.std.proofs.lemmas.Bool.{lt-ltb}
use Rattle.std.proofs.lemmas.Slice.Eq.{slice_eq-Decides}
use Rattle.std.proofs.lemmas.Bool.Decides.{Decides-eqb}
use Rattle.std.proofs.lemmas.List.{append-nil, take-append-drop}
use Rattle.std.proofs.lemmas.List.Elements.{All-nil, All-cons}
use Rattle.std.proofs.lemmas.List.Splits.{slice_split_at, slice_split_none}
use Rattle.std.proofs.lemmas.Str.{chars-nil, chars-encodes, chars_from_encodes, cons_from_encodes, encodes-chars, len_utf8_bounds}
use Rattle.std.proofs.lemmas.Str.Pattern.{starts_text}
use Rattle.kif_text.specs.Characters.{is_blank}
use Rattle.kif_text.specs.Words.{words, some_of}

-- What `strip_prefix` gives at a text, as a test and what is behind.
pub prefix_behind : (word line : List ℕ) (r : Option (Bor (List ℕ))) → MatchOption r (LacksTextAt word line 0) (λ x. (n : ℕ) × FindsTextPrefix word line (Some n) × (x.now ≡ drop n line) × (length x.now + n ≡ length line))
    → MatchOption r (starts_with eqb line word ≡ false) (λ rest. (starts_with eqb line word ≡ true) × (rest.now ≡ drop (length word) line))
prefix_behind word line None h = sym (starts_text false word line h)
prefix_behind word line (Some x) h =
    let e : h.0 ≡ length word = h.1.0 in (
      sym (starts_text true word line (h.0, h.1, subst (λ (n : ℕ). IsCharBoundary line n) (sym e) h.1.2)),
      h.2 ∙ ap (λ n. drop n line) e,
    )

-- ---- words

and_both : (a b : Bool) → a && b ≡ true → (a ≡ true) × (b ≡ true)
and_both true b e = (refl, e)
and_both false b e = absurd cc

scalars_both : (cs ds : List ℕ) → all_scalars (cs ++ ds) ≡ true → (all_scalars cs ≡ true) × (all_scalars ds ≡ true)
scalars_both [] ds e = (refl, e)
scalars_both (c ∷ cs) ds e =
    let h = and_both (scalar c) (all_scalars (cs ++ ds)) e in
    let more = scalars_both cs ds h.1 in
    (ap (λ b. b && all_scalars cs) h.0 ∙ more.0, more.1)

-- Characters that are spelled in front of one more stand in front of it.
peel : (cs ds : List ℕ) (c : ℕ) (rest : List ℕ) → encode_utf8_all ds ≡ encode_utf8_all cs ++ (encode_utf8 c ++ rest) → (es : List ℕ) × (ds ≡ cs ++ c ∷ es) × (encode_utf8_all es ≡ rest)
peel [] ds c rest e = let m = cons_from_encodes ds rest c e in (m.0, m.1, m.2)
peel (d ∷ cs) ds c rest e =
    let m = cons_from_encodes ds (encode_utf8_all cs ++ (encode_utf8 c ++ rest)) d (e ∙ append_assoc (encode_utf8 d) (encode_utf8_all cs) (encode_utf8 c ++ rest)) in
    let k = peel cs m.0 c rest m.2 in
    (k.0, m.1 ∙ ap (λ (l : List ℕ). d ∷ l) k.1, k.2)

none_blank : (p : ℕ → Bool) (cs : List ℕ) → NonePass p cs → All (λ c. p c ≡ false) cs
none_blank p [] h = All-nil (λ c. p c ≡ false)
none_blank p (c ∷ cs) h = All-cons (λ x. p x ≡ false) c cs h.0 (none_blank p cs h.1)

some_first : (b : Bool) (x : List ℕ) (rest : List (List ℕ)) → cond b (x ∷ rest) rest ≡ cond b (x ∷ []) [] ++ rest
some_first true x rest = refl
some_first false x rest = refl

-- The words of a text in which a blank was found.
pub words_cut : (text front back : List ℕ) (i j : ℕ) → IsUtf8 text → FindsBy is_blank text (Some (i, j)) → front ≡ take i text → back ≡ drop j text
    → (words (chars text) ≡ some_of (chars front ∷ []) ++ words (chars back)) × IsUtf8 front × IsUtf8 back
unfolding words
words_cut text front back i j utf8 found is_front is_back =
    let cs = found.0.0 in
    let c = found.1.0 in
    let spelled : encode_utf8_all utf8.0 ≡ encode_utf8_all cs ++ (encode_utf8 c ++ drop j text)
    = utf8.1.1 ∙ sym (take-append-drop i text) ∙ ap (λ l. l ++ drop i text) (sym found.0.1) ∙ ap (λ l. encode_utf8_all cs ++ l) found.1.2.split in
    let k = peel cs utf8.0 c (drop j text) spelled in
    let scalar_cs = scalars_both cs (c ∷ k.0) (ap all_scalars (sym k.1) ∙ utf8.1.0) in
    let scalar_es = and_both (scalar c) (all_scalars k.0) scalar_cs.1 in
    let chars_front : chars front ≡ cs = ap chars (is_front ∙ sym found.0.1) ∙ chars-encodes cs scalar_cs.0 in
    let chars_back : chars back ≡ k.0 = ap chars (is_back ∙ sym k.2) ∙ chars-encodes k.0 scalar_es.1 in
    let whole : chars text ≡ cs ++ c ∷ k.0 = sym (chars_from_encodes utf8.0 text utf8 utf8.1.1) ∙ k.1 in (
      ap (λ l. some_of (slice_split is_blank l)) whole ∙ ap some_of (slice_split_at is_blank cs c k.0 (none_blank is_blank cs found.0.2) found.1.1)
          ∙ some_first (nat_lt 0 (length cs)) cs (some_of (slice_split is_blank k.0))
          ∙ (λ i. some_of (sym chars_front i ∷ []) ++ some_of (slice_split is_blank (sym chars_back i))),
      (cs, (scalar_cs.0, found.0.1 ∙ sym is_front)),
      (k.0, (scalar_es.1, k.2 ∙ sym is_back)),
    )

-- The words of a text without a blank.
pub words_whole : (text : List ℕ) → IsUtf8 text → NoCharPasses is_blank text → words (chars text) ≡ some_of (chars text ∷ []) ++ words (chars [])
unfolding words
words_whole text utf8 h =
    let same : h.0 ≡ chars text = chars_from_encodes h.0 text utf8 h.1 in
    ap some_of (slice_split_none is_blank (chars text) (subst (All (λ c. is_blank c ≡ false)) same (none_blank is_blank h.0 h.2)))
    ∙ sym (append-nil (some_of (chars text ∷ []))) ∙ ap (λ l. some_of (chars text ∷ []) ++ some_of (slice_split is_blank l)) (sym chars-nil)

-- A blank takes a byte at least.
pub blank_taken : (text : List ℕ) (i j : ℕ) → FindsBy is_blank text (Some (i, j)) → 0 < j
blank_taken text i j found = let e = found.1.2.ends in omega (arith, len_utf8_bounds found.1.0)

-- A text with a byte has a character.
pub chars_some : (text : List ℕ) → IsUtf8 text → 0 < length text → 0 < length (chars text)
chars_some text utf8 some = by (chars text) (encodes-chars text utf8)
  where
    by : (cs : List ℕ) → encode_utf8_all cs ≡ text → 0 < length cs
    by [] e = absurd (omega (arith, ap length e))
    by (c ∷ cs) e = omega arith

-- The test whether two texts are one.
pub text_is : (text other : List ℕ) (r : Bool) → r ≡ pointwise eqb text other → r ≡ true → text ≡ other
text_is text other r e t = (slice_eq-Decides Decides-eqb text other r e).0 t

pub text_is_not : (text other : List ℕ) (r : Bool) → r ≡ pointwise eqb text other → r ≡ false → text ≡ other → ⊥
text_is_not text other r e f same = let t : r ≡ true = (slice_eq-Decides Decides-eqb text other r e).1 same in cc

-- A word that has a character comes first; one that has none doesn't count; where nothing stands,
-- no word does.
pub word_next : (text word rest : List ℕ) → IsUtf8 word → 0 < length word → words (chars text) ≡ some_of (chars word ∷ []) ++ words (chars rest) → words (chars text) ≡ chars word ∷ words (chars rest)
word_next text word rest utf8 some cut = cut ∙ ap (λ (l : List (List ℕ)). l ++ words (chars rest)) one
  where
    one : some_of (chars word ∷ []) ≡ chars word ∷ []
    one = rw (lt-ltb 0 (length (chars word)) (chars_some word utf8 some)) refl

pub word_skipped : (text word rest : List ℕ) → length word ≡ 0 → words (chars text) ≡ some_of (chars word ∷ []) ++ words (chars rest) → words (chars text) ≡ words (chars rest)
word_skipped text [] rest none cut = cut ∙ ap (λ (l : List ℕ). some_of (l ∷ []) ++ words (chars rest)) chars-nil
word_skipped text (b ∷ word) rest none cut = absurd (omega arith)

pub no_words : (text : List ℕ) → length text ≡ 0 → words (chars text) ≡ []
unfolding words chars
no_words [] none = refl
no_words (b ∷ text) none = absurd (omega arith)
