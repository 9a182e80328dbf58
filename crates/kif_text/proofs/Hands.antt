-- Words name a hand, and one more word adds its pieces.
use Rattle.std.proofs.Common.{◌≡◌, ◌≢◌, ℕ, ◌+◌, ◌≤◌, List, [], ◌∷◌, ◌++◌, refl, sym, ap, subst, ◌∙◌, arith, Option, Some, None, Ok}
use Rattle.std.specs.Prelude.{replicate, codes, slice_set, slice_index, if◌then◌else◌}
use Rattle.std.specs.List.{sum_by}
use Rattle.std.specs.Str.{chars, encode_utf8_all}
use Rattle.std.proofs.lemmas.List.Sums.{sum_by-append, sum_by-cons}
use Rattle.bit_boards.specs.declared.piece.Kind.{Kind}
use Rattle.bit_boards.specs.declared.piece.Kind.TheVariants.{Pawn, Lance, Knight, Silver, Gold, Bishop, Rook, King}
use Rattle.bit_boards.specs.Kind.{place_of, same_kind}
use Rattle.kif_text.specs.Characters.{kind_of, count_of}
use Rattle.kif_text.specs.Words.{count_where, count_in, count_for, words, hand_with, fault_of}
use Rattle.kif_text.specs.Steps.{IsWordRead}

pub count_more : (kind : Kind) (list : List (List ℕ)) (word : List ℕ) → count_for kind (list ++ word ∷ []) ≡ count_for kind list + count_in kind word
unfolding count_for
count_more kind list word =
    let both = sum_by-append (count_in kind) list (word ∷ []) in
    let one = sum_by-cons (count_in kind) word [] in
    let nothing : sum_by (count_in kind) [] ≡ 0 = refl in
    omega arith

pub nothing_named : replicate 7 0 ≡ hand_with []
unfolding count_for
nothing_named = refl

pub none_named : (text : List ℕ) → text ≡ encode_utf8_all (codes "なし") → replicate 7 0 ≡ hand_with (words (chars text))
unfolding count_for words chars lib.Utf8.encode
none_named text is = rw is refl

-- The count of a kind in a hand.
pub held : (list : List (List ℕ)) (kind : Kind) → kind ≢ King → slice_index (hand_with list) (place_of kind) ≡ count_for kind list
held list Pawn h = refl
held list Lance h = refl
held list Knight h = refl
held list Silver h = refl
held list Gold h = refl
held list Bishop h = refl
held list Rook h = refl
held list King h = absurd (h refl)

-- A kind's count with a word that names it, and with one that names another.
named : (list : List (List ℕ)) (c : ℕ) (more : List ℕ) (kind : Kind) (count : ℕ) (k : Kind) → kind_of c ≡ Some kind → count_of more ≡ Some count
    → count_for k (list ++ (c ∷ more) ∷ []) ≡ count_for k list + (if same_kind kind k then count else 0)
named list c more kind count k e f = count_more k list (c ∷ more) ∙ ap (λ (o : Option Kind). count_for k list + count_where k o (count_of more)) e ∙ ap (λ (o : Option ℕ). count_for k list + count_where k (Some kind) o) f

seven : {a b c d e f g h i j k l m n : ℕ} → a ≡ h → b ≡ i → c ≡ j → d ≡ k → e ≡ l → f ≡ m → g ≡ n → a ∷ b ∷ c ∷ d ∷ e ∷ f ∷ g ∷ [] ≡ h ∷ i ∷ j ∷ k ∷ l ∷ m ∷ n ∷ []
seven p q r s t u v = λ x. p x ∷ q x ∷ r x ∷ s x ∷ t x ∷ u x ∷ v x ∷ []

hand_more : (list : List (List ℕ)) (c : ℕ) (more : List ℕ) (kind : Kind) (count : ℕ) → kind ≢ King → kind_of c ≡ Some kind → count_of more ≡ Some count → count_for kind list ≡ 0
    → slice_set (hand_with list) (place_of kind) count ≡ hand_with (list ++ (c ∷ more) ∷ [])
hand_more list c more kind count apart e f zero =
    let n : (k : Kind) → count_for k (list ++ (c ∷ more) ∷ []) ≡ count_for k list + (if same_kind kind k then count else 0) = λ k. named list c more kind count k e f in
    by kind apart n zero
  where
    by : (kind : Kind) → kind ≢ King → ((k : Kind) → count_for k (list ++ (c ∷ more) ∷ []) ≡ count_for k list + (if same_kind kind k then count else 0)) → count_for kind list ≡ 0
        → slice_set (hand_with list) (place_of kind) count ≡ hand_with (list ++ (c ∷ more) ∷ [])
    by Pawn apart n zero = seven (omega (arith, n Pawn)) (omega (arith, n Lance)) (omega (arith, n Knight)) (omega (arith, n Silver)) (omega (arith, n Gold)) (omega (arith, n Bishop)) (omega (arith, n Rook))
    by Lance apart n zero = seven (omega (arith, n Pawn)) (omega (arith, n Lance)) (omega (arith, n Knight)) (omega (arith, n Silver)) (omega (arith, n Gold)) (omega (arith, n Bishop)) (omega (arith, n Rook))
    by Knight apart n zero = seven (omega (arith, n Pawn)) (omega (arith, n Lance)) (omega (arith, n Knight)) (omega (arith, n Silver)) (omega (arith, n Gold)) (omega (arith, n Bishop)) (omega (arith, n Rook))
    by Silver apart n zero = seven (omega (arith, n Pawn)) (omega (arith, n Lance)) (omega (arith, n Knight)) (omega (arith, n Silver)) (omega (arith, n Gold)) (omega (arith, n Bishop)) (omega (arith, n Rook))
    by Gold apart n zero = seven (omega (arith, n Pawn)) (omega (arith, n Lance)) (omega (arith, n Knight)) (omega (arith, n Silver)) (omega (arith, n Gold)) (omega (arith, n Bishop)) (omega (arith, n Rook))
    by Bishop apart n zero = seven (omega (arith, n Pawn)) (omega (arith, n Lance)) (omega (arith, n Knight)) (omega (arith, n Silver)) (omega (arith, n Gold)) (omega (arith, n Bishop)) (omega (arith, n Rook))
    by Rook apart n zero = seven (omega (arith, n Pawn)) (omega (arith, n Lance)) (omega (arith, n Knight)) (omega (arith, n Silver)) (omega (arith, n Gold)) (omega (arith, n Bishop)) (omega (arith, n Rook))
    by King apart n zero = absurd (apart refl)

pub item_read : (line : ℕ) (before : List (List ℕ)) (c : ℕ) (more : List ℕ) (hand : List ℕ) (kind : Kind) (count : ℕ) → hand ≡ hand_with before → kind ≢ King → kind_of c ≡ Some kind → count_of more ≡ Some count
    → slice_index hand (place_of kind) ≤ 0 → IsWordRead line before (c ∷ more) (Ok (slice_set hand (place_of kind) count))
item_read line before c more hand kind count is apart e f few =
    let zero : count_for kind before ≡ 0 = let h = held before kind apart in let s : slice_index hand (place_of kind) ≡ slice_index (hand_with before) (place_of kind) = ap (λ (l : List ℕ). slice_index l (place_of kind)) is in omega arith in (
      λ fault there. let same : fault_of line before (kind_of c) (count_of more) ≡ None = rw (e, f, zero) refl in cc,
      ap (λ (l : List ℕ). slice_set l (place_of kind) count) is ∙ hand_more before c more kind count apart e f zero,
    )

-- The same of a word and a hand that are these.
pub word_read : (line : ℕ) (before : List (List ℕ)) (word : List ℕ) (c : ℕ) (more : List ℕ) (hand new : List ℕ) (kind : Kind) (count : ℕ) → word ≡ c ∷ more → new ≡ slice_set hand (place_of kind) count
    → hand ≡ hand_with before → kind ≢ King → kind_of c ≡ Some kind → count_of more ≡ Some count → slice_index hand (place_of kind) ≤ 0 → IsWordRead line before word (Ok new)
word_read line before word c more hand new kind count is_word is_new is apart e f few =
    subst (λ (w : List ℕ). IsWordRead line before w (Ok new)) (sym is_word) (subst (λ (h : List ℕ). IsWordRead line before (c ∷ more) (Ok h)) (sym is_new) (item_read line before c more hand kind count is apart e f few))
