-- Where a text is cut, and which bytes numbers, moves and positions lack.
use Rattle.std.proofs.Common.{inl, inr, ◌≡◌, ◌≢◌, ◌<◌, ◌≤◌, ◌+◌, ◌^◌, ℕ, Bool, true, false, ◌==◌, List, [], ◌∷◌, ◌++◌, length, take, get_or, refl, sym, subst, ◌∙◌, arith}
use Rattle.std.specs.Prelude.{◌||◌, Option, Some, None, IfNone}
use Rattle.std.specs.List.{AllByRecursion}
use Rattle.std.specs.Fmt.{decimal}
use Rattle.std.specs.Str.Parse.{AllDigits}
use Rattle.std.specs.Ordering.{nat_cmp}
use Rattle.std.specs.Cmp.Lexicographic.{slice_cmp}
use Rattle.std.specs.declared.cmp.Ordering.TheVariants.{Less}
use Rattle.std.proofs.lemmas.Fmt.{decimal_is_IsNumeral}
use Rattle.std.proofs.lemmas.Str.Parse.{digit_from_value}
use Rattle.std.proofs.lemmas.List.{take_more}
use Rattle.std.proofs.lemmas.Bool.Decides.{eqb_tells}
use Rattle.board_core.specs.declared.moves.Move.{Move}
use Rattle.board_core.specs.declared.moves.Move.TheVariants as moves
use Rattle.bit_boards.specs.declared.piece.Kind.{Kind}
use Rattle.bit_boards.specs.declared.piece.Kind.TheVariants.{Pawn, Lance, Knight, Silver, Gold, Bishop, Rook, King}
use Rattle.bit_boards.specs.Square.{file_of}
use Rattle.board_core.specs.Board.{Board}
use Rattle.board_core.specs.Kept.{IsKept}
use Rattle.bit_boards.specs.Text.{kind_letter}
use Rattle.usi_text.specs.MoveText.{move_text, promotion_text}
use Rattle.sfen_text.specs.Spelling.{sfen_of}
use Rattle.sfen_text.specs.Laws.{TextsHaveBytes, TextsAreLines}
use Rattle.cert_text.specs.Reading.{Lacks}

pub lacks_both : (d : ℕ) (xs ys : List ℕ) → Lacks d xs → Lacks d ys → Lacks d (xs ++ ys)
lacks_both d [] ys p q = q
lacks_both d (x ∷ xs) ys p q = (p.0, lacks_both d xs ys p.1 q)

pub all_push : {A : Type 0} (P : A → Type 0) (xs : List A) (x : A) → AllByRecursion P xs → P x → AllByRecursion P (xs ++ x ∷ [])
all_push P [] x all p = (p, tt)
all_push P (y ∷ xs) x all p = (all.0, all_push P xs x all.1 p)

pub if_none : {A : Type 0} (r : Option A) (P Q : Type 0) → (P → Q) → IfNone r P → IfNone r Q
if_none None P Q f h = f h
if_none (Some x) P Q f h = tt

pub if_none_always : {A : Type 0} (r : Option A) (P : Type 0) → P → IfNone r P
if_none_always None P p = p
if_none_always (Some x) P p = tt

pub not_lacks : (d : ℕ) (xs ys : List ℕ) → Lacks d (xs ++ d ∷ ys) → ⊥
not_lacks d [] ys h = h.0 refl
not_lacks d (x ∷ xs) ys h = not_lacks d xs ys h.1

-- What stands before the first such byte, and behind it, is determined.
pub cut_same : (d : ℕ) (xs ys fs gs : List ℕ) → Lacks d xs → Lacks d fs → xs ++ d ∷ ys ≡ fs ++ d ∷ gs → (xs ≡ fs) × (ys ≡ gs)
cut_same d [] ys [] gs p q e = (refl, cc)
cut_same d [] ys (f ∷ fs) gs p q e = let h : f ≡ d = cc in absurd (q.0 h)
cut_same d (x ∷ xs) ys [] gs p q e = let h : x ≡ d = cc in absurd (p.0 h)
cut_same d (x ∷ xs) ys (f ∷ fs) gs p q e =
    let h : x ≡ f = cc in
    let t : xs ++ d ∷ ys ≡ fs ++ d ∷ gs = cc in
    let more = cut_same d xs ys fs gs p.1 q.1 t in
    let same : xs ≡ fs = more.0 in
    (cc, more.1)

pub lacks_more : (d : ℕ) (text : List ℕ) (i : ℕ) → i < length text → Lacks d (take i text) → get_or text i 0 ≢ d → Lacks d (take (i + 1) text)
lacks_more d text i lt p ne = subst (Lacks d) (sym (take_more text i 0 lt)) (lacks_both d (take i text) (get_or text i 0 ∷ []) p (ne, tt))

-- Whether a byte is in a text.
abbrev pub has : ℕ → List ℕ → Bool
has d [] = false
has d (x ∷ xs) = x == d || has d xs

or_false : (a b : Bool) → (a || b) ≡ false → (a ≡ false) × (b ≡ false)
or_false true b e = absurd cc
or_false false b e = (refl, e)

pub lacks_by : (d : ℕ) (xs : List ℕ) → has d xs ≡ false → Lacks d xs
lacks_by d [] e = tt
lacks_by d (x ∷ xs) e =
    let parts = or_false (x == d) (has d xs) e in
    let no : x == d ≡ false = parts.0 in
    ((λ (h : x ≡ d). elim (eqb_tells x d) [ inl t ↦ absurd (let yes : x == d ≡ true = t.0 in let bad : true ≡ false = sym yes ∙ no in cc) | inr f ↦ f.1 h ]), lacks_by d xs parts.1)

pub digits_lack : (d : ℕ) (ds : List ℕ) → d < 48 → AllDigits 10 ds → Lacks d ds
digits_lack d [] lt all = tt
digits_lack d (x ∷ xs) lt all = let h = digit_from_value x all.0 in ((λ (e : x ≡ d). omega (arith, h.0)), digits_lack d xs lt all.1)

-- A number's digits aren't below the digit zero.
pub decimal_lacks : (d n : ℕ) → d < 48 → n < 2 ^ 64 → Lacks d (decimal n)
decimal_lacks d n lt h = digits_lack d (decimal n) lt (decimal_is_IsNumeral n h).0.1

promotion_lacks : (d : ℕ) (p : Bool) → d < 42 → Lacks d (promotion_text p)
promotion_lacks d true lt = ((λ (e : 43 ≡ d). omega arith), tt)
promotion_lacks d false lt = tt

letter_above : (k : Kind) → 42 ≤ kind_letter k
letter_above Pawn = omega arith
letter_above Lance = omega arith
letter_above Knight = omega arith
letter_above Silver = omega arith
letter_above Gold = omega arith
letter_above Bishop = omega arith
letter_above Rook = omega arith
letter_above King = omega arith

letter_below : (k : Kind) → kind_letter k < 100
letter_below Pawn = omega arith
letter_below Lance = omega arith
letter_below Knight = omega arith
letter_below Silver = omega arith
letter_below Gold = omega arith
letter_below Bishop = omega arith
letter_below Rook = omega arith
letter_below King = omega arith

-- A move's bytes are 42, the star, or above.
pub move_lacks : (d : ℕ) (m : Move) → d < 42 → Lacks d (move_text m)
move_lacks d (moves.Board from to p) lt = ((λ e. omega (arith, e)), ((λ e. omega (arith, e)), ((λ e. omega (arith, e)), ((λ e. omega (arith, e)), promotion_lacks d p lt))))
move_lacks d (moves.Drop k to) lt = ((λ e. omega (arith, e, letter_above k)), ((λ e. omega (arith, e)), ((λ e. omega (arith, e)), ((λ e. omega (arith, e)), tt))))

-- No move's text begins with a small letter.
pub move_first : (m : Move) (rest more : List ℕ) → move_text m ++ rest ≡ 110 ∷ more → ⊥
move_first (moves.Board from to p) rest more e = let h : 48 + file_of from.number ≡ 110 = cc in omega (arith, from.on_board)
move_first (moves.Drop k to) rest more e = let h : kind_letter k ≡ 110 = cc in omega (arith, letter_below k)

high_lacks : (d : ℕ) (xs : List ℕ) → d < 32 → AllByRecursion (λ byte. 32 ≤ byte) xs → Lacks d xs
high_lacks d [] lt all = tt
high_lacks d (x ∷ xs) lt all = ((λ (e : x ≡ d). omega (arith, all.0)), high_lacks d xs lt all.1)

-- No line feed stands in an SFEN text.
pub sfen_lacks : TextsAreLines → (b : Board) → IsKept b → Lacks 10 (sfen_of b)
sfen_lacks lines b kept = high_lacks 10 (sfen_of b) (omega arith) (lines b kept)

before_some : (xs : List ℕ) → 0 < length xs → slice_cmp nat_cmp [] xs ≡ Less
before_some [] lt = absurd (omega arith)
before_some (x ∷ xs) lt = refl

-- The empty text comes before every SFEN text.
pub empty_before : TextsHaveBytes → (b : Board) → slice_cmp nat_cmp [] (sfen_of b) ≡ Less
empty_before bytes b = before_some (sfen_of b) (bytes b)
