-- Lists of entries one behind the other, and texts that end with a line.
use Rattle.std.proofs.Common.{inl, inr, ◌≡◌, ◌≢◌, ◌+◌, ◌-◌, ℕ, Bool, true, false, ◌==◌, List, [], ◌∷◌, ◌++◌, length, take, drop, map, refl, sym, ap, subst, ◌∙◌, append_assoc, arith}
use Rattle.std.proofs.lemmas.List.{take-append-drop, take_rest, take_at, length-append}
use Rattle.std.proofs.lemmas.Bool.Decides.{eqb_tells}
use Rattle.std.specs.List.{AllByRecursion}
use Rattle.board_core.specs.Board.{Board}
use Rattle.cert_text.specs.Certificate.{IsRising, Form}
use Rattle.cert_text.specs.Text.{entries_text}
use Rattle.cert_text.specs.Reading.{Lacks}
use Rattle.cert_text.specs.Lines.{AreLines}
use Rattle.cert_text.proofs.Offered.{not_lacks}

pub rising_glued : (xs : List Board) (y : Board) (ys : List Board) → IsRising (xs ++ y ∷ []) → IsRising (y ∷ ys) → IsRising (xs ++ y ∷ ys)
rising_glued [] y ys h k = k
rising_glued (a ∷ []) y ys h k = (h.0, k)
rising_glued (a ∷ b ∷ xs) y ys h k = (h.0, rising_glued (b ∷ xs) y ys h.1 k)

pub rising_behind : (xs ys : List Board) → IsRising (xs ++ ys) → IsRising ys
rising_behind [] ys h = h
rising_behind (a ∷ []) [] h = tt
rising_behind (a ∷ []) (y ∷ ys) h = h.1
rising_behind (a ∷ b ∷ xs) ys h = rising_behind (b ∷ xs) ys h.1

pub map_both : {A B : Type 0} (f : A → B) (xs ys : List A) → map f (xs ++ ys) ≡ map f xs ++ map f ys
map_both f [] ys = refl
map_both f (x ∷ xs) ys = ap (λ zs. f x ∷ zs) (map_both f xs ys)

pub all_both : {A : Type 0} (P : A → Type 0) (xs ys : List A) → AllByRecursion P xs → AllByRecursion P ys → AllByRecursion P (xs ++ ys)
all_both P [] ys p q = q
all_both P (x ∷ xs) ys p q = (p.0, all_both P xs ys p.1 q)

pub texts_both : {A : Type 0} (form : Form A) (xs ys : List A) → entries_text form (xs ++ ys) ≡ entries_text form xs ++ entries_text form ys
texts_both form [] ys = refl
texts_both form (x ∷ xs) ys =
    ap (λ (t : List ℕ). form.text_of x ++ t) (texts_both form xs ys) ∙ sym (append_assoc (form.text_of x) (entries_text form xs) (entries_text form ys))

none_behind : (xs ys : List ℕ) → xs ++ ys ≡ [] → ys ≡ []
none_behind [] ys e = e
none_behind (x ∷ xs) ys e = absurd (cc)

none_behind_line : (xs ys front : List ℕ) → xs ++ ys ≡ front ++ 10 ∷ [] → Lacks 10 ys → ys ≡ []
none_behind_line [] ys front e lack = absurd (not_lacks 10 front [] (subst (Lacks 10) e lack))
none_behind_line (x ∷ xs) ys [] e lack = let tail : xs ++ ys ≡ [] = cc in none_behind xs ys tail
none_behind_line (x ∷ xs) ys (f ∷ front) e lack = let tail : xs ++ ys ≡ front ++ 10 ∷ [] = cc in none_behind_line xs ys front tail lack

-- Nothing is left of whole lines where no line is left.
pub none_left : (text xs ys : List ℕ) → AreLines text → text ≡ xs ++ ys → Lacks 10 ys → ys ≡ []
none_left text xs ys (inl none) e lack = none_behind xs ys (sym e ∙ none)
none_left text xs ys (inr (front, ends)) e lack = none_behind_line xs ys front (sym e ∙ ends) lack

pub lines_behind : (xs ys : List ℕ) → ys ≢ [] → AreLines ys → AreLines (xs ++ ys)
lines_behind xs ys some (inl none) = absurd (some none)
lines_behind xs ys some (inr (front, ends)) = inr (xs ++ front, ap (λ (t : List ℕ). xs ++ t) ends ∙ sym (append_assoc xs front (10 ∷ [])))

pub some_before : (xs ys : List ℕ) → xs ≢ [] → xs ++ ys ≢ []
some_before [] ys some e = some refl
some_before (x ∷ xs) ys some e = absurd (cc)

pub some_behind : (xs ys : List ℕ) → ys ≢ [] → xs ++ ys ≢ []
some_behind xs ys some e = some (none_behind xs ys e)

regroup : (a front more : List ℕ) → a ++ (front ++ 10 ∷ more) ≡ ((a ++ front) ++ 10 ∷ []) ++ more
regroup a front more = simp append_assoc

-- What stands before the bytes behind a line feed is whole lines.
pub front_lines : (text front more split : List ℕ) (size : ℕ) → take (length text - size) (drop size text) ≡ front ++ 10 ∷ more → split ≡ take (length text - length more) text → AreLines split
front_lines text front more split size p is =
    let lines = (take size text ++ front) ++ 10 ∷ [] in
    let whole : text ≡ lines ++ more = sym (take-append-drop size text) ∙ (ap (λ (t : List ℕ). take size text ++ t) (sym (take_rest text size) ∙ p) ∙ regroup (take size text) front more) in
    let count : length text ≡ length lines + length more = ap length whole ∙ length-append lines more in
    inr (take size text ++ front, is ∙ (ap (take (length text - length more)) whole ∙ take_at lines more (length text - length more) (omega (arith, count))))

none_of_length : (text : List ℕ) → length text ≡ 0 → text ≡ []
none_of_length [] e = refl
none_of_length (x ∷ xs) e = absurd (omega (arith, e))

pub none_by : (text : List ℕ) (none : Bool) → none ≡ (length text == 0) → none ≡ true → text ≡ []
none_by text none is holds = elim (eqb_tells (length text) 0) [ inl t ↦ none_of_length text t.1 | inr f ↦ absurd (let bad : false ≡ true = sym f.0 ∙ (sym is ∙ holds) in cc) ]

pub some_by : (text : List ℕ) (none : Bool) → none ≡ (length text == 0) → none ≡ false → text ≢ []
some_by text none is fails = λ e. elim (eqb_tells (length text) 0) [ inl t ↦ (let bad : true ≡ false = sym t.0 ∙ (sym is ∙ fails) in cc) | inr f ↦ f.1 (ap length e) ]
