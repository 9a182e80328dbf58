-- Texts cut into stretches.
use Rattle.std.proofs.Common.{inl, ◌≡◌, ◌≢◌, ℕ, suc, List, [], ◌∷◌, ◌++◌, length, refl, sym, ap, subst, ◌∙◌, append_assoc}
use Rattle.std.specs.Prelude.{Some, slice_get}
use Rattle.std.proofs.lemmas.List.{append-nil}
use Rattle.cert_text.specs.Certificate.{Form}
use Rattle.cert_text.specs.Lines.{AreLines, IsReadOf}
use Rattle.cert_text.specs.declared.lines.ReadLines.{ReadLines}
use Rattle.wide_read.specs.Stretches.{BeginsSo, IsCutInto, IsReadAt, IsUnderway}
use Rattle.wide_read.proofs.Lists.{lines_behind}

-- However the rest is cut, the whole is.
abbrev pub GoesOn : {A : Type 0} → (A → List ℕ → Type 0) → List A → List ℕ → List ℕ → Type 0
GoesOn {A} StandsFor before rest text = (others : List A) → IsCutInto StandsFor others rest → IsCutInto StandsFor (before ++ others) text

pub goes_on : {A : Type 0} (StandsFor : A → List ℕ → Type 0) (before pushed : List A) (one : A) (first more rest text : List ℕ) → GoesOn StandsFor before rest text
    → StandsFor one first → rest ≡ first ++ more → first ≢ [] → AreLines first → pushed ≡ before ++ one ∷ [] → GoesOn StandsFor pushed more text
goes_on {A} StandsFor before pushed one first more rest text on stands e some lines is = λ others cut.
    let begins : BeginsSo StandsFor one more rest = record { first = first; stands = stands; whole = e; some = some; lines = λ _. lines } in
    subst (λ (list : List A). IsCutInto StandsFor list text) (sym (append_assoc before (one ∷ []) others) ∙ ap (λ (list : List A). list ++ others) (sym is))
    (on (one ∷ others) (more, begins, cut))

-- The last stretch is what is left.
pub goes_out : {A : Type 0} (StandsFor : A → List ℕ → Type 0) (before pushed : List A) (one : A) (rest text : List ℕ) → GoesOn StandsFor before rest text
    → StandsFor one rest → rest ≢ [] → pushed ≡ before ++ one ∷ [] → IsCutInto StandsFor pushed text
goes_out {A} StandsFor before pushed one rest text on stands some is =
    let begins : BeginsSo StandsFor one [] rest = record { first = rest; stands = stands; whole = sym (append-nil rest); some = some; lines = λ not. absurd (not refl) } in
    subst (λ (list : List A). IsCutInto StandsFor list text) (sym is) (on (one ∷ []) ([], begins, refl))

pub goes_empty : {A : Type 0} (StandsFor : A → List ℕ → Type 0) (before : List A) (rest text : List ℕ) → GoesOn StandsFor before rest text → rest ≡ [] → IsCutInto StandsFor before text
goes_empty {A} StandsFor before rest text on none = subst (λ (list : List A). IsCutInto StandsFor list text) (append-nil before) (on [] none)

-- What is read of the stretches stands for them.
pub cut_read : {A Entry : Type 0} (form : Form Entry) (text_of : A → List ℕ) (texts : List A) (parts : List (ReadLines Entry)) (text : List ℕ) → IsCutInto (λ one lines. lines ≡ text_of one) texts text
    → length parts ≡ length texts → ((number : ℕ) (lines : ReadLines Entry) → slice_get parts number ≡ Some lines → IsReadAt form text_of texts number lines) → IsCutInto (IsReadOf form) parts text
cut_read form text_of [] [] text cut n each = cut
cut_read form text_of [] (p ∷ parts) text cut n each = absurd (cc)
cut_read form text_of (t ∷ texts) [] text cut n each = absurd (cc)
cut_read form text_of (t ∷ texts) (p ∷ parts) text (more, begins, cut) n each =
    let first : BeginsSo (IsReadOf form) p more text = record {
      first = begins.first;
      stands = subst (IsReadOf form p) (sym begins.stands) (each 0 p refl t refl);
      whole = begins.whole;
      some = begins.some;
      lines = begins.lines;
    } in
    let count : length parts ≡ length texts = cc in
    (more, first, cut_read form text_of texts parts more cut count (λ number lines e one f. each (suc number) lines e one f))

-- Nothing was read yet.
pub not_begun : {Entry : Type 0} (form : Form Entry) (whole : ReadLines Entry) (left parts : List (ReadLines Entry)) (text : List ℕ) → IsReadOf form whole [] → left ≡ parts → IsCutInto (IsReadOf form) parts text
    → IsUnderway form whole left text
not_begun form whole left parts text read same cut = record {
  done = [];
  rest = text;
  parts = refl;
  read = read;
  lines = λ _. inl refl;
  others = subst (λ list. IsCutInto (IsReadOf form) list text) (sym same) cut;
}

front_none : (xs ys : List ℕ) → xs ++ ys ≡ [] → xs ≡ []
front_none [] ys e = refl
front_none (x ∷ xs) ys e = absurd (cc)

-- One more stretch.
pub one_more : {Entry : Type 0} (form : Form Entry) (whole next part : ReadLines Entry) (all left : List (ReadLines Entry)) (text : List ℕ) → IsUnderway form whole all text → all ≡ part ∷ left
    → ((before lines : List ℕ) → IsReadOf form whole before → AreLines before → IsReadOf form part lines → lines ≢ [] → IsReadOf form next (before ++ lines)) → IsUnderway form next left text
one_more form whole next part all left text way same both =
    let others = subst (λ list. IsCutInto (IsReadOf form) list way.rest) same way.others in
    let more = others.0 in
    let begins = others.1 in
    let first = begins.first in
    let some : way.rest ≢ [] = λ none. begins.some (front_none first more (sym begins.whole ∙ none)) in record {
      done = way.done ++ first;
      rest = more;
      parts = way.parts ∙ (ap (λ (t : List ℕ). way.done ++ t) begins.whole ∙ sym (append_assoc way.done first more));
      read = both way.done first way.read (way.lines some) begins.stands begins.some;
      lines = λ not. lines_behind way.done first begins.some (begins.lines not);
      others = others.2;
    }

-- All was read.
pub none_left_over : {Entry : Type 0} (form : Form Entry) (whole : ReadLines Entry) (left : List (ReadLines Entry)) (text : List ℕ) → IsUnderway form whole left text → left ≡ [] → IsReadOf form whole text
none_left_over form whole left text way none =
    let empty : way.rest ≡ [] = subst (λ list. IsCutInto (IsReadOf form) list way.rest) none way.others in
    subst (IsReadOf form whole) (sym (way.parts ∙ (ap (λ (t : List ℕ). way.done ++ t) empty ∙ append-nil way.done))) way.read
