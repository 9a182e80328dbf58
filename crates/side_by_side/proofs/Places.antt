-- Answers where their jobs stand.
use Rattle.std.proofs.Common.{◌≡◌, ◌<◌, ◌+◌, ◌++◌, ℕ, List, [], ◌∷◌, Option, Some, None, IfSome, All, length, get_or, set, inl, inr, refl, sym, subst, ap, ◌∙◌, arith}
use Rattle.std.proofs.lemmas.Bool.{cases_eq}
use Rattle.std.proofs.lemmas.List.{length-append, length-set, take_at, get_or_append_left, get_or_push, get_or-set_same, get_or-set_other}
use Rattle.std.proofs.lemmas.List.Elements.{All-take}
use Rattle.std.proofs.lemmas.Option.{slice_get_within, slice_get-get_or, get_or_from_slice_get}
use Rattle.side_by_side.specs.Answers.{AreAnswers}
use Rattle.side_by_side.specs.declared.member.Made.{Made}
use Rattle.side_by_side.specs.Inside.{AreMade, AreAnswersAt}

-- All places are open.
pub none_yet : {A : Type 0} (P : ℕ → A → Type 0) (slots : List (Option A)) → All (λ slot. slot ≡ None) slots → AreAnswersAt P slots
none_yet {A} P slots all = λ k low. subst (λ (o : Option A). IfSome o (P k)) (sym (all k None low)) tt

-- An answer of the job of a place is put there, where there is such a place; or the place is left
-- open.
pub put_answer : {A : Type 0} (P : ℕ → A → Type 0) (slots : List (Option A)) (place : ℕ) (slot : Option A)
    → AreAnswersAt P slots → IfSome slot (P place) → AreAnswersAt P (set slots place slot)
put_answer {A} P slots place slot are one = λ k low. elim (cases_eq k place) [
  | inl same ↦
      let there : place < length slots = subst (λ (n : ℕ). n < length slots) same (subst (λ (n : ℕ). k < n) (length-set slots place slot) low) in
      subst (λ (o : Option A). IfSome o (P k)) (sym (ap (λ (n : ℕ). get_or (set slots place slot) n None) same ∙ get_or-set_same slots place slot None there))
      (subst (λ (n : ℕ). IfSome slot (P n)) (sym same) one)
  | inr not ↦ subst (λ (o : Option A). IfSome o (P k)) (sym (get_or-set_other slots place k slot None not))
      (are k (subst (λ (n : ℕ). k < n) (length-set slots place slot) low))
]

-- What is taken from a place, where something is, is an answer of the job of that number.
pub answer_there : {A : Type 0} (P : ℕ → A → Type 0) (slots : List (Option A)) (place : ℕ) (taken : Option A) → taken ≡ get_or slots place None
    → AreAnswersAt P slots → place < length slots → IfSome taken (P place)
answer_there {A} P slots place taken is are low = subst (λ (o : Option A). IfSome o (P place)) (sym is) (are place low)

-- The answers are in order with one more behind them.
pub answered_on : {A : Type 0} (P : ℕ → A → Type 0) (n : ℕ) (answers after : List A) (answer : A) → AreAnswers n P answers → P n answer
    → after ≡ answers ++ answer ∷ [] → AreAnswers (n + 1) P after
answered_on {A} P n answers after answer are one is = subst (AreAnswers (n + 1) P) (sym is) (record {
  all = length-append answers (answer ∷ []) ∙ ap (λ (k : ℕ). k + 1) are.all;
  each = λ number other there. elim (cases_eq number n) [
    | inl same ↦
        let told : get_or (answers ++ answer ∷ []) number other ≡ other = get_or_from_slice_get (answers ++ answer ∷ []) number other other there in
        let put : get_or (answers ++ answer ∷ []) number other ≡ answer = get_or_push answers answer other number (are.all ∙ sym same) in
        subst (λ (k : ℕ). P k other) (sym same) (subst (P n) (sym put ∙ told) one)
    | inr not ↦
        let within = slice_get_within (answers ++ answer ∷ []) number other there in
        let longer = length-append answers (answer ∷ []) in
        let all = are.all in
        let low : number < length answers = omega (arith, within, longer, all, not) in
        let told : get_or (answers ++ answer ∷ []) number other ≡ other = get_or_from_slice_get (answers ++ answer ∷ []) number other other there in
        are.each number other (slice_get-get_or answers number other low ∙ ap Some (sym (get_or_append_left answers (answer ∷ []) other number low) ∙ told))
  ];
})

-- The last holds, and so do those before it.
pub all_last : {X : Type 0} (P : X → Type 0) (all before : List X) (x : X) → all ≡ before ++ x ∷ [] → All P all → P x
all_last P all before x e holds =
    let l = length-append before (x ∷ []) in
    subst P (get_or_push before x x (length before) refl) (subst (All P) e holds (length before) x (omega (arith, l)))

pub all_before : {X : Type 0} (P : X → Type 0) (all before : List X) (x : X) → all ≡ before ++ x ∷ [] → All P all → All P before
all_before P all before x e holds = subst (All P) (take_at before (x ∷ []) (length before) refl) (All-take P (length before) (before ++ x ∷ []) (subst (All P) e holds))

-- The last that was made is put where it stands, and the others are left.
pub given_back : {A : Type 0} (P : ℕ → A → Type 0) (slots after : List (Option A)) (made rest : List (Made A)) (one : Made A) (count : ℕ)
    → after ≡ set slots one.number (Some one.answer) → made ≡ rest ++ one ∷ []
    → (length slots ≡ count) × AreAnswersAt P slots × AreMade P made → (length after ≡ count) × AreAnswersAt P after × AreMade P rest
given_back {A} P slots after made rest one count is e so_far =
    let IsAnswer : Made A → Type 0 = λ made. P made.number made.answer in (
      ap length is ∙ (length-set slots one.number (Some one.answer) ∙ so_far.0),
      subst (AreAnswersAt P) (sym is) (put_answer P slots one.number (Some one.answer) so_far.1 (all_last IsAnswer made rest one e so_far.2)),
      all_before IsAnswer made rest one e so_far.2,
    )
