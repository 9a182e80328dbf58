-- How a text is cut into whole lines.
use Rattle.std.proofs.Common.{◌≡◌, ℕ, suc, ◌+◌, ◌<◌, ◌≤◌, ◌==◌, nat_lt, Bool, true, false, List, [], ◌∷◌, length, take, drop, Some, None, not, refl, sym, subst, ap, ◌∙◌, arith, ⊎_elim}
use Rattle.std.specs.List.{onto_first, position, position_or_len}
use Rattle.std.proofs.lemmas.Option.{same_Some}
use Rattle.std.proofs.lemmas.Bool.{cases_Bool, cond-true, cond-false, false_from_ne_true, ltb-false}
use Rattle.std.proofs.lemmas.List.Sums.{position_or_len_is}
use Rattle.memchr.specs.Find.{IsFirstByte, is_byte}
use Rattle.collection_text.specs.Lines.{certificate_lines, whole_lines}
use Rattle.collection_text.specs.Words.{is_end, tells_ending}

-- Where a search finds a byte, it first stands.
pub position-found : (byte : ℕ) (bytes : List ℕ) (at : ℕ) → IsFirstByte (is_byte byte) bytes (Some at) → position_or_len (λ b. b == byte) bytes ≡ at
position-found byte bytes at found =
    position_or_len_is (λ b. b == byte) bytes at 0 (omega (arith, found.0.high)) (λ k low. false_from_ne_true _ (found.0.before k (omega arith) low)) (λ _. found.1)

-- Where a search finds no byte, none stands.
pub position-none : (byte : ℕ) (bytes : List ℕ) → IsFirstByte (is_byte byte) bytes None → position_or_len (λ b. b == byte) bytes ≡ length bytes
position-none byte bytes none =
    position_or_len_is (λ b. b == byte) bytes (length bytes) 0 (omega arith) (λ k low. false_from_ne_true _ (none k (omega arith) low)) (λ more. absurd (omega arith))

-- The first line of a text with a line feed, and the lines behind it.
fed : (text : List ℕ) → position_or_len (λ b. b == 10) text < length text
    → whole_lines text ≡ take (suc (position_or_len (λ b. b == 10) text)) text ∷ whole_lines (drop (suc (position_or_len (λ b. b == 10) text)) text)
fed [] within = absurd (omega arith)
fed (byte ∷ bytes) within =
    let p : ℕ → Bool = λ b. b == 10 in
    let text : List ℕ = byte ∷ bytes in
    let P : ℕ → Type 0 = λ n. whole_lines text ≡ take (suc n) text ∷ whole_lines (drop (suc n) text) in
    ⊎_elim
    (λ yes. subst P (sym (cond-false _ _ _ (ap not yes))) (cond-true _ _ _ yes))
    (λ fails.
    let next : position_or_len p text ≡ suc (position_or_len p bytes) = cond-true _ _ _ (ap not fails) ∙ omega arith in
    subst P (sym next) (cond-false _ _ _ fails ∙ ap (onto_first byte) (fed bytes (omega (arith, next)))))
    (cases_Bool (byte == 10))

pub whole_lines-fed : (text : List ℕ) (at : ℕ) → position_or_len (λ b. b == 10) text ≡ at → at < length text
    → whole_lines text ≡ take (at + 1) text ∷ whole_lines (drop (at + 1) text)
whole_lines-fed text at place within =
    let P : ℕ → Type 0 = λ n. whole_lines text ≡ take n text ∷ whole_lines (drop n text) in
    let same : suc (position_or_len (λ b. b == 10) text) ≡ at + 1 = omega (arith, place) in
    subst P same (fed text (omega (arith, place)))

-- A text that isn't empty and has no line feed is one line.
pub whole_lines-alone : (text : List ℕ) → 0 < length text → position_or_len (λ b. b == 10) text ≡ length text → whole_lines text ≡ text ∷ []
whole_lines-alone [] some place = absurd (omega arith)
whole_lines-alone (byte ∷ []) some place =
    ⊎_elim
    (λ yes. cond-true _ _ _ yes)
    (λ fails. cond-false _ _ _ fails)
    (cases_Bool (byte == 10))
whole_lines-alone (byte ∷ next ∷ bytes) some place =
    let p : ℕ → Bool = λ b. b == 10 in
    ⊎_elim
    (λ yes. let none : position_or_len p (byte ∷ next ∷ bytes) ≡ 0 = cond-false _ _ _ (ap not yes) in absurd (omega (arith, none, place)))
    (λ fails.
    let more : position_or_len p (byte ∷ next ∷ bytes) ≡ suc (position_or_len p (next ∷ bytes)) = cond-true _ _ _ (ap not fails) ∙ omega arith in
    cond-false _ _ _ fails ∙ ap (onto_first byte) (whole_lines-alone (next ∷ bytes) (omega arith) (omega (arith, more, place))))
    (cases_Bool (byte == 10))

-- An empty text has no line.
pub whole_lines-empty : (text : List ℕ) → length text ≡ 0 → whole_lines text ≡ []
whole_lines-empty [] none = refl
whole_lines-empty (byte ∷ bytes) none = absurd (omega arith)

-- Where a place is found, it is the first.
pub position-at : (p : ℕ → Bool) (text : List ℕ) (at : ℕ) → position p text ≡ Some at → position_or_len p text ≡ at
position-at p text at is =
    ⊎_elim
    (λ yes. same_Some _ _ (sym (cond-true _ _ _ yes) ∙ is))
    (λ fails. let none = sym (cond-false _ _ _ fails) ∙ is in absurd (cc))
    (cases_Bool (nat_lt (position_or_len p text) (length text)))

-- Where none is found, there is none before the end.
pub position-past : (p : ℕ → Bool) (text : List ℕ) → position p text ≡ None → length text ≤ position_or_len p text
position-past p text is =
    ⊎_elim
    (λ yes. let some = sym (cond-true _ _ _ yes) ∙ is in absurd (cc))
    (λ fails. ltb-false _ _ fails)
    (cases_Bool (nat_lt (position_or_len p text) (length text)))

-- A line of a certificate that isn't its last has the others behind it.
pub certificate-more : (line : List ℕ) (others : List (List ℕ)) → tells_ending line ≡ false → is_end line ≡ false
    → certificate_lines (line ∷ others) ≡ line ∷ certificate_lines others
certificate-more line others no_ending no_end = cond-false _ _ _ no_ending ∙ cond-false _ _ _ no_end

-- The last has none, and where an ending is told there is none.
pub certificate-last : (line : List ℕ) (others : List (List ℕ)) → tells_ending line ≡ false → is_end line ≡ true → certificate_lines (line ∷ others) ≡ line ∷ []
certificate-last line others no_ending ends = cond-false _ _ _ no_ending ∙ cond-true _ _ _ ends

pub certificate-over : (line : List ℕ) (others : List (List ℕ)) → tells_ending line ≡ true → certificate_lines (line ∷ others) ≡ []
certificate-over line others ending = cond-true _ _ _ ending
