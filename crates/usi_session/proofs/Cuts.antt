-- A text is cut at its field `moves` in one way.
use Rattle.std.proofs.Common.{◌≡◌, ◌≢◌, inl, inr, ℕ, suc, ◌+◌, Bool, true, false, List, [], ◌∷◌, ◌++◌, length, refl, sym, ap, ◌∙◌, subst, arith}
use Rattle.std.specs.Prelude.{cond}
use Rattle.std.specs.List.{filter, slice_split, AllByRecursion}
use Rattle.std.proofs.lemmas.List.Splits.{slice_split-cons_yes, slice_split-cons_no}
use Rattle.sfen_text.specs.Bytes.{is_space}
use Rattle.usi_session.specs.Fields.{has_bytes, fields_of, moves_word, IsCutAtMoves, GoesUpToMoves}
use Rattle.usi_session.proofs.Parts.{first_part}

-- ---- how many bytes of a text are no spaces

ink : List ℕ → ℕ
ink [] = 0
ink (x ∷ xs) = cond (is_space x) (ink xs) (suc (ink xs))

all-bytes : List (List ℕ) → ℕ
all-bytes [] = 0
all-bytes (part ∷ parts) = length part + all-bytes parts

all-bytes-filter : (parts : List (List ℕ)) → all-bytes (filter has_bytes parts) ≡ all-bytes parts
unfolding all-bytes
all-bytes-filter [] = refl
all-bytes-filter ([] ∷ parts) = omega (arith, all-bytes-filter parts)
all-bytes-filter ((x ∷ xs) ∷ parts) = ap (λ (n : ℕ). length (x ∷ xs) + n) (all-bytes-filter parts)

ink-split : (text : List ℕ) → all-bytes (slice_split is_space text) ≡ ink text
unfolding all-bytes ink
ink-split [] = refl
ink-split (x ∷ xs) = by (ink-split xs) (is_space x) refl where
  by : all-bytes (slice_split is_space xs) ≡ ink xs → (b : Bool) → is_space x ≡ b → all-bytes (slice_split is_space (x ∷ xs)) ≡ ink (x ∷ xs)
  by later true e = rw (slice_split-cons_yes is_space x xs e, e) (omega (arith, later))
  by later false e =
      let part = first_part xs in
      let own = rw part.split at later in
      rw (slice_split-cons_no is_space x xs e, e, part.split) (omega (arith, own))

ink-fields : (text : List ℕ) → all-bytes (fields_of text) ≡ ink text
unfolding fields_of
ink-fields text = all-bytes-filter (slice_split is_space text) ∙ ink-split text

-- ---- fronts of one text

drop-one : (b : Bool) (m n : ℕ) → cond b m (suc m) ≡ cond b n (suc n) → m ≡ n
drop-one true m n e = e
drop-one false m n e = omega arith

-- Two fronts of one text before an `m` are the same where as many of their bytes are no spaces.
same-front : (f g x y : List ℕ) → f ++ 109 ∷ x ≡ g ++ 109 ∷ y → ink f ≡ ink g → f ≡ g
unfolding ink
same-front [] [] x y e i = refl
same-front [] (b ∷ g) x y e i = let is : b ≡ 109 = cc in absurd (let h = rw is at i in omega arith)
same-front (a ∷ f) [] x y e i = let is : a ≡ 109 = cc in absurd (let h = rw is at i in omega arith)
same-front (a ∷ f) (b ∷ g) x y e i =
    let one : a ≡ b = cc in
    let rest : f ++ 109 ∷ x ≡ g ++ 109 ∷ y = cc in
    let less = rw one at i in
    rw one (ap (λ (l : List ℕ). b ∷ l) (same-front f g x y rest (drop-one (is_space b) (ink f) (ink g) less)))

-- ---- lists with one `moves` that comes first

split-one : (a b c d : List (List ℕ)) → AllByRecursion (λ f. f ≢ moves_word) a → AllByRecursion (λ f. f ≢ moves_word) b
    → a ++ moves_word ∷ c ≡ b ++ moves_word ∷ d → (a ≡ b) × (c ≡ d)
split-one [] [] c d p q e = (refl, cc)
split-one [] (y ∷ b) c d p q e = absurd (q.0 (cc))
split-one (x ∷ a) [] c d p q e = absurd (p.0 (cc))
split-one (x ∷ a) (y ∷ b) c d p q e =
    let one : x ≡ y = cc in
    let rest = split-one a b c d p.1 q.1 (cc) in
    (rw one (ap (λ (l : List (List ℕ)). y ∷ l) rest.0), rest.1)

lacks-none : (a c : List (List ℕ)) → AllByRecursion (λ f. f ≢ moves_word) (a ++ moves_word ∷ c) → ⊥
lacks-none [] c p = p.0 refl
lacks-none (x ∷ a) c p = lacks-none a c p.1

cut-one : (text f g : List ℕ) (m n : List (List ℕ)) → IsCutAtMoves text f m → IsCutAtMoves text g n → (f ≡ g) × (m ≡ n)
cut-one text f g m n one other =
    let fields = split-one (fields_of f) (fields_of g) m n one.first other.first (sym one.fields ∙ other.fields) in
    let inks : ink f ≡ ink g = sym (ink-fields f) ∙ ap all-bytes fields.0 ∙ ink-fields g in
    (same-front f g (111 ∷ 118 ∷ 101 ∷ 115 ∷ one.behind) (111 ∷ 118 ∷ 101 ∷ 115 ∷ other.behind) (sym one.parts ∙ other.parts) inks, fields.1)

pub up_to-one : (text f g : List ℕ) (m n : List (List ℕ)) → GoesUpToMoves text f m → GoesUpToMoves text g n → (f ≡ g) × (m ≡ n)
up_to-one text f g m n (inl one) (inl other) = cut-one text f g m n one other
up_to-one text f g m n (inl one) (inr (lacks, whole, none)) = absurd (lacks-none (fields_of f) m (subst (AllByRecursion (λ f. f ≢ moves_word)) one.fields lacks))
up_to-one text f g m n (inr (lacks, whole, none)) (inl other) = absurd (lacks-none (fields_of g) n (subst (AllByRecursion (λ f. f ≢ moves_word)) other.fields lacks))
up_to-one text f g m n (inr (lacks, whole, none)) (inr (too, all, empty)) = (cc, cc)
