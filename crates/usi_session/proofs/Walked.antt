-- Going over the fields of a text up to `moves`.
use Rattle.std.proofs.Common.{◌≡◌, ◌≢◌, ◌⊎◌, inl, inr, ℕ, ◌+◌, ◌≤◌, true, List, [], ◌∷◌, ◌++◌, length, length-append, take, refl, sym, ap, ◌∙◌, subst, arith, append_assoc}
use Rattle.std.specs.List.{list_all, AllByRecursion}
use Rattle.std.proofs.lemmas.Bool.{and_parts}
use Rattle.std.proofs.lemmas.List.{append-nil, take_at}
use Rattle.sfen_text.specs.Bytes.{is_space}
use Rattle.usi_session.specs.Fields.{fields_of, moves_word, GoesUpToMoves}
use Rattle.usi_session.specs.Reading.{AreSpaces, EndsField, IsCut, IsWalked}
use Rattle.usi_session.proofs.Parts.{is_ink, fields-spaces, fields-append_ended, fields-ink}

pub walked-start : (text : List ℕ) → IsWalked text text
unfolding fields_of
walked-start text = record { front = []; parts = refl; fields = refl; lacks = tt; edge = inl refl }

space-is : (x : ℕ) → is_space x ≡ true → x ≡ 32
space-is x e = grind arith

-- Spaces and a field behind a front whose last field ends there, or which is empty.
fields-walked : (front spaces field : List ℕ) → AreSpaces spaces → field ≢ [] → list_all is_ink field ≡ true
    → (front ≡ []) ⊎ EndsField (spaces ++ field) → fields_of (front ++ (spaces ++ field)) ≡ fields_of front ++ field ∷ []
unfolding fields_of
fields-walked front spaces field are some ink (inl e) =
    rw (e, fields-spaces spaces field are, fields-ink field some ink) refl
fields-walked front spaces field are some ink (inr ends) =
    fields-append_ended front (spaces ++ field) ends
    ∙ ap (λ (l : List (List ℕ)). fields_of front ++ l) (fields-spaces spaces field are ∙ fields-ink field some ink)

-- What ends a field and is spaces and a field begins with one of the spaces.
ends-earlier : (spaces field behind : List ℕ) → AreSpaces spaces → field ≢ [] → list_all is_ink field ≡ true → EndsField (spaces ++ (field ++ behind)) → EndsField (spaces ++ field)
ends-earlier [] [] behind are some ink ends = absurd (some refl)
ends-earlier [] (x ∷ xs) behind are some ink (inl e) = absurd (cc)
ends-earlier [] (x ∷ xs) behind are some ink (inr (more, e)) =
    let both = and_parts (is_ink x) (list_all is_ink xs) ink in
    let same : x ≡ 32 = cc in
    absurd (let h = rw same at both.0 in cc)
ends-earlier (x ∷ xs) field behind are some ink ends =
    inr (xs ++ field, ap (λ (y : ℕ). y ∷ (xs ++ field)) (space-is x (and_parts (is_space x) (list_all is_space xs) are).0))

edge-earlier : (front rest field behind : List ℕ) (cut : IsCut rest field behind) → (front ≡ []) ⊎ EndsField rest → (front ≡ []) ⊎ EndsField (cut.spaces ++ field)
edge-earlier front rest field behind cut (inl e) = inl e
edge-earlier front rest field behind cut (inr ends) = inr (ends-earlier cut.spaces field behind cut.are_spaces cut.some cut.no_space (subst EndsField cut.parts ends))

rest-fields : (rest field behind : List ℕ) → IsCut rest field behind → fields_of rest ≡ field ∷ fields_of behind
rest-fields rest field behind cut =
    ap fields_of cut.parts ∙ fields-spaces cut.spaces (field ++ behind) cut.are_spaces
    ∙ fields-append_ended field behind cut.ends ∙ ap (λ (l : List (List ℕ)). l ++ fields_of behind) (fields-ink field cut.some cut.no_space)

all-append : (a : List (List ℕ)) (field : List ℕ) → AllByRecursion (λ f. f ≢ moves_word) a → field ≢ moves_word → AllByRecursion (λ f. f ≢ moves_word) (a ++ field ∷ [])
all-append [] field all no_moves = (no_moves, tt)
all-append (f ∷ fs) field all no_moves = (all.0, all-append fs field all.1 no_moves)

pub walked-more : (text rest field behind : List ℕ) → IsWalked text rest → IsCut rest field behind → field ≢ moves_word → IsWalked text behind
walked-more text rest field behind walked cut no_moves =
    let own : fields_of (walked.front ++ (cut.spaces ++ field)) ≡ fields_of walked.front ++ field ∷ [] =
    fields-walked walked.front cut.spaces field cut.are_spaces cut.some cut.no_space (edge-earlier walked.front rest field behind cut walked.edge) in
    record {
      front = walked.front ++ (cut.spaces ++ field);
      parts = walked.parts ∙ ap (λ (l : List ℕ). walked.front ++ l) cut.parts ∙ simp append_assoc;
      fields = walked.fields ∙ ap (λ (l : List (List ℕ)). fields_of walked.front ++ l) (rest-fields rest field behind cut) ∙ rw own (simp append_assoc);
      lacks = rw own (all-append (fields_of walked.front) field walked.lacks no_moves);
      edge = inr cut.ends;
    }

spaces-ended : (spaces : List ℕ) → AreSpaces spaces → EndsField spaces
spaces-ended [] are = inl refl
spaces-ended (x ∷ xs) are = inr (xs, ap (λ (y : ℕ). y ∷ xs) (space-is x (and_parts (is_space x) (list_all is_space xs) are).0))

spaces-none : (spaces : List ℕ) → AreSpaces spaces → fields_of spaces ≡ []
unfolding fields_of
spaces-none spaces are = ap fields_of (sym (append-nil spaces)) ∙ fields-spaces spaces [] are

fields-append_spaces : (front spaces : List ℕ) → AreSpaces spaces → fields_of (front ++ spaces) ≡ fields_of front
fields-append_spaces front spaces are =
    fields-append_ended front spaces (spaces-ended spaces are) ∙ ap (λ (l : List (List ℕ)). fields_of front ++ l) (spaces-none spaces are) ∙ append-nil (fields_of front)

pub walked-found : (text rest field behind : List ℕ) (end : ℕ) → IsWalked text rest → IsCut rest field behind → field ≡ moves_word → end + 5 + length behind ≡ length text
    → GoesUpToMoves text (take end text) (fields_of behind)
walked-found text rest field behind end walked cut is sizes =
    let front : List ℕ = walked.front ++ cut.spaces in
    let parts : text ≡ front ++ (moves_word ++ behind) = walked.parts ∙ ap (λ (l : List ℕ). walked.front ++ l) (cut.parts ∙ ap (λ (f : List ℕ). cut.spaces ++ (f ++ behind)) is) ∙ simp append_assoc in
    let long : length text ≡ length front + (5 + length behind) = ap length parts ∙ length-append front (moves_word ++ behind) ∙ ap (λ (n : ℕ). length front + n) (length-append moves_word behind) in
    let own : take end text ≡ front = ap (take end) parts ∙ take_at front (moves_word ++ behind) end (omega arith) in
    let same : fields_of front ≡ fields_of walked.front = fields-append_spaces walked.front cut.spaces cut.are_spaces in
    rw own (inl (record {
      behind = behind;
      parts = parts;
      fields = walked.fields ∙ ap (λ (l : List (List ℕ)). fields_of walked.front ++ l) (rest-fields rest field behind cut ∙ ap (λ (f : List ℕ). f ∷ fields_of behind) is) ∙ rw same refl;
      those = refl;
      first = rw same walked.lacks;
    }))

pub walked-none : (text rest : List ℕ) → IsWalked text rest → fields_of rest ≡ [] → GoesUpToMoves text text []
walked-none text rest walked none =
    let same : fields_of text ≡ fields_of walked.front = walked.fields ∙ ap (λ (l : List (List ℕ)). fields_of walked.front ++ l) none ∙ append-nil (fields_of walked.front) in
    inr (rw same walked.lacks, refl, refl)

pub empty-none : fields_of [] ≡ []
unfolding fields_of
empty-none = refl

-- The field `moves` and what stands behind it lie within the text.
pub walked-long : (text rest field behind : List ℕ) → IsWalked text rest → IsCut rest field behind → field ≡ moves_word → 5 + length behind ≤ length text
walked-long text rest field behind walked cut is =
    let front : List ℕ = walked.front ++ cut.spaces in
    let parts : text ≡ front ++ (moves_word ++ behind) = walked.parts ∙ ap (λ (l : List ℕ). walked.front ++ l) (cut.parts ∙ ap (λ (f : List ℕ). cut.spaces ++ (f ++ behind)) is) ∙ simp append_assoc in
    let long : length text ≡ length front + (5 + length behind) = ap length parts ∙ length-append front (moves_word ++ behind) ∙ ap (λ (n : ℕ). length front + n) (length-append moves_word behind) in
    omega arith
