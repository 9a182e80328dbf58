-- A text is cut at its first space.
use Rattle.std.proofs.Common.{◌≡◌, ◌<◌, ◌+◌, ◌-◌, ◌∙◌, ◌∷◌, [], ℕ, List, Bool, true, false, length, take, drop, length-drop, take_all, arith, refl, sym, ap, subst}
use Rattle.std.specs.Prelude.{Some, None, position, nat_lt, if◌then◌else◌}
use Rattle.std.specs.List.{position_or_len}
use Rattle.std.proofs.lemmas.Bool.{ltb-false}
use Rattle.std.proofs.lemmas.List.Quantifiers.{position-Some}
use Rattle.std.proofs.lemmas.List.Sums.{position_or_len_is, fails_before_first}
use Rattle.std.proofs.lemmas.List.Splits.{slice_split_first, slice_split_none}
use Rattle.sfen_text.specs.Bytes.{is_space}
use Rattle.cook_line.specs.Moves.{parts_of}

-- the first part ends at the first space
pub cut_some : (text : List ℕ) (at : ℕ) → position is_space text ≡ Some at
    → parts_of text ≡ take at text ∷ parts_of (take (length text - (at + 1)) (drop (at + 1) text))
cut_some text at e =
    let there = position-Some is_space text at 0 e in
    let inside : at < length text = there.0 in
    let is : position_or_len is_space text ≡ at = position_or_len_is is_space text at 0 (omega (arith, inside)) (λ k less. there.2 k less) (λ _. there.1) in
    let all : take (length text - (at + 1)) (drop (at + 1) text) ≡ drop (at + 1) text
    = take_all (length text - (at + 1)) (drop (at + 1) text) (let long = length-drop (at + 1) text in omega (arith, long)) in
    slice_split_first is_space text 0 (subst (λ (n : ℕ). n < length text) (sym is) inside)
    ∙ ap (λ (n : ℕ). take n text ∷ parts_of (drop (n + 1) text)) is
    ∙ ap (λ (left : List ℕ). take at text ∷ parts_of left) (sym all)

none_before : (text : List ℕ) (b : Bool) → (if b then Some (position_or_len is_space text) else None) ≡ None → b ≡ false
none_before text true e = absurd (cc)
none_before text false e = refl

-- without a space the text is one part
pub cut_none : (text : List ℕ) → position is_space text ≡ None → parts_of text ≡ text ∷ []
cut_none text e =
    let whole = ltb-false (position_or_len is_space text) (length text) (none_before text (nat_lt (position_or_len is_space text) (length text)) e) in
    slice_split_none is_space text (λ k d inside. fails_before_first is_space text k d (omega (arith, whole)))
