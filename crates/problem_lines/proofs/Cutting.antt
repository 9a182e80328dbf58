-- How a text is cut into its lines, and a line into what stands before its remark.
use Rattle.std.proofs.Common.{◌≡◌, ℕ, ◌+◌, ◌<◌, ◌==◌, Bool, List, [], ◌∷◌, length, take, drop, Some, None, refl, ap, subst, ◌∙◌, arith}
use Rattle.std.specs.List.{slice_split, position_or_len, before_first}
use Rattle.std.specs.Str.Lines.{lines, lines_of_parts, strip_carriage_return}
use Rattle.std.proofs.lemmas.Bool.{cond-false, false_from_ne_true, ne_eqb}
use Rattle.std.proofs.lemmas.List.Splits.{slice_split_first, slice_split_none, length-slice_split}
use Rattle.std.proofs.lemmas.List.Sums.{position_or_len_is, fails_before_first}
use Rattle.memchr.specs.Find.{IsFirstByte, is_byte}

-- Where a search finds a byte, it first stands.
pub position-found : (byte : ℕ) (bytes : List ℕ) (at : ℕ) → IsFirstByte (is_byte byte) bytes (Some at) → position_or_len (λ b. b == byte) bytes ≡ at
position-found byte bytes at found =
    position_or_len_is (λ b. b == byte) bytes at 0 (omega (arith, found.0.high)) (λ k low. false_from_ne_true _ (found.0.before k (omega arith) low)) (λ _. found.1)

-- Where a search finds no byte, none stands.
pub position-none : (byte : ℕ) (bytes : List ℕ) → IsFirstByte (is_byte byte) bytes None → position_or_len (λ b. b == byte) bytes ≡ length bytes
position-none byte bytes none =
    position_or_len_is (λ b. b == byte) bytes (length bytes) 0 (omega arith) (λ k low. false_from_ne_true _ (none k (omega arith) low)) (λ more. absurd (omega arith))

-- The lines of parts, of which the first isn't the last.
pub lines_of_parts-cons : (x : List ℕ) (parts : List (List ℕ)) → 0 < length parts → lines_of_parts (x ∷ parts) ≡ strip_carriage_return x ∷ lines_of_parts parts
lines_of_parts-cons x [] some = absurd (omega arith)
lines_of_parts-cons x (y ∷ more) some = refl

-- The lines of a text with a line feed: what stands before the first, and the lines behind it.
pub lines-fed : (text : List ℕ) (at : ℕ) → position_or_len (λ b. b == 10) text ≡ at → at < length text
    → lines text ≡ strip_carriage_return (take at text) ∷ lines (drop (at + 1) text)
lines-fed text at place within =
    let P : ℕ → Type 0 = λ n. lines text ≡ strip_carriage_return (take n text) ∷ lines (drop (n + 1) text) in
    let p : ℕ → Bool = λ b. b == 10 in
    let rest : List ℕ = drop (position_or_len p text + 1) text in
    subst P place (ap lines_of_parts (slice_split_first p text 0 (omega arith))
    ∙ lines_of_parts-cons (before_first p text) (slice_split p rest) (omega (arith, length-slice_split p rest)))

-- The lines of a text that isn't empty and has no line feed: the text alone.
pub lines-alone : (text : List ℕ) → 0 < length text → position_or_len (λ b. b == 10) text ≡ length text → lines text ≡ text ∷ []
lines-alone text some place =
    let p : ℕ → Bool = λ b. b == 10 in
    ap lines_of_parts (slice_split_none p text (λ k d low. fails_before_first p text k d (omega arith))) ∙ cond-false _ _ _ (ne_eqb (length text) 0 (λ zero. omega arith))

-- An empty text has no line.
pub lines-empty : (text : List ℕ) → length text ≡ 0 → lines text ≡ []
lines-empty [] none = refl
lines-empty (byte ∷ bytes) none = absurd (omega arith)
