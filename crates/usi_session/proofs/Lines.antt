-- What lines are and say, in the words of the laws.
use Rattle.std.proofs.Common.{◌≡◌, ◌≢◌, ℕ, true, false, List, [], ◌∷◌, ◌++◌, refl, ap, ◌∙◌, arith}
use Rattle.std.specs.Prelude.{codes}
use Rattle.std.specs.List.{AllByRecursion, list_all, take_while}
use Rattle.std.proofs.lemmas.List.Sums.{take_while-cons}
use Rattle.sfen_text.specs.Bytes.{is_space}
use Rattle.usi_session.specs.Fields.{bare, first_field, behind_field}
use Rattle.usi_session.specs.Laws.{SpacesPartFields, WordsAreFields, SfenStandsBehind}
use Rattle.usi_session.proofs.Parts.{is_ink, fields-append_space, fields-ink}

no-space : (byte : ℕ) → byte ≢ 32 → is_space byte ≡ false
no-space byte other = grind arith

all-ink : (word : List ℕ) → AllByRecursion (λ byte. byte ≢ 32) word → list_all is_ink word ≡ true
all-ink [] all = refl
all-ink (x ∷ xs) all = rw (no-space x all.0) (all-ink xs all.1)

pub spaces-part : SpacesPartFields
spaces-part before behind = fields-append_space before behind

pub words-fields : WordsAreFields
words-fields word some all = fields-ink word some (all-ink word all)

bare-space : (byte : ℕ) (bytes : List ℕ) → is_space byte ≡ false → bare (32 ∷ byte ∷ bytes) ≡ byte ∷ bytes
unfolding bare
bare-space byte bytes e =
    let none : take_while is_space (byte ∷ bytes) ≡ [] = rw (take_while-cons is_space byte bytes, e) refl in
    let one : take_while is_space (32 ∷ byte ∷ bytes) ≡ 32 ∷ [] = rw (take_while-cons is_space 32 (byte ∷ bytes), none) refl in
    rw one refl

behind-words : (byte : ℕ) (bytes : List ℕ) → behind_field (behind_field (codes "position sfen " ++ byte ∷ bytes)) ≡ 32 ∷ byte ∷ bytes
unfolding bare first_field behind_field
behind-words byte bytes = refl

pub sfen-behind : SfenStandsBehind
sfen-behind byte bytes other = ap bare (behind-words byte bytes) ∙ bare-space byte bytes (no-space byte other)
