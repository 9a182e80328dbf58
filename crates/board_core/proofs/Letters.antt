-- Letters tell kinds apart.
use Rattle.std.proofs.Common.{◌≡◌, ap, sym, refl, ◌∙◌}
use Rattle.std.specs.Prelude.{Some}
use Rattle.std.proofs.lemmas.Option.{same_Some}
use Rattle.bit_boards.specs.declared.piece.Kind.{Kind}
use Rattle.bit_boards.specs.Text.{kind_letter, kind_of_letter}
use Rattle.board_core.proofs.EachKind.{of_each}

-- the kind of a kind's letter is that kind
letter_back : (k : Kind) → kind_of_letter (kind_letter k) ≡ Some k
letter_back = of_each (λ k. kind_of_letter (kind_letter k) ≡ Some k) refl refl refl refl refl refl refl refl

-- no two kinds have one letter
pub letter_exact : (k l : Kind) → kind_letter k ≡ kind_letter l → k ≡ l
letter_exact k l h = same_Some k l (sym (letter_back k) ∙ (ap kind_of_letter h ∙ letter_back l))
