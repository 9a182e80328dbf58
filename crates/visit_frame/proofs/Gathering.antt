-- Children gone through one after the other, and their notes.
use Rattle.std.proofs.Common.{◌≡◌, ◌++◌, max, List, [], ◌∷◌, arith, ap, sym, ◌∙◌}
use Rattle.std.proofs.lemmas.List.{append_assoc, append-nil}
use Rattle.notes.specs.Derivation.{Derivation, highest}
use Rattle.visit_log.specs.declared.parts.Child.{Child}
use Rattle.visit_log.specs.Children.{note_list, notes_in}

-- one more child behind the others
pub notes_more : (children : List Child) (child : Child) → notes_in (children ++ child ∷ []) ≡ notes_in children ++ note_list child.note
notes_more [] child = append-nil (note_list child.note)
notes_more (first ∷ children) child =
    ap (λ (notes : List Derivation). note_list first.note ++ notes) (notes_more children child)
    ∙ sym (append_assoc (note_list first.note) (notes_in children) (note_list child.note))

-- The greatest height of notes and others is the greater of both.
pub highest_both : (notes others : List Derivation) → highest (notes ++ others) ≡ max (highest notes) (highest others)
highest_both [] others = omega arith
highest_both (note ∷ notes) others = let up = highest_both notes others in omega (arith, up)
