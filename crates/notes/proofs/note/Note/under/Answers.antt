use Rattle.std.proofs.Common.{ap, sym, ◌∙◌}
use Rattle.notes.specs.Derivation.{under_of, listed-derivations}
use Rattle.notes.specs.declared.note.Node.{Node}
use Rattle.notes.proofs.note.Note.under.Goals as goal

pub returns : goal.returns
returns c =
    let items = c.self.inside.node.value.under.items in
    c.as_slice.ensures.value ∙ (ap (λ (n : Node). n.under.items) c.deref.ensures ∙ (sym (listed-derivations items) ∙ ap under_of c.self.view_is))
