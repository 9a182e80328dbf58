use Rattle.std.proofs.Common.{List, get_or, length, arith, sym, ap, ◌∙◌, subst}
use Rattle.notes.specs.Derivation.{Derivation, steps_of, source_of}
use Rattle.notes.specs.Valid.{IsValid}
use Rattle.notes.proofs.Carrying.{carried_first, own_source}
use Rattle.notes.proofs.note.Note.source.Goals as goal

pub bounds-under-0 : goal.bounds-under-0
bounds-under-0 c =
    let found = carried_first c.loop-note.note.now c.in-Carry.field-0 c.loop-note.invariant.0 (sym c.rule.ensures ∙ c.in-Carry.is) in
    let long = ap (λ (notes : List Derivation). length notes) (c.under.ensures ∙ found.1.alone) in
    omega (arith, long)

pub loop-note-smaller : goal.loop-note-smaller
loop-note-smaller c =
    let found = carried_first c.loop-note.note.now c.in-Carry.field-0 c.loop-note.invariant.0 (sym c.rule.ensures ∙ c.in-Carry.is) in
    let one = c.index-under-0.is ∙ ap (λ (notes : List Derivation). get_or notes 0 c.index-under-0.result) (c.under.ensures ∙ found.1.alone) in
    let same = ap steps_of one in
    let fewer = found.1.fewer in
    omega (arith, same, fewer)

pub loop-note-preserved : goal.loop-note-preserved
loop-note-preserved c =
    let found = carried_first c.loop-note.note.now c.in-Carry.field-0 c.loop-note.invariant.0 (sym c.rule.ensures ∙ c.in-Carry.is) in
    let one = c.index-under-0.is ∙ ap (λ (notes : List Derivation). get_or notes 0 c.index-under-0.result) (c.under.ensures ∙ found.1.alone) in
    (subst IsValid (sym one) found.1.valid, ap source_of one ∙ (sym found.1.source ∙ c.loop-note.invariant.1))

pub returns-clause-source : goal.returns-clause-source
returns-clause-source c =
    sym (own_source c.loop-note.note.now (λ conclusion is. c.in_default.not-Carry conclusion (c.rule.ensures ∙ is))) ∙ c.loop-note.invariant.1

pub returns-clause-own : goal.returns-clause-own
returns-clause-own c = λ conclusion is. c.in_default.not-Carry conclusion (c.rule.ensures ∙ is)
