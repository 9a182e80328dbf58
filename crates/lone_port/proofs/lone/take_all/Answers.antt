use Rattle.std.proofs.Common.{◌≡◌, ◌∙◌, List, take, get_or, sym, subst}
use Rattle.std.proofs.lemmas.List.{take_more}
use Rattle.notes.specs.Derivation.{Derivation}
use Rattle.table_shard.specs.Known.{TakesNote, TakesNotes}
use Rattle.lone_port.proofs.Filling.{takes_push}
use Rattle.lone_port.proofs.lone.take_all.Goals as goal

pub loop-note-preserved : goal.loop-note-preserved
loop-note-preserved c =
    let notes = c.args.notes.now in
    let i = c.loop-note.note-index in
    let note = c.note-item.result in
    let is : c.in_ok-share.field-0 ≡ get_or notes i note = c.in_ok-share.ensures ∙ c.note-item.is in
    subst (λ (ns : List Derivation). TakesNotes c.args.shard.now ns c.take.new.self) (sym (take_more notes i note c.loop-note-test.true))
    (takes_push c.args.shard.now (take i notes) (get_or notes i note) c.loop-note.shard c.take.new.self c.loop-note.invariant
    (subst (λ (n : Derivation). TakesNote c.loop-note.shard n c.take.new.self) is c.take.ensures))
