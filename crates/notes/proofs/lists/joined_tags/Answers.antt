use Rattle.std.proofs.Common.{◌≢◌, ◌↔◌, ◌⊎◌, [], List, Contains, length, refl, sym, subst}
use Rattle.std.proofs.lemmas.List.{take_all}
use Rattle.std.proofs.lemmas.Option.{slice_get_read}
use Rattle.board_core.specs.declared.keys.Key.{Key}
use Rattle.notes.specs.Valid.{JoinsTags}
use Rattle.notes.proofs.Gathered.{first_more, joins_none, joins_more}
use Rattle.notes.proofs.lists.joined_tags.Goals as goal

pub loop-note-init : goal.loop-note-init
loop-note-init c = subst (λ (tag : List Key). JoinsTags tag c.args.position.now []) (sym c.empty-tag.ensures) (joins_none c.args.position.now)

pub loop-note-preserved : goal.loop-note-preserved
loop-note-preserved c =
    let notes = c.args.notes.now in
    let k = c.loop-note.note-index in
    let there = slice_get_read notes (length notes) k c.note-item.result refl c.loop-note-test.true c.note-item.is in
    subst (JoinsTags c.add_without.new.self c.args.position.now) (sym (first_more notes k c.note-item.result there))
    (joins_more c.key-own.result c.args.position.now c.loop-note.tag c.add_without.new.self _ c.note-item.result c.key-own.ensures.words c.loop-note.invariant
    (subst (λ (tag : List Key). (key : Key) → Contains c.add_without.new.self key ↔ ((Contains c.loop-note.tag key ⊎ Contains tag key) × (key ≢ c.key-own.result)))
    c.tag.ensures c.in_ok-add_without.ensures.holds))

pub returns-clause-joins : goal.returns-clause-joins
returns-clause-joins c = subst (JoinsTags c.loop-note.tag c.args.position.now) (take_all c.loop-note.note-index c.args.notes.now c.loop-note-test.false) c.loop-note.invariant
