use Rattle.std.proofs.Common.{List, Contains, length, refl, sym, ap, subst, ◌∙◌}
use Rattle.std.proofs.lemmas.Option.{slice_get_read}
use Rattle.bit_boards.specs.declared.piece.Side.{Side}
use Rattle.list_laws.proofs.Standing.{contained}
use Rattle.mate_facts.specs.declared.entry.MateEntry.{MateEntry}
use Rattle.notes.specs.Set.{entries_of, positions_of, ranked_of}
use Rattle.notes.specs.Sets.{AreMates}
use Rattle.notes.specs.Valid.{StandsAmong}
use Rattle.notes.specs.declared.set.Set.{Set}
use Rattle.notes.specs.declared.rule.Rule.TheVariants.{MateLeaf}
use Rattle.notes.proofs.Among.{mate_play, mate_meets, mate_stands}
use Rattle.notes.proofs.leaves.mate_leaves.Goals as goal

pub leaf-requires-clause-play : goal.leaf-requires-clause-play
leaf-requires-clause-play c =
    let items = c.entries-entry-items.result.now in
    let same = c.entries-entry-items.ensures ∙ ap entries_of (c.deref.ensures ∙ c.in_ok-set.ensures.ok) in
    let at = slice_get_read items (length items) c.loop-entry.entry-index c.entry-item.result refl c.loop-entry-test.true c.entry-item.is in
    let there = subst (λ (all : List MateEntry). Contains all c.entry-item.result) same (contained items c.loop-entry.entry-index c.entry-item.result at) in
    let are = subst (λ (side : Side). AreMates c.args.version side c.args.entries.items) (sym c.attacker-attacker.ensures) c.requires in
    mate_play c.args.version c.attacker-attacker.result c.args.entries.items c.entry-item.result are there

pub leaf-requires-clause-rule : goal.leaf-requires-clause-rule
leaf-requires-clause-rule c =
    let items = c.entries-entry-items.result.now in
    let same = c.entries-entry-items.ensures ∙ ap entries_of (c.deref.ensures ∙ c.in_ok-set.ensures.ok) in
    let at = slice_get_read items (length items) c.loop-entry.entry-index c.entry-item.result refl c.loop-entry-test.true c.entry-item.is in
    let there = subst (λ (all : List MateEntry). Contains all c.entry-item.result) same (contained items c.loop-entry.entry-index c.entry-item.result at) in
    let are = subst (λ (side : Side). AreMates c.args.version side c.args.entries.items) (sym c.attacker-attacker.ensures) c.requires in
    mate_meets c.args.version c.attacker-attacker.result c.args.entries.items c.entry-item.result are there 0 _ (ap ranked_of c.in_ok-set.ensures.ok)

pub leaf-requires-clause-set : goal.leaf-requires-clause-set
leaf-requires-clause-set c =
    let items = c.entries-entry-items.result.now in
    let same = c.entries-entry-items.ensures ∙ ap entries_of (c.deref.ensures ∙ c.in_ok-set.ensures.ok) in
    let at = slice_get_read items (length items) c.loop-entry.entry-index c.entry-item.result refl c.loop-entry-test.true c.entry-item.is in
    let there = subst (λ (all : List MateEntry). Contains all c.entry-item.result) same (contained items c.loop-entry.entry-index c.entry-item.result at) in
    let are = subst (λ (side : Side). AreMates c.args.version side c.args.entries.items) (sym c.attacker-attacker.ensures) c.requires in
    subst (λ (set : Set). StandsAmong (MateLeaf c.args.version c.entry-item.result.rank.number) c.attacker-attacker.result c.entry-item.result.at (entries_of set) (positions_of set))
    (sym c.in_ok-set.ensures.ok) (mate_stands c.args.version c.attacker-attacker.result c.args.entries.items c.entry-item.result are there)
