use Rattle.std.proofs.Common.{List, Contains, length, refl, sym, ap, subst, ◌∙◌}
use Rattle.std.proofs.lemmas.Option.{slice_get_read}
use Rattle.bit_boards.specs.declared.piece.Side.{Side}
use Rattle.board_core.specs.Board.{Board}
use Rattle.list_laws.proofs.Standing.{contained}
use Rattle.notes.specs.Set.{positions_of}
use Rattle.notes.specs.Sets.{AreEscapes}
use Rattle.notes.proofs.Among.{escape_play}
use Rattle.notes.proofs.leaves.escape_leaves.Goals as goal

pub leaf-requires-clause-play : goal.leaf-requires-clause-play
leaf-requires-clause-play c =
    let items = c.positions-position-items.result.now in
    let same = c.positions-position-items.ensures ∙ ap positions_of (c.deref.ensures ∙ c.in_ok-set.ensures.ok) in
    let at = slice_get_read items (length items) c.loop-position.position-index c.position-item.result refl c.loop-position-test.true c.position-item.is in
    let there = subst (λ (all : List Board). Contains all c.position-item.result) same (contained items c.loop-position.position-index c.position-item.result at) in
    let are = subst (λ (side : Side). AreEscapes c.args.version side c.args.positions.items) (sym c.attacker-attacker.ensures) c.requires in
    escape_play c.args.version c.attacker-attacker.result c.args.positions.items c.position-item.result are there
