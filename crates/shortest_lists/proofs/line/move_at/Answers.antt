use Rattle.shortest_lists.proofs.Finding.{move_there, text_there}
use Rattle.shortest_lists.proofs.line.move_at.Goals as goal

pub returns-clause-is_move : goal.returns-clause-is_move
returns-clause-is_move c =
    move_there c.entry_laws.ensures.found c.args.certificate.now c.entries.result.now c.in-Some.place c.args.position.now c.index-entries-place.result
    c.entries.ensures.entries (c.in-Some.ensures _ c.requires.places) c.index-entries-place.is

pub returns-clause-text : goal.returns-clause-text
returns-clause-text c =
    text_there c.entry_laws.ensures.found c.args.certificate.now c.entries.result.now c.in-Some.place c.args.position.now c.index-entries-place.result
    c.entries.ensures.entries (c.in-Some.ensures _ c.requires.places) c.index-entries-place.is c.entries.ensures.kept
