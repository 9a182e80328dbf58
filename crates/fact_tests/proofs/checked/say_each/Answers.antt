use Rattle.std.proofs.Common.{length, arith, refl, below_more}
use Rattle.std.proofs.lemmas.Option.{slice_get_read, slice_get_within}
use Rattle.fact_tests.proofs.Said.{said_there}
use Rattle.fact_tests.proofs.checked.say_each.Goals as goal

pub loop-at-preserved : goal.loop-at-preserved
loop-at-preserved c =
    let moves = c.args.moves.now in
    let notes = c.args.notes.now in
    let k = c.loop-at.at in
    let many = c.if-moves-notes.false in
    let test = c.loop-at-test.true in
    let move_there = slice_get_read moves (length moves) k c.index-moves-at.result refl test c.index-moves-at.is in
    let note_there = slice_get_read notes (length notes) k c.index-notes-at.result refl (omega (arith, many, test)) c.index-notes-at.is in
    below_more _ _ c.loop-at.invariant (λ move note.
    said_there c.args.conclusion c.args.problem.now.position.side c.args.position.now moves notes k c.index-moves-at.result move
    c.index-notes-at.result note move_there note_there (c.says.ensures (cc)))

pub returns : goal.returns
returns c = λ all. record {
  as_many = let many = c.if-moves-notes.false in omega (arith, many);
  each = λ i move note is_move is_note.
      let inside = slice_get_within c.args.moves.now i move is_move in
      let end = c.loop-at-test.false in
      c.loop-at.invariant i (omega (arith, inside, end)) move note is_move is_note;
}
