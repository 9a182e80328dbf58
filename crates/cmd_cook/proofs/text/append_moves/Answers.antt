use Rattle.std.proofs.Common.{◌∙◌, ◌++◌, List, ap, arith, length, take_all}
use Rattle.std.specs.List.{flat_map}
use Rattle.std.proofs.lemmas.Option.{slice_get_read}
use Rattle.board_core.specs.declared.moves.Move.{Move}
use Rattle.usi_text.specs.Lines.{spaced_move}
use Rattle.cmd_cook.proofs.Written.{written_one}
use Rattle.cmd_cook.proofs.text.append_moves.Goals as goal

pub loop-by-preserved : goal.loop-by-preserved
loop-by-preserved c =
    let moves = c.args.moves.now in
    written_one spaced_move moves c.loop-by.by-index c.by-item.result c.args.out.now.items c.loop-by.out.items _
    (slice_get_read moves (length moves) c.loop-by.by-index c.by-item.result (omega arith) (omega (arith, c.loop-by-test.true)) c.by-item.is)
    c.loop-by.invariant c.in_ok-append_move.ensures

pub returns : goal.returns
returns c =
    c.loop-by.invariant
    ∙ ap (λ (ms : List Move). c.args.out.now.items ++ flat_map spaced_move ms)
    (take_all c.loop-by.by-index c.args.moves.now (omega (arith, c.loop-by-test.false)))
