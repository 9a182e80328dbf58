use Rattle.std.proofs.Common.{◌∙◌, ◌++◌, List, ap, arith, length, refl, take_all}
use Rattle.std.proofs.lemmas.Option.{slice_get_read}
use Rattle.cook_line.specs.declared.stage.Stage.{Stage}
use Rattle.cmd_cook.specs.Text.{stages_text}
use Rattle.cmd_cook.proofs.Written.{written_stage}
use Rattle.cmd_cook.proofs.text.append_stages.Goals as goal

pub loop-turn-preserved : goal.loop-turn-preserved
loop-turn-preserved c =
    let stages = c.args.stages.now in
    written_stage c.args.moves.now stages c.loop-turn.turn c.index-stages-turn.result c.args.out.now.items c.loop-turn.out.items _
    (slice_get_read stages (length stages) c.loop-turn.turn c.index-stages-turn.result refl (omega (arith, c.loop-turn-test.true)) c.index-stages-turn.is)
    c.loop-turn.invariant c.in_ok-append_stage.ensures

pub returns : goal.returns
returns c =
    c.loop-turn.invariant
    ∙ ap (λ (ss : List Stage). c.args.out.now.items ++ stages_text c.args.moves.now 0 ss)
    (take_all c.loop-turn.turn c.args.stages.now (omega (arith, c.loop-turn-test.false)))
