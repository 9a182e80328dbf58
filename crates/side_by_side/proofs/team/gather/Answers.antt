use Rattle.std.proofs.Common.{sym, subst, ◌∙◌, arith}
use Rattle.std.proofs.lemmas.List.{length-set, get_or-set_other}
use Rattle.side_by_side.specs.Inside.{AreMade}
use Rattle.side_by_side.proofs.team.gather.Goals as goal

pub give_back-requires-clause-made : goal.give_back-requires-clause-made
give_back-requires-clause-made g c κs within =
    subst (λ member. AreMade (g.J.Jobs.is_answer c.args.jobs.now) member.made.items)
    (sym (c.loop-at.invariant.2 c.loop-at.at c.index-members-at.result (omega arith)))
    (c.requires.made c.loop-at.at c.index-members-at.result c.loop-at-test.true)

pub loop-at-preserved : goal.loop-at-preserved
loop-at-preserved g c = (
  length-set c.loop-at.members c.loop-at.at c.give_back.new.member ∙ c.loop-at.invariant.0,
  c.give_back.ensures.count ∙ c.loop-at.invariant.1,
  (λ k d low. get_or-set_other c.loop-at.members c.loop-at.at k c.give_back.new.member d (λ e. omega arith) ∙ c.loop-at.invariant.2 k d (omega arith)),
  c.give_back.ensures.slots,
)
