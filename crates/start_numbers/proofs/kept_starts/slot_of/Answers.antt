use Rattle.std.proofs.Common.{sym, subst, ◌∙◌}
use Rattle.board_laws.proofs.Keys.{position_exact}
use Rattle.board_core.specs.Board.{Board}
use Rattle.start_def.specs.Start.{IsStartOf}
use Rattle.start_numbers.proofs.kept_starts.slot_of.Goals as goal

pub invariant_of-result : goal.invariant_of-result
invariant_of-result c = record {
  known = λ b kept same. subst (λ (z : Board). IsStartOf c.args.attacker z c.args.by c.args.numbers)
      (sym (position_exact b c.args.position.now kept c.laws.ensures (same ∙ c.requires.key))) c.requires.start;
}
