-- What the search comes to, and what is told of it.
use Rattle.std.proofs.Common.{sym, ap, subst, ◌∙◌}
use Rattle.search_limits.specs.Sizes.{SettingsView}
use Rattle.search_pool.specs.End.{IsAlone}
use Rattle.survey.specs.Tally.{tally_of}
use Rattle.survey.proofs.decide.decide.Goals as goal

pub returns-in-Solved : goal.returns-in-Solved
returns-in-Solved c = record {
  end = c.in_ok-note.field-0;
  alone = subst (λ (s : SettingsView). IsAlone c.args.problem.now.position s c.in_ok-note.field-0) c.settings.ensures c.in_ok-note.ensures.alone;
  told = c.verdict.ensures.told ∙ sym (ap tally_of c.in-Solved.is);
  is_true = c.verdict.ensures.is_true;
}

pub returns : goal.returns
returns c = record {
  end = c.in_ok-note.field-0;
  alone = subst (λ (s : SettingsView). IsAlone c.args.problem.now.position s c.in_ok-note.field-0) c.settings.ensures c.in_ok-note.ensures.alone;
  told = sym (ap tally_of c.in-Unknown.is);
  is_true = tt;
}
