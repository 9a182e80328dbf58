-- What contracts see of options and of acts.
use Rattle.shogi_rules.specs.Tsume.{IsProblem}
use Rattle.search_limits.specs.Settings.{settings_in}
use Rattle.search_limits.specs.Sizes.{AreSound}
use Rattle.usi_session.specs.declared.options.Options.{Options}
use Rattle.usi_session.specs.declared.act.Act.{Act}
use Rattle.usi_session.specs.declared.act.Act.TheVariants as acts
use Rattle.usi_session.specs.Options.{OptionsView}
use Rattle.usi_session.specs.Sessions.{ActView, Says, Solves, Ends, DoesNothing}

-- The options, as they are seen.
abbrev pub options_in : Options → OptionsView
options_in o = record {
  workers = o.settings.workers;
  expansions = o.settings.expansions;
  room = o.settings.room;
  rows = o.settings.rows;
  shards = o.shards;
}

-- An act, as it is seen.
abbrev pub act_seen : Act → ActView
act_seen (acts.Say text) = Says text.items
act_seen (acts.Solve solve) = Solves solve.problem.position (settings_in solve.settings) solve.millis
act_seen acts.Quit = Ends
act_seen acts.Nothing = DoesNothing

-- What is to be solved is a problem: the defender has a king and isn't in check. The numbers make
-- settings: each lies in its range, the rows and the shards are powers of two, and there are no
-- more shards than rows.
abbrev pub IsFit : Act → Type 0
IsFit (acts.Say text) = Unit {0}
IsFit (acts.Solve solve) = IsProblem solve.problem.position × AreSound (settings_in solve.settings)
IsFit acts.Quit = Unit {0}
IsFit acts.Nothing = Unit {0}
