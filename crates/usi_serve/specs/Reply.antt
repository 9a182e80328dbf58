-- The reply to a problem that a session was asked to have solved.
use Rattle.std.specs.Prelude.{◌≡◌, ℕ, List, Option}
use Rattle.board_core.specs.Board.{Board}
use Rattle.search_limits.specs.Settings.{settings_in}
use Rattle.search_limits.specs.Sizes.{SettingsView}
use Rattle.usi_text.specs.Lines.{mate_text, nomate_text, timeout_text}
use Rattle.cert_text.specs.Entries.{line}
use Rattle.app_texts.specs.declared.answer.Solution.{Solution}
use Rattle.app_texts.specs.declared.answer.Solution.TheVariants.{Mate, NoMate, Unknown}
use Rattle.one_run.specs.Stops.{Signals, AreUsed, once_armed}
use Rattle.cmd_solve.specs.Answer.{IsTrueOf}
use Rattle.usi_serve.specs.declared.reply.Reply.{Reply}

-- The line that tells of a solution: the answer of the USI protocol alone, for a mate with its
-- moves.
abbrev pub reply_line : Solution → List ℕ
reply_line (Mate c moves) = line (mate_text moves)
reply_line (NoMate c) = line nomate_text
reply_line (Unknown cause crew) = line timeout_text

-- A reply is one to a problem with these settings and this time: that was asked, and its solution
-- is true of the problem. Each stop was armed once for the time, or for none, before any was
-- polled, and only the workers' were.
pub record IsReplyTo (p : Board) (s : SettingsView) (limit : Option ℕ) (stops : Signals) (reply : Reply) : Type 0 where
  pub problem : reply.asked.problem.position ≡ p
  pub settings : settings_in reply.asked.settings ≡ s
  pub millis : reply.asked.millis ≡ limit
  pub true_of : IsTrueOf p s (once_armed limit stops) reply.solution
  pub used : AreUsed s.workers limit stops
