-- At each command a session does something, whatever memory there is.
use Rattle.std.proofs.Common.{inr, ℕ, List, Some, None, Result, Ok, Err, IfOk, OnErr, refl}
use Rattle.std.specs.Str.Lines.{strip_carriage_return}
use Rattle.std.specs.declared.alloc.AllocError.{AllocError}
use Rattle.board_core.specs.Board.{Board}
use Rattle.search_limits.specs.declared.faults.Setting.{Setting}
use Rattle.search_limits.specs.Sizes.{AreSound}
use Rattle.usi_session.specs.declared.act.Act.{Act}
use Rattle.usi_session.specs.Options.{with_option, numbers_by}
use Rattle.usi_session.specs.Commands.{CommandView, SetOption, Position, IsCommand}
use Rattle.usi_session.specs.Positions.{Refusal, IsPositionOutcome}
use Rattle.usi_session.specs.Sessions.{SessionView, ActView, Says, DoesNothing, DoesAt, Only}
use Rattle.usi_session.specs.Texts.{told, refusal_text, bad_option_text}
use Rattle.usi_session.specs.Seen.{act_seen}
use Rattle.usi_session.specs.Reading.{DoesSome, HasOutcome}
use Rattle.usi_session.specs.Laws.{HasAct}

pub on-err : {A P : Type 0} (result : Result A AllocError) → P → OnErr result P
on-err (Ok value) it = tt
on-err (Err error) it = it

pub only-some : (this : ActView) (before : SessionView) → (act : ActView) × (after : SessionView) × Only this before act after
only-some this before = (this, before, (refl, refl))

pub position-some : (before : SessionView) (sfen : List ℕ) (moves : List (List ℕ)) → HasOutcome sfen moves → DoesSome before (Position sfen moves)
position-some before sfen moves (outcome, is) = by outcome is where
  by : (outcome : Result Board Refusal) → IsPositionOutcome sfen moves outcome → DoesSome before (Position sfen moves)
  by (Ok found) is = (DoesNothing, record before { problem = Some found }, (Ok found, is, (refl, refl)))
  by (Err refusal) is = (Says (told (refusal_text refusal)), record before { problem = None }, (Err refusal, is, (refl, refl)))

pub option-some : (before : SessionView) (setting : Setting) (number : ℕ) → (¬ AreSound (numbers_by (with_option setting number before.options)))
    → DoesSome before (SetOption setting number)
option-some before setting number unsound = (Says bad_option_text, before, inr (unsound, (refl, refl)))

pub act-some : (before after : SessionView) (line : List ℕ) (command : CommandView) (result : Result Act AllocError) → IsCommand (strip_carriage_return line) command
    → IfOk result (λ act. DoesAt before command (act_seen act) after) → OnErr result (DoesSome before command) → HasAct before line
act-some before after line command (Ok act) said done some = (act_seen act, after, record { command = command; said = said; done = done })
act-some before after line command (Err error) said done (act, then, does) = (act, then, record { command = command; said = said; done = does })
