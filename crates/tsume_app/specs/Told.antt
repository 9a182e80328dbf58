-- The exit status of a run, and what the user is told of it on the standard error.
use Rattle.std.specs.Prelude.{◌≡◌, ◌⊎◌, ℕ, List, [], Option, Some, None, codes, if◌then◌else◌}
use Rattle.clap.specs.Words.{Text as Word}
use Rattle.tsume_io.specs.Faults.{Rose}
use Rattle.tsume_io.specs.Sink.{GrewBy, GrewByPrefix}
use Rattle.explanations.specs.Shown.{IsPlain}
use Rattle.cert_text.specs.FaultText.{certificate_fault_text}
use Rattle.tsume_words.specs.FaultText.{word_fault_text}
use Rattle.program_words.specs.Commands.{CommandView}
use Rattle.program_words.specs.Commands.CommandView.{to_cook, to_solve, to_shortest}
use Rattle.program_words.specs.Meaning.{AsksForHelp, FailsFirst, command_of}
use Rattle.tsume_words.specs.declared.faults.WordFault.{WordFault}
use Rattle.app_texts.specs.FaultText.{problem_fault_text}
use Rattle.app_texts.specs.declared.fault.ProblemFault.{ProblemFault}
use Rattle.one_run.specs.Outside.{Shown, NeverFailed, IsUntouched}
use Rattle.one_run.specs.Stops.{Signals}
use Rattle.run_telling.specs.Status.{ended_status, written_status, solution_status, judgement_status}
use Rattle.run_telling.specs.Telling.{Telling, BeginsAsTold, MayFollowMoves, MayFollowProblem, alone, plainly, ended_telling, written_telling}
use Rattle.cmd_collection.specs.Counts.{counts_status}
use Rattle.cmd_shortest.specs.Text.{answer_status as shortest_status}
use Rattle.cmd_bound.specs.Text.{bound_status}
use Rattle.cmd_certificates.specs.Judged.{judged_status}
use Rattle.cmd_library.specs.FaultText.{MayFollowLibrary, library_fault_text}
use Rattle.cmd_library.specs.Text.{library_status}
use Rattle.cmd_cook.specs.FaultText.{MayFollowCook, cook_fault_text}
use Rattle.cmd_cook.specs.Text.{answer_status as cook_status}
use Rattle.shortest_text.specs.FaultText.{shortest_fault_text}
use Rattle.cmd_record.specs.Text.{answer_status, fault_text}
use Rattle.cmd_upgrade.specs.Text as upgrade
use Rattle.cmd_solution.specs.Text.{verdict_status}
use Rattle.cmd_usi.specs.Text.{talk_status, talk_telling}
use Rattle.kif_moves.specs.FaultText.{moves_fault_text}
use Rattle.tsume_app.specs.declared.ended.Ended.{Ended}
use Rattle.tsume_app.specs.declared.ended.Ended.TheVariants as ends
use Rattle.one_run.specs.declared.ended.Ended.{Ended as Reading}
use Rattle.one_run.specs.declared.written.Written.{Written}
use Rattle.tsume_app.specs.declared.ended.Refusal.{Refusal}
use Rattle.tsume_app.specs.declared.ended.Refusal.TheVariants.{NotUtf8, Words, Asked, NoMemory}
use Rattle.tsume_app.specs.declared.telling.Told.{Told}
use Rattle.tsume_app.specs.declared.telling.Told.TheVariants.{Whole, InPart, Nothing, Unwanted}
use Rattle.tsume_app.specs.Run.{IsKept, GivesFault, GivesHelp, WantsMemory}

-- How many expansions a search has that the user is told of while it runs; none where that wasn't
-- asked for.
abbrev pub limit_told : CommandView → Option ℕ
limit_told (to_solve asked) = if asked.solve.watch.progress then Some asked.solve.settings.expansions else None
limit_told (to_cook asked) = if asked.solve.watch.progress then Some asked.solve.settings.expansions else None
limit_told (to_shortest asked) = if asked.watch.progress then Some asked.expansions else None
limit_told other = None

-- The status where no command was begun: 2 where the words are refused, 6 for want of memory.
abbrev pub refusal_status : Refusal → ℕ
refusal_status NotUtf8 = 2
refusal_status (Words fault) = 2
refusal_status (Asked fault) = 2
refusal_status NoMemory = 6

-- What the user is told where no command was begun: a line, and behind it perhaps what to do.
abbrev pub refusal_telling : Refusal → Telling
refusal_telling NotUtf8 = alone (codes "a word is not UTF-8")
refusal_telling (Words fault) = plainly (word_fault_text fault)
refusal_telling (Asked fault) = plainly (problem_fault_text fault)
refusal_telling NoMemory = plainly (codes "out of memory")

-- What a run leaves beside its answer: its exit status, and what the user is told of it.
pub record Left : Type 1 where
  pub status : ℕ
  pub telling : Telling

-- What is left by a command that reads a text: by the status of its answer, and by what is told of
-- a fault of its text.
abbrev pub by_reading : {A F : Type 0} → (A → ℕ) → (F → List ℕ) → (F → List ℕ → Type 0) → Reading A F → Left
by_reading status text_of MayFollow ended = record {
  status = ended_status status ended;
  telling = ended_telling text_of MayFollow ended;
}

-- What is left by a command that reads nothing, and by help: by the status of its answer.
abbrev pub by_writing : {A : Type 0} → (A → ℕ) → Written A → Left
by_writing status written = record { status = written_status status written; telling = written_telling written }

-- What is left by a refusal.
abbrev pub by_refusing : Refusal → Left
by_refusing refusal = record { status = refusal_status refusal; telling = refusal_telling refusal }

-- What a run leaves, as the command does that the words asked for: the status of an answer is 0 of
-- a survey and of help.
abbrev pub left_by : Ended → Left
left_by (ends.Solve ended) = by_reading solution_status problem_fault_text MayFollowProblem ended
left_by (ends.Library ended) = by_reading library_status library_fault_text MayFollowLibrary ended
left_by (ends.Shortest ended) = by_reading shortest_status problem_fault_text MayFollowProblem ended
left_by (ends.Cook ended) = by_reading cook_status cook_fault_text MayFollowCook ended
left_by (ends.Check ended) = by_reading judgement_status certificate_fault_text (λ fault. IsPlain) ended
left_by (ends.Bound ended) = by_reading bound_status shortest_fault_text (λ fault. IsPlain) ended
left_by (ends.Certificates ended) = by_reading judged_status (λ fault. []) (λ fault explanation. explanation ≡ []) ended
left_by (ends.Survey ended) = by_writing (λ summary. 0) ended
left_by (ends.Collection ended) = by_reading counts_status (λ fault. []) (λ fault explanation. explanation ≡ []) ended
left_by (ends.Solution ended) = by_reading verdict_status moves_fault_text MayFollowMoves ended
left_by (ends.Record ended) = by_reading answer_status fault_text (λ fault. IsPlain) ended
left_by (ends.Upgrade ended) = by_reading upgrade.answer_status certificate_fault_text (λ fault. IsPlain) ended
left_by (ends.Usi talked) = record { status = talk_status talked.end; telling = talk_telling talked.end }
left_by (ends.Help ended) = by_writing (λ text. 0) ended
left_by (ends.Refused refusal) = by_refusing refusal

-- The exit status of a run.
abbrev pub status_of : Ended → ℕ
status_of ended = (left_by ended).status

-- What the user is told of a run beside its answer.
abbrev pub telling_of : Ended → Telling
telling_of ended = (left_by ended).telling

-- The user was told a text that begins so, to its end.
pub record IsToldWhole (errors : Shown) (ended : Ended) : Type 0 where
  pub text : List ℕ
  pub begins : BeginsAsTold (telling_of ended) text
  pub grew : GrewBy errors.told errors.told_after text
  pub faultless : NeverFailed errors

-- The user was told a part of a text that begins so, since the sink failed.
pub record IsToldInPart (errors : Shown) (ended : Ended) : Type 0 where
  pub text : List ℕ
  pub begins : BeginsAsTold (telling_of ended) text
  pub grew : GrewByPrefix errors.told errors.told_after text
  pub failed : Rose errors.faults errors.faults_after

-- The answer couldn't be written whole, since its sink failed, and the user was told nothing.
pub record IsUnwanted (errors : Shown) (ended : Ended) : Type 0 where
  pub failed : status_of ended ≡ 5
  pub untouched : IsUntouched errors

-- How much of a run's ending the user was told: all; a part, where the sink failed; or nothing, for
-- want of memory, which is free; or nothing of an answer that couldn't be written whole, where its
-- reader went away, which no clause tells.
abbrev pub IsTold : Shown → Ended → Told → Type 0
IsTold errors ended Whole = IsToldWhole errors ended
IsTold errors ended InPart = IsToldInPart errors ended
IsTold errors ended Nothing = IsUntouched errors
IsTold errors ended Unwanted = IsUnwanted errors ended

-- A run ended as runs do, the user was told of it whole, in part or not at all, and the status is
-- the ending's.
pub record IsToldRun (words : List Word) (stops : Signals) (source sink errors : Shown) (status : ℕ) : Type 0 where
  pub ended : Ended
  pub told : Told
  pub is_status : status ≡ status_of ended
  pub is_told : IsTold errors ended told
  pub kept : IsKept ended (command_of words) words stops source sink
  pub help : AsksForHelp words → ¬ Rose sink.faults sink.faults_after → GivesHelp ended ⊎ WantsMemory ended
  pub failed : (fault : WordFault) → FailsFirst words fault → (ended ≡ ends.Refused (Words fault)) ⊎ (ended ≡ ends.Refused NoMemory)
  pub asked : (fault : ProblemFault) → GivesFault (command_of words) fault → (ended ≡ ends.Refused (Asked fault)) ⊎ (ended ≡ ends.Refused NoMemory)
