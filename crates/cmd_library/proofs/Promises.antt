-- The promise in plain words, from how a run ended.
use Rattle.std.proofs.Common.{◌≡◌, ℕ, List, [], Option, Some, inl, inr, ap, refl, subst, sym}
use Rattle.board_core.specs.declared.moves.Move.{Move}
use Rattle.board_core.specs.Board.{Board}
use Rattle.mate_def.specs.Mate.{IsMate}
use Rattle.notes.specs.Derivation.{Derivation}
use Rattle.cert_text.specs.declared.certificate.Certificate.{Certificate}
use Rattle.cert_text.specs.declared.certificate.Certificate.TheVariants as certificates
use Rattle.cert_text.specs.Certificate.{Mating, Escaping}
use Rattle.cert_check.specs.Valid.{ValidMate, ValidEscape}
use Rattle.play_line.specs.Line.{IsMainLine}
use Rattle.library_check.specs.Refused.{IsFirstRefused}
use Rattle.library_check.specs.declared.refused.Refused.{Refused as RefusedOne}
use Rattle.library_text.specs.Laws.{LibraryTextsApart, LibraryTextsAreFaultless}
use Rattle.search_limits.specs.Sizes.{SettingsView}
use Rattle.search_limits.specs.declared.cause.Cause.{Cause}
use Rattle.visit_log.specs.Run.{WorkerView}
use Rattle.tsume_words.specs.declared.form.ProblemForm.{ProblemForm}
use Rattle.app_texts.specs.declared.answer.Solution.{Solution}
use Rattle.app_texts.specs.declared.answer.Solution.TheVariants.{Mate, NoMate, Unknown}
use Rattle.problem_answers.specs.Answer.{IsAcceptedFor}
use Rattle.problem_answers.specs.Reading.{OneReading}
use Rattle.unit_desk.specs.Known.{ReachesAt}
use Rattle.one_run.specs.declared.ended.Ended.{Ended}
use Rattle.one_run.specs.declared.ended.Ended.TheVariants.{Answered, CutShort, Failed}
use Rattle.one_run.specs.declared.ended.Fault.TheVariants.{Text, TooLong, Read, NoMemory}
use Rattle.one_run.proofs.Offered.{took_it, unbegun_run}
use Rattle.one_run.specs.Outside.{Shown, IsUntouched}
use Rattle.one_run.specs.Run.{AreUsedTill, IsBrokenOff, IsEnded, IsRun, IsWellPosed}
use Rattle.one_run.specs.Stops.{Signals, AreUnused, once_armed}
use Rattle.cmd_solve.specs.Headline.{NamesMate, NamesNoMate}
use Rattle.cmd_solve.specs.Meaning.{SolveView}
use Rattle.cmd_library.specs.Answer.{HasRefused, IsFaultOf, IsPosed, IsSolutionWith, IsTrueAnswer, IsTrueWith, IsVerdictFoundWith}
use Rattle.cmd_library.specs.Headline.{AreUsedFor, HasLibraryLeft, IsKnownText, IsLibraryRun, IsUnknownWith, IsVerdictWith, LineStandsForMate, LineStandsForNoMate}
use Rattle.cmd_library.specs.Meaning.{library_meaning}
use Rattle.cmd_library.specs.Notes.{IsKnownBy, notes_of}
use Rattle.cmd_library.specs.declared.answer.LibraryAnswer.{LibraryAnswer}
use Rattle.cmd_library.specs.declared.answer.LibraryAnswer.TheVariants.{Solved, Refused}
use Rattle.cmd_library.specs.declared.fault.LibraryTextFault.{LibraryTextFault}
use Rattle.cmd_library.proofs.Cutting.{no_fault, same_posed}
use Rattle.cmd_library.proofs.Knowing.{reached}
use Rattle.cmd_library.proofs.Refusing.{OneVerdict, none_refused, one_refused}

-- What is true of all texts and certificates.
pub record Laws : Type 0 where
  pub reading : OneReading
  pub apart : LibraryTextsApart
  pub faultless : LibraryTextsAreFaultless
  pub verdict : OneVerdict

-- 1. A SOLUTION.

-- an answer is true of the bytes that the source had left
true_here : (asked : SolveView) (stops : Signals) (source sink : Shown) (input : List ℕ) (answer : LibraryAnswer)
    → IsEnded (library_meaning asked) stops source sink (Answered answer) → source.told ≡ Some input → IsTrueAnswer asked stops input answer
true_here asked stops source sink input answer ended told =
    let d = ended.decided in
    subst (λ (i : List ℕ). IsTrueAnswer asked stops i answer) (took_it source.told source.told_after d.input input told d.read.took) d.true_of

mate_of : (asked : SolveView) (stops : Signals) (input : List ℕ) (c : Mating) (moves : List Move) → IsSolutionWith asked stops input (Mate c moves)
    → LineStandsForMate asked.form input c moves
mate_of asked stops input c moves is =
    let shown = is.true_of.verdict.shown.1 in
    record {
      line = is.posed.line;
      rest = is.posed.rest;
      cut = is.posed.cut;
      mate = record {
        problem = is.problem;
        stands_for = is.posed.stands_for;
        mate = shown.mate;
        valid = shown.valid;
        accepted = shown.accepted;
        readable = shown.readable;
        text = shown.text;
        line = shown.line;
      };
    }

no_mate_of : (asked : SolveView) (stops : Signals) (input : List ℕ) (c : Escaping) → IsSolutionWith asked stops input (NoMate c)
    → LineStandsForNoMate asked.form input c
no_mate_of asked stops input c is =
    let shown = is.true_of.verdict.shown.1 in
    record {
      line = is.posed.line;
      rest = is.posed.rest;
      cut = is.posed.cut;
      no_mate = record {
        problem = is.problem;
        stands_for = is.posed.stands_for;
        no_mate = shown.no_mate;
        valid = shown.valid;
        accepted = shown.accepted;
        readable = shown.readable;
        text = shown.text;
      };
    }

unknown_of : (asked : SolveView) (stops : Signals) (input : List ℕ) (cause : Cause) (crew : List WorkerView)
    → IsSolutionWith asked stops input (Unknown cause crew)
    → IsUnknownWith asked.form asked.settings (once_armed asked.watch.deadline stops) input cause crew
unknown_of asked stops input cause crew is = record {
  problem = is.problem;
  certificates = is.certificates;
  posed = is.posed;
  valid = is.valid;
  why = is.true_of;
}

own_mate_of : (asked : SolveView) (stops : Signals) (source sink : Shown) (c : Mating) (moves : List Move)
    → IsEnded (library_meaning asked) stops source sink (Answered (Solved (Mate c moves))) → NamesMate c moves
own_mate_of asked stops source sink c moves ended =
    let shown = ended.decided.true_of.true_of.verdict.shown.1 in
    let own = sym shown.valid.problem in
    record {
      mate = subst (λ (p : Board). IsMate p.side p) own shown.mate;
      valid = subst (ValidMate c) own shown.valid;
      accepted = subst (λ (p : Board). IsAcceptedFor p (certificates.Mate c)) own shown.accepted;
      readable = shown.readable;
      text = shown.text;
      line = subst (λ (p : Board). IsMainLine c p.side p moves) own shown.line;
    }

own_no_mate_of : (asked : SolveView) (stops : Signals) (source sink : Shown) (c : Escaping)
    → IsEnded (library_meaning asked) stops source sink (Answered (Solved (NoMate c))) → NamesNoMate c
own_no_mate_of asked stops source sink c ended =
    let shown = ended.decided.true_of.true_of.verdict.shown.1 in
    let own = sym shown.valid.problem in
    record {
      no_mate = subst (λ (p : Board). ¬ IsMate p.side p) own shown.no_mate;
      valid = subst (ValidEscape c) own shown.valid;
      accepted = subst (λ (p : Board). IsAcceptedFor p (certificates.Escape c)) own shown.accepted;
      readable = shown.readable;
      text = shown.text;
    }

-- a search from notes of which one reaches the problem didn't give up
found_by : (notes : List Derivation) (p : Board) (s : SettingsView) (stops : Signals) (solution : Solution)
    → (place : ℕ) × ReachesAt p notes place → IsTrueWith notes p s stops solution → IsVerdictFoundWith notes p s stops solution
found_by notes p s stops (Mate c moves) reach is = is
found_by notes p s stops (NoMate c) reach is = is
found_by notes p s stops (Unknown cause crew) reach is = elim is as (λ _. IsVerdictFoundWith notes p s stops (Unknown cause crew)) [
  | inl gave_up ↦ absurd (gave_up.solved reach.0 reach.1)
  | inr found ↦ found
]

known_of : Laws → (asked : SolveView) (stops : Signals) (input : List ℕ) (solution : Solution) → IsKnownText asked.form input
    → IsSolutionWith asked stops input solution → IsVerdictWith asked.form asked.settings (once_armed asked.watch.deadline stops) input solution
known_of laws asked stops input solution known is =
    let same = same_posed laws.reading laws.apart asked.form input known.problem is.problem known.certificates is.certificates known.posed is.posed in
    let here = subst (λ (cs : List Certificate). IsKnownBy cs is.problem) same.1 (subst (IsKnownBy known.certificates) same.0 known.known) in
    record {
      problem = is.problem;
      certificates = is.certificates;
      posed = is.posed;
      found = found_by (notes_of is.problem.side is.certificates) is.problem asked.settings (once_armed asked.watch.deadline stops) solution
          (reached is.certificates is.problem here) is.true_of;
    }

-- 2. A REFUSED CERTIFICATE.

-- how a run ended that wasn't broken off: with an answer to the input, or with a fault of it
abbrev Whole : SolveView → Signals → List ℕ → Ended LibraryAnswer LibraryTextFault → Type 0
Whole asked stops input (Answered answer) = IsTrueAnswer asked stops input answer
Whole asked stops input (CutShort answer) = ⊥
Whole asked stops input (Failed (Text fault) kept) = IsFaultOf asked.form input fault
Whole asked stops input (Failed TooLong kept) = ⊥
Whole asked stops input (Failed Read kept) = ⊥
Whole asked stops input (Failed NoMemory kept) = ⊥

whole : (asked : SolveView) (stops : Signals) (source sink : Shown) (input : List ℕ) (ended : Ended LibraryAnswer LibraryTextFault)
    → IsEnded (library_meaning asked) stops source sink ended → source.told ≡ Some input → ¬ IsBrokenOff ended → Whole asked stops input ended
whole asked stops source sink input (Answered answer) ended told not = true_here asked stops source sink input answer ended told
whole asked stops source sink input (CutShort answer) ended told not = not tt
whole asked stops source sink input (Failed (Text fault) kept) ended told not =
    subst (λ (i : List ℕ). IsFaultOf asked.form i fault) (took_it source.told source.told_after kept input told ended.0.0.took) ended.0.1
whole asked stops source sink input (Failed TooLong kept) ended told not = not tt
whole asked stops source sink input (Failed Read kept) ended told not = not tt
whole asked stops source sink input (Failed NoMemory kept) ended told not = not tt

-- what certificates are refused of an input, they are of each library that it is
first_here : Laws → (form : ProblemForm) (input : List ℕ) (refused : RefusedOne) (is : HasRefused form input refused) (p : Board) (its : List Certificate)
    → IsPosed form input p its → IsFirstRefused its refused
first_here laws form input refused is p its posed =
    let same = same_posed laws.reading laws.apart form input is.problem p is.certificates its is.posed posed in
    subst (λ (cs : List Certificate). IsFirstRefused cs refused) same.1 is.first

refusing_ends : Laws → (asked : SolveView) (stops : Signals) (input : List ℕ) (refused : RefusedOne) (ended : Ended LibraryAnswer LibraryTextFault)
    → Whole asked stops input ended → HasRefused asked.form input refused → ended ≡ Answered (Refused refused)
refusing_ends laws asked stops input refused (Answered (Solved solution)) ends is =
    absurd (none_refused laws.verdict ends.certificates refused ends.valid (first_here laws asked.form input refused is ends.problem ends.certificates ends.posed))
refusing_ends laws asked stops input refused (Answered (Refused other)) ends is =
    let own = ends.0 in
    ap (λ (r : RefusedOne). Answered (Refused r))
    (one_refused laws.verdict own.certificates other refused own.first (first_here laws asked.form input refused is own.problem own.certificates own.posed))
refusing_ends laws asked stops input refused (CutShort answer) ends is = absurd ends
refusing_ends laws asked stops input refused (Failed (Text fault) kept) ends is =
    absurd (no_fault laws.reading laws.faultless asked.form input is.problem is.certificates is.posed fault ends)
refusing_ends laws asked stops input refused (Failed TooLong kept) ends is = absurd ends
refusing_ends laws asked stops input refused (Failed Read kept) ends is = absurd ends
refusing_ends laws asked stops input refused (Failed NoMemory kept) ends is = absurd ends

refused_of : Laws → (asked : SolveView) (stops : Signals) (source sink : Shown) (input : List ℕ) (refused : RefusedOne)
    (ended : Ended LibraryAnswer LibraryTextFault) → IsEnded (library_meaning asked) stops source sink ended → source.told ≡ Some input → ¬ IsBrokenOff ended
    → (ended ≡ Answered (Refused refused) → HasRefused asked.form input refused) × (HasRefused asked.form input refused → ended ≡ Answered (Refused refused))
refused_of laws asked stops source sink input refused ended is told not =
    let ends = whole asked stops source sink input ended is told not in (
      (λ refuses. let true_of : IsTrueAnswer asked stops input (Refused refused) = subst (λ (e : Ended LibraryAnswer LibraryTextFault). Whole asked stops input e) refuses ends in
          true_of.0),
      refusing_ends laws asked stops input refused ended ends,
    )

-- 3. THE RUN.

-- what is a problem and a library has no fault
posed_of : Laws → (asked : SolveView) (left : Option (List ℕ)) → HasLibraryLeft asked.form left → IsWellPosed (library_meaning asked) left
posed_of laws asked left given = record {
  input = given.input;
  told = given.told;
  short = given.short;
  faultless = no_fault laws.reading laws.faultless asked.form given.input given.problem given.certificates given.posed;
}

-- the stops are used where a solution is told
used_of : (asked : SolveView) (stops : Signals) (source sink : Shown) (ended : Ended LibraryAnswer LibraryTextFault)
    → IsEnded (library_meaning asked) stops source sink ended → AreUsedTill (library_meaning asked) stops ended → AreUsedFor asked stops ended
used_of asked stops source sink (Answered (Solved solution)) ended used = ended.decided.true_of.used
used_of asked stops source sink (Answered (Refused refused)) ended used = ended.decided.true_of.1
used_of asked stops source sink (CutShort (Solved solution)) ended used = ended.decided.true_of.used
used_of asked stops source sink (CutShort (Refused refused)) ended used = ended.decided.true_of.1
used_of asked stops source sink (Failed fault input) ended used = used

-- a run of `solve --library` keeps all that it promises
pub library_run : Laws → (asked : SolveView) (stops : Signals) (source sink : Shown) (ended : Ended LibraryAnswer LibraryTextFault)
    → IsRun (library_meaning asked) stops source sink ended → IsLibraryRun asked stops source sink ended
library_run laws asked stops source sink ended run = record {
  mate = λ input c moves told is. mate_of asked stops input c moves (here input told is);
  no_mate = λ input c told is. no_mate_of asked stops input c (here input told is);
  gave_up = λ input cause crew told is. unknown_of asked stops input cause crew (here input told is);
  refused = λ input refused told not. refused_of laws asked stops source sink input refused ended run.does told not;
  known = λ input solution told known is. known_of laws asked stops input solution known (here input told is);
  own_mate = λ c moves is. own_mate_of asked stops source sink c moves (at is);
  own_no_mate = λ c is. own_no_mate_of asked stops source sink c (at is);
  does = run.does;
  used = used_of asked stops source sink ended run.does run.used;
  counted = run.counted;
  complete = λ given sound kept. run.complete (posed_of laws asked source.told given) sound kept;
}
  where
    at : {other : Ended LibraryAnswer LibraryTextFault} → ended ≡ other → IsEnded (library_meaning asked) stops source sink other
    at is = subst (λ (e : Ended LibraryAnswer LibraryTextFault). IsEnded (library_meaning asked) stops source sink e) is run.does

    here : {solution : Solution} (input : List ℕ) → source.told ≡ Some input → ended ≡ Answered (Solved solution) → IsSolutionWith asked stops input solution
    here {solution} input told is = true_here asked stops source sink input (Solved solution) (at is) told

-- a run that wanted memory before it began keeps all that `solve --library` promises
pub unbegun_library : (asked : SolveView) (stops : Signals) (source sink : Shown) → AreUnused stops → IsUntouched source → IsUntouched sink
    → IsLibraryRun asked stops source sink (Failed NoMemory [])
unbegun_library asked stops source sink unused unread unwritten =
    let run = unbegun_run (library_meaning asked) stops source sink unused unread unwritten in
    record {
      mate = λ input c moves told is. absurd (cc);
      no_mate = λ input c told is. absurd (cc);
      gave_up = λ input cause crew told is. absurd (cc);
      refused = λ input refused told not. absurd (not tt);
      known = λ input solution told known is. absurd (cc);
      own_mate = λ c moves is. absurd (cc);
      own_no_mate = λ c is. absurd (cc);
      does = run.does;
      used = run.used;
      counted = run.counted;
      complete = λ given sound kept. inr ([], refl);
    }
