-- The promise in plain words, from how a run ended.
use Rattle.std.proofs.Common.{◌≡◌, ℕ, List, Option, Some, refl, subst, sym}
use Rattle.board_core.specs.declared.moves.Move.{Move}
use Rattle.shogi_rules.specs.declared.problem.Problem.{Problem as GivenProblem}
use Rattle.cert_text.specs.declared.certificate.Certificate.{Certificate}
use Rattle.cert_text.specs.declared.certificate.Certificate.TheVariants.{Mate}
use Rattle.cert_text.specs.Reading.{IsTextOf}
use Rattle.cert_text.specs.Certificate.{Mating}
use Rattle.cert_check.specs.Valid.{ValidMate}
use Rattle.one_run.specs.declared.ended.Ended.{Ended}
use Rattle.one_run.specs.declared.ended.Ended.TheVariants.{Answered, CutShort, Failed}
use Rattle.one_run.specs.declared.ended.Fault.TheVariants.{Text, TooLong, Read, NoMemory}
use Rattle.one_run.specs.Outside.{Shown}
use Rattle.one_run.specs.Run.{IsBrokenOff, IsEnded, IsWellPosed}
use Rattle.one_run.specs.Stops.{Signals}
use Rattle.one_run.proofs.Offered.{took_it}
use Rattle.cmd_record.specs.declared.answer.RecordAnswer.{RecordAnswer}
use Rattle.cmd_record.specs.declared.answer.RecordAnswer.TheVariants.{Recorded, Refused}
use Rattle.cmd_record.specs.declared.fault.RecordFault.{RecordFault}
use Rattle.cmd_record.specs.declared.fault.RecordFault.TheVariants as faults
use Rattle.cmd_check.specs.Answer.{IsTextOfOne}
use Rattle.cmd_record.specs.Answer.{HasFault}
use Rattle.cmd_record.specs.Headline.{EndsWithRecord, HasMateLeft, IsMateText, IsTextWith}
use Rattle.cmd_record.specs.Meaning.{record_meaning}

-- what was recorded is a mate's, with its main line
pub recorded_of : (stops : Signals) (source sink : Shown) (input : List ℕ) (problem : GivenProblem) (moves : List Move) (ended : Ended RecordAnswer RecordFault)
    → IsEnded record_meaning stops source sink ended → source.told ≡ Some input → ended ≡ Answered (Recorded problem moves) → IsTextWith input problem.position moves
recorded_of stops source sink input problem moves ended is told recorded =
    let d = (subst (λ (e : Ended RecordAnswer RecordFault). IsEnded record_meaning stops source sink e) recorded is).decided in
    record {
      certificate = d.true_of.certificate;
      readable = d.true_of.text.read.0;
      text = subst (λ (i : List ℕ). IsTextOf (Mate d.true_of.certificate) i) (took_it source.told source.told_after d.input input told d.read.took) d.true_of.text.read.1;
      line = d.true_of.true_of;
    }

-- a text is one certificate's
same_mate : (input : List ℕ) (certificate : Mating) (is : IsMateText input) → IsTextOfOne input (Mate certificate) → is.certificate ≡ certificate
same_mate input certificate is one = let same = one.only (Mate is.certificate) is.readable is.text in cc

-- a valid mate's text gets its record
pub mates_of : (stops : Signals) (source sink : Shown) (input : List ℕ) (ended : Ended RecordAnswer RecordFault)
    → IsEnded record_meaning stops source sink ended → source.told ≡ Some input → ¬ IsBrokenOff ended → IsMateText input → EndsWithRecord ended
mates_of stops source sink input (Answered (Recorded problem moves)) ended told whole is = (problem, moves, refl)
mates_of stops source sink input (Answered (Refused entry why)) ended told whole is =
    let d = ended.decided in
    let one = subst (λ (i : List ℕ). IsTextOfOne i (Mate d.true_of.certificate)) (took_it source.told source.told_after d.input input told d.read.took) d.true_of.text in
    let valid = subst (λ (c : Mating). ValidMate c c.problem) (same_mate input d.true_of.certificate is one) is.valid in
    absurd (d.true_of.true_of.invalid valid)
mates_of stops source sink input (CutShort answer) ended told whole is = absurd (whole tt)
mates_of stops source sink input (Failed (Text (faults.Certificate fault)) kept) ended told whole is =
    let text = subst (λ (i : List ℕ). IsTextOf (Mate is.certificate) i) (sym (took_it source.told source.told_after kept input told ended.0.0.took)) is.text in
    absurd (ended.0.1.none (Mate is.certificate) is.readable text)
mates_of stops source sink input (Failed (Text faults.NotAMate) kept) ended told whole is =
    let text = subst (λ (i : List ℕ). IsTextOf (Mate is.certificate) i) (sym (took_it source.told source.told_after kept input told ended.0.0.took)) is.text in
    let same = ended.0.1.1.only (Mate is.certificate) is.readable text in
    absurd cc
mates_of stops source sink input (Failed TooLong kept) ended told whole is = absurd (whole tt)
mates_of stops source sink input (Failed Read kept) ended told whole is = absurd (whole tt)
mates_of stops source sink input (Failed NoMemory kept) ended told whole is = absurd (whole tt)

-- what is a mate's text has no fault
faultless : (given : (left : Option (List ℕ)) × HasMateLeft left) (fault : RecordFault) → HasFault given.1.input fault → ⊥
faultless given (faults.Certificate fault) is = is.none (Mate given.1.certificate) given.1.readable given.1.text
faultless given faults.NotAMate is = let same = is.1.only (Mate given.1.certificate) given.1.readable given.1.text in absurd cc

pub posed_of : (left : Option (List ℕ)) → HasMateLeft left → IsWellPosed record_meaning left
posed_of left given = record {
  input = given.input;
  told = given.told;
  short = given.short;
  faultless = faultless (left, given);
}
