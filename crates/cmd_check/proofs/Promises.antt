-- The promise in plain words, from how a run ended.
use Rattle.std.proofs.Common.{◌≡◌, ◌∙◌, inr, ℕ, List, [], Option, Some, None, Result, Ok, Err, ap, length, refl, subst, sym}
use Rattle.std.specs.Prelude.{MatchResult}
use Rattle.board_core.specs.Board.{Board}
use Rattle.cert_text.specs.declared.certificate.Certificate.{Certificate}
use Rattle.cert_text.specs.declared.fault.CertFault.{CertFault}
use Rattle.cert_text.specs.declared.head.Claim.{Claim}
use Rattle.cert_text.specs.Kinds.{claim_of, positions_in, problem_of}
use Rattle.cert_text.specs.Reading.{IsTextOf}
use Rattle.cert_check.specs.Valid.{IsValid}
use Rattle.cert_check.specs.Reasons.{IsVerdict}
use Rattle.cert_check.specs.declared.verdict.Verdict.{Verdict}
use Rattle.cert_check.specs.declared.verdict.Verdict.TheVariants as verdict
use Rattle.shogi_rules.specs.declared.problem.Problem.{Problem as GivenProblem}
use Rattle.app_texts.specs.declared.answer.Judgement.{Judgement}
use Rattle.app_texts.specs.declared.answer.Judgement.TheVariants.{Accepted, Refused}
use Rattle.app_texts.specs.declared.fault.ProblemFault.{ProblemFault}
use Rattle.problem_answers.specs.Reading.{OneReading}
use Rattle.one_run.specs.declared.ended.Ended.{Ended}
use Rattle.one_run.specs.declared.ended.Ended.TheVariants.{Answered, CutShort, Failed}
use Rattle.one_run.specs.declared.ended.Fault.TheVariants.{Text, TooLong, Read, NoMemory}
use Rattle.one_run.specs.Outside.{Shown, IsUntouched}
use Rattle.one_run.specs.Run.{IsBrokenOff, IsEnded, IsWellPosed}
use Rattle.one_run.specs.Stops.{Signals}
use Rattle.one_run.proofs.Offered.{took_it, unbegun_run}
use Rattle.cmd_check.specs.Answer.{IsJudged, IsTrueOfCertificate}
use Rattle.cmd_check.specs.Asked.{IsFaultInWords, IsProblemInWords, IsJudgedFor, AnyProblemIsSound, given_form}
use Rattle.cmd_check.specs.Headline.{HasCertificateLeft, IsCheckRun, IsValidText}
use Rattle.cmd_check.specs.Meaning.{check_meaning}

-- a certificate has one verdict for a problem
abbrev VerdictOnce : Type 0
VerdictOnce = (c : Certificate) (p : Board) (one other : Verdict) → IsVerdict c p one → IsVerdict c p other → one ≡ other

-- where the words give a problem with a fault, that is what is found
pub failed_is : OneReading → (text : Option (List ℕ)) (r : Result (Option GivenProblem) ProblemFault) → MatchResult r (IsProblemInWords text) (IsFaultInWords text)
    → (fault : ProblemFault) → IsFaultInWords text fault → r ≡ Err fault
failed_is one None r found fault s = absurd s
failed_is one (Some text) (Ok None) found fault s = absurd found
failed_is one (Some text) (Ok (Some p)) found fault s = let same = one given_form text (Ok p.position) (Err fault) found s in absurd (cc)
failed_is one (Some text) (Err f) found fault s = let same = one given_form text (Err f) (Err fault) found s in let is : f ≡ fault = cc in ap Err is

-- a certificate is judged for one problem
one_judged_for : OneReading → (text : Option (List ℕ)) (c d : Certificate) (p q : Board) → c ≡ d → IsJudgedFor text c p → IsJudgedFor text d q → p ≡ q
one_judged_for one None c d p q same s t = s ∙ ap problem_of same ∙ sym t
one_judged_for one (Some text) c d p q same s t = let outcomes = one given_form text (Ok p) (Ok q) s t in cc

accepted_is_valid : (problem : Option (List ℕ)) (stops : Signals) (source sink : Shown) (input : List ℕ) (claim : Claim) (entries : ℕ)
    → IsEnded (check_meaning problem) stops source sink (Answered (Accepted claim entries)) → source.told ≡ Some input → IsValidText problem input claim entries
accepted_is_valid problem stops source sink input claim entries ended told =
    let d = ended.decided in
    record {
      certificate = d.true_of.certificate;
      readable = d.true_of.text.read.0;
      text = subst (λ (i : List ℕ). IsTextOf d.true_of.certificate i) (took_it source.told source.told_after d.input input told d.read.took) d.true_of.text.read.1;
      is_claim = d.true_of.true_of.is_claim;
      count = d.true_of.true_of.count;
      board = d.true_of.board;
      judged_for = d.true_of.judged_for;
      valid = d.true_of.true_of.valid;
      shows = d.true_of.true_of.shows;
    }

valid_is_accepted : OneReading → (problem : Option (List ℕ)) (stops : Signals) (source sink : Shown) (input : List ℕ) (claim : Claim) (entries : ℕ) (ended : Ended Judgement CertFault)
    → IsEnded (check_meaning problem) stops source sink ended → source.told ≡ Some input → ¬ IsBrokenOff ended → IsValidText problem input claim entries
    → ended ≡ Answered (Accepted claim entries)
valid_is_accepted one problem stops source sink input claim entries (Answered (Accepted found count)) ended told whole valid =
    let d = ended.decided in
    let text = subst (λ (i : List ℕ). IsTextOf valid.certificate i) (sym (took_it source.told source.told_after d.input input told d.read.took)) valid.text in
    let same = d.true_of.text.only valid.certificate valid.readable text in
    let one_claim : found ≡ claim = d.true_of.true_of.is_claim ∙ sym (ap claim_of same) ∙ sym valid.is_claim in
    let one_count : count ≡ entries = d.true_of.true_of.count ∙ sym (ap (λ (c : Certificate). length (positions_in c)) same) ∙ sym valid.count in
    cc
valid_is_accepted one problem stops source sink input claim entries (Answered (Refused entry why)) ended told whole valid =
    let d = ended.decided in
    let text = subst (λ (i : List ℕ). IsTextOf valid.certificate i) (sym (took_it source.told source.told_after d.input input told d.read.took)) valid.text in
    let same = d.true_of.text.only valid.certificate valid.readable text in
    let one_board = one_judged_for one problem valid.certificate d.true_of.certificate valid.board d.true_of.board same valid.judged_for d.true_of.judged_for in
    absurd (d.true_of.true_of.invalid (subst (λ (c : Certificate). IsValid c d.true_of.board) same (subst (λ (p : Board). IsValid valid.certificate p) one_board valid.valid)))
valid_is_accepted one problem stops source sink input claim entries (CutShort a) ended told whole valid = absurd (whole tt)
valid_is_accepted one problem stops source sink input claim entries (Failed (Text f) i) ended told whole valid =
    let text = subst (λ (x : List ℕ). IsTextOf valid.certificate x) (sym (took_it source.told source.told_after i input told ended.0.0.took)) valid.text in
    absurd (ended.0.1.none valid.certificate valid.readable text)
valid_is_accepted one problem stops source sink input claim entries (Failed TooLong i) ended told whole valid = absurd (whole tt)
valid_is_accepted one problem stops source sink input claim entries (Failed Read i) ended told whole valid = absurd (whole tt)
valid_is_accepted one problem stops source sink input claim entries (Failed NoMemory i) ended told whole valid = absurd (whole tt)

-- where the run wasn't broken off, it accepts exactly where the text is a valid certificate's
pub accepted_of : OneReading → (problem : Option (List ℕ)) (stops : Signals) (source sink : Shown) (input : List ℕ) (claim : Claim) (entries : ℕ) (ended : Ended Judgement CertFault)
    → IsEnded (check_meaning problem) stops source sink ended → source.told ≡ Some input → ¬ IsBrokenOff ended
    → (ended ≡ Answered (Accepted claim entries) → IsValidText problem input claim entries) × (IsValidText problem input claim entries → ended ≡ Answered (Accepted claim entries))
accepted_of one problem stops source sink input claim entries ended is told whole = (
  λ accepted. accepted_is_valid problem stops source sink input claim entries
      (subst (λ (e : Ended Judgement CertFault). IsEnded (check_meaning problem) stops source sink e) accepted is) told,
  valid_is_accepted one problem stops source sink input claim entries ended is told whole,
)

-- one judgement is true of a certificate for a problem
same_judgement : VerdictOnce → (p : Board) (c : Certificate) (one other : Judgement) → IsTrueOfCertificate p c one → IsTrueOfCertificate p c other → one ≡ other
same_judgement once p c (Accepted claim entries) (Accepted claimed counted) s t =
    let one_claim : claim ≡ claimed = s.is_claim ∙ sym t.is_claim in
    let one_count : entries ≡ counted = s.count ∙ sym t.count in
    cc
same_judgement once p c (Accepted claim entries) (Refused entry why) s t = absurd (t.invalid s.valid)
same_judgement once p c (Refused entry why) (Accepted claim entries) s t = absurd (s.invalid t.valid)
same_judgement once p c (Refused entry why) (Refused number reason) s t =
    let same = once c p (verdict.Refused entry why) (verdict.Refused number reason) s.first t.first in cc

-- and of a text
one_judgement : OneReading → VerdictOnce → (problem : Option (List ℕ)) (input : List ℕ) (one other : Judgement) → IsJudged problem input one
    → IsJudged problem input other → one ≡ other
one_judgement reading once problem input one other s t =
    let same = s.text.only t.certificate t.text.read.0 t.text.read.1 in
    let board = one_judged_for reading problem t.certificate s.certificate t.board s.board same t.judged_for s.judged_for in
    same_judgement once s.board s.certificate one other s.true_of
    (subst (λ (c : Certificate). IsTrueOfCertificate s.board c other) same
    (subst (λ (p : Board). IsTrueOfCertificate p t.certificate other) board t.true_of))

-- where the run wasn't broken off, it ended with the judgement that is true of the text
pub told_of : OneReading → VerdictOnce → (problem : Option (List ℕ)) (stops : Signals) (source sink : Shown) (input : List ℕ) (judgement : Judgement)
    (ended : Ended Judgement CertFault) → IsEnded (check_meaning problem) stops source sink ended → source.told ≡ Some input → ¬ IsBrokenOff ended
    → IsJudged problem input judgement → ended ≡ Answered judgement
told_of reading once problem stops source sink input judgement (Answered found) ended told whole is =
    let d = ended.decided in
    ap Answered (one_judgement reading once problem input found judgement
    (subst (λ (i : List ℕ). IsJudged problem i found) (took_it source.told source.told_after d.input input told d.read.took) d.true_of) is)
told_of reading once problem stops source sink input judgement (CutShort a) ended told whole is = absurd (whole tt)
told_of reading once problem stops source sink input judgement (Failed (Text f) i) ended told whole is =
    let text = subst (λ (x : List ℕ). IsTextOf is.certificate x) (sym (took_it source.told source.told_after i input told ended.0.0.took)) is.text.read.1 in
    absurd (ended.0.1.none is.certificate is.text.read.0 text)
told_of reading once problem stops source sink input judgement (Failed TooLong i) ended told whole is = absurd (whole tt)
told_of reading once problem stops source sink input judgement (Failed Read i) ended told whole is = absurd (whole tt)
told_of reading once problem stops source sink input judgement (Failed NoMemory i) ended told whole is = absurd (whole tt)

-- what is a certificate's text has no fault
pub posed_of : (problem : Option (List ℕ)) (left : Option (List ℕ)) → HasCertificateLeft left → IsWellPosed (check_meaning problem) left
posed_of problem left given = record {
  input = given.input;
  told = given.told;
  short = given.short;
  faultless = λ fault is. is.none given.certificate given.readable given.text;
}

-- a run that wanted memory before it began keeps all that `check` promises
pub unbegun_check : (problem : Option (List ℕ)) (source sink : Shown) → IsUntouched source → IsUntouched sink → IsCheckRun problem source sink (Failed NoMemory [])
unbegun_check problem source sink unread unwritten = record {
  accepted = λ input claim entries told whole. absurd (whole tt);
  same = λ input judgement told whole. absurd (whole tt);
  run = λ stops unused. unbegun_run (check_meaning problem) stops source sink unused unread unwritten;
  complete = λ given sound kept. inr ([], refl);
}

-- a problem that the words give, and that is one, has no fault
pub asked_has_no_fault : OneReading → (problem : Option (List ℕ)) (c : Certificate) (p : Board) (f : ProblemFault) → IsJudgedFor problem c p → IsFaultInWords problem f → ⊥
asked_has_no_fault one None c p f s t = t
asked_has_no_fault one (Some text) c p f s t = let same = one given_form text (Ok p) (Err f) s t in absurd (cc)

pub posed_has_no_fault : OneReading → (problem : Option (List ℕ)) (f : ProblemFault) → AnyProblemIsSound problem → IsFaultInWords problem f → ⊥
posed_has_no_fault one None f posed s = s
posed_has_no_fault one (Some text) f posed s = let same = one given_form text (Ok posed.0) (Err f) posed.1 s in absurd (cc)
