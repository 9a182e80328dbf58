-- The promise in plain words, from how a run ended.
use Rattle.std.proofs.Common.{◌≡◌, ◌∙◌, inr, ℕ, List, [], Option, Some, ap, ap₂, refl, subst, sym}
use Rattle.cert_text.specs.declared.head.Claim.{Claim}
use Rattle.collection_text.specs.Told.{told_lines}
use Rattle.one_run.specs.declared.ended.Ended.{Ended}
use Rattle.one_run.specs.declared.ended.Ended.TheVariants.{Answered, CutShort, Failed}
use Rattle.one_run.specs.declared.ended.Fault.TheVariants.{Text, TooLong, Read, NoMemory}
use Rattle.one_run.specs.Outside.{Shown, IsUntouched}
use Rattle.one_run.specs.Run.{IsBrokenOff, IsEnded, IsWellPosed}
use Rattle.one_run.specs.Stops.{Signals}
use Rattle.one_run.proofs.Offered.{took_it, unbegun_run}
use Rattle.cmd_certificates.specs.declared.asked.NoFault.{NoFault}
use Rattle.cmd_certificates.specs.declared.judged.LineJudgement.TheVariants.{Accepted}
use Rattle.cmd_certificates.specs.Answer.{AreJudged}
use Rattle.cmd_certificates.specs.Headline.{AcceptsAt, HasBytesLeft, IsCollectionRun, IsValidAt}
use Rattle.cmd_certificates.specs.Judged.{JudgedView}
use Rattle.cmd_certificates.specs.Meaning.{collection_meaning}
use Rattle.cmd_certificates.proofs.Judgements.{VerdictOnce, accepted_told, judged_at, line_at, line_of, one_judged, valid_text}

-- how a run ended that wasn't broken off: with the judgements on the input
abbrev Whole : List ℕ → Ended (List JudgedView) NoFault → Type 0
Whole input ended = (judged : List JudgedView) × (ended ≡ Answered judged) × AreJudged (told_lines input) judged

whole : (stops : Signals) (source sink : Shown) (input : List ℕ) (ended : Ended (List JudgedView) NoFault) → IsEnded collection_meaning stops source sink ended
    → source.told ≡ Some input → ¬ IsBrokenOff ended → Whole input ended
whole stops source sink input (Answered judged) ended told not =
    let d = ended.decided in
    (judged, refl, subst (λ (i : List ℕ). AreJudged (told_lines i) judged) (took_it source.told source.told_after d.input input told d.read.took) d.true_of)
whole stops source sink input (CutShort judged) ended told not = absurd (not tt)
whole stops source sink input (Failed (Text fault) kept) ended told not = absurd ended.0.1
whole stops source sink input (Failed TooLong kept) ended told not = absurd (not tt)
whole stops source sink input (Failed Read kept) ended told not = absurd (not tt)
whole stops source sink input (Failed NoMemory kept) ended told not = absurd (not tt)

-- where it wasn't broken off, it accepts a line exactly where a valid certificate stands behind it
pub accepted_of : (stops : Signals) (source sink : Shown) (input : List ℕ) (place : ℕ) (number : List ℕ) (claim : Claim) (entries : ℕ)
    (ended : Ended (List JudgedView) NoFault) → IsEnded collection_meaning stops source sink ended → source.told ≡ Some input → ¬ IsBrokenOff ended
    → (AcceptsAt ended place number claim entries → IsValidAt input place number claim entries)
    × (IsValidAt input place number claim entries → AcceptsAt ended place number claim entries)
accepted_of stops source sink input place number claim entries ended is told not =
    let found = whole stops source sink input ended is told not in (
      (λ accepts.
          let same : accepts.lines ≡ found.0 = answered_once (sym accepts.answered ∙ found.1) in
          let are = subst (λ (js : List JudgedView). AreJudged (told_lines input) js) (sym same) found.2 in
          let at = line_at (told_lines input) accepts.lines place (record { number = number; told = Accepted claim entries }) are accepts.stands in
          record {
            line = at.0;
            stands = at.1;
            is_number = at.2.number;
            is_told = at.2.told.accepted.is_claim ∙ at.2.told.has.told;
            bare = at.2.told.has.bare;
            valid = valid_text at.0 claim entries at.2.told;
          }),
      (λ valid.
          let at = judged_at (told_lines input) found.0 place valid.line found.2 valid.stands in
          let is_told = accepted_told valid.line at.0.told claim entries valid.is_told valid.bare valid.valid at.2.told in
          record {
            lines = found.0;
            answered = found.1;
            stands = at.1 ∙ ap Some (ap₂ line_of (at.2.number ∙ sym valid.is_number) is_told);
          }),
    )
  where
    answered_once : {one other : List JudgedView} → ◌≡◌ {A = Ended (List JudgedView) NoFault} (Answered one) (Answered other) → one ≡ other
    answered_once e = cc

-- and it ends with the judgements that are true of the text
pub told_of : VerdictOnce → (stops : Signals) (source sink : Shown) (input : List ℕ) (judged : List JudgedView) (ended : Ended (List JudgedView) NoFault)
    → IsEnded collection_meaning stops source sink ended → source.told ≡ Some input → ¬ IsBrokenOff ended → AreJudged (told_lines input) judged
    → ended ≡ Answered judged
told_of once stops source sink input judged ended is told not are =
    let found = whole stops source sink input ended is told not in
    found.1 ∙ ap Answered (one_judged once (told_lines input) found.0 judged found.2 are)

-- no text has a fault as a whole
pub posed_of : (left : Option (List ℕ)) → HasBytesLeft left → IsWellPosed collection_meaning left
posed_of left given = record {
  input = given.input;
  told = given.told;
  short = given.short;
  faultless = λ fault is. is;
}

-- a run that wanted memory before it began keeps all that `check --collection` promises
pub unbegun_collection : (source sink : Shown) → IsUntouched source → IsUntouched sink → IsCollectionRun source sink (Failed NoMemory [])
unbegun_collection source sink unread unwritten = record {
  accepted = λ input place number claim entries told whole. absurd (whole tt);
  same = λ input judged told whole. absurd (whole tt);
  run = λ stops unused. unbegun_run collection_meaning stops source sink unused unread unwritten;
  complete = λ given sound kept. inr ([], refl);
}
