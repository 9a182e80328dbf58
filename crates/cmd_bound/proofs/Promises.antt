-- The promise in plain words, from how a run ended.
use Rattle.std.proofs.Common.{◌≡◌, ◌∙◌, inl, inr, ℕ, List, Option, Some, None, Ok, ap, subst, sym}
use Rattle.std.specs.Prelude.{◌-◌}
use Rattle.board_core.specs.Board.{Board}
use Rattle.cert_text.specs.Certificate.{CertificateView, Mating}
use Rattle.bound_text.specs.declared.entry.BoundEntry.{BoundEntry}
use Rattle.bound_check.specs.Valid.{IsValidBound}
use Rattle.bound_check.specs.Reasons.{IsVerdict}
use Rattle.bound_check.specs.declared.verdict.BoundVerdict.{BoundVerdict}
use Rattle.bound_check.specs.declared.verdict.BoundVerdict.TheVariants as verdicts
use Rattle.shortest_text.specs.declared.text.ShortestText.{ShortestText}
use Rattle.shortest_text.specs.declared.text.ShortestText.TheVariants as texts
use Rattle.shortest_text.specs.declared.fault.ShortestFault.{ShortestFault}
use Rattle.shortest_text.specs.Reading.{IsReadable, IsTextOf}
use Rattle.problem_answers.specs.Reading.{OneReading}
use Rattle.one_run.specs.declared.ended.Ended.{Ended}
use Rattle.one_run.specs.declared.ended.Ended.TheVariants.{Answered, CutShort, Failed}
use Rattle.one_run.specs.declared.ended.Fault.TheVariants.{Text, TooLong, Read, NoMemory}
use Rattle.one_run.specs.Outside.{Shown}
use Rattle.one_run.specs.Run.{IsBrokenOff, IsEnded, IsWellPosed}
use Rattle.one_run.specs.Stops.{Signals}
use Rattle.one_run.proofs.Offered.{took_it}
use Rattle.cmd_check.specs.Asked.{given_form}
use Rattle.cmd_bound.specs.declared.judgement.BoundJudgement.{BoundJudgement}
use Rattle.cmd_bound.specs.declared.judgement.BoundJudgement.TheVariants.{Shortest, NoneWithin, MateRefused, Refused}
use Rattle.cmd_bound.specs.declared.judgement.BoundWhy.TheVariants.{Root, Rank, Check}
use Rattle.cmd_bound.specs.Answer.{IsAccepted, IsJudged, IsJudgedFor, IsJudgementOn, IsNoneAccepted, IsTrueOfBound, IsTrueOfMate, IsTrueOfText, problem_of}
use Rattle.cmd_bound.specs.Headline.{HasTextLeft, IsNoneText, IsShortestText}
use Rattle.cmd_bound.specs.Meaning.{bound_meaning}

-- a valid bound is accepted
abbrev pub ValidIsAccepted : Type 0
ValidIsAccepted = (entries : List BoundEntry) (p : Board) (within : ℕ) (verdict : BoundVerdict) → IsVerdict entries p within verdict
    → IsValidBound entries p within → verdict ≡ verdicts.Accepted

-- a text is judged for one problem
one_judged_for : OneReading → (text : Option (List ℕ)) (c d p q : Board) → c ≡ d → IsJudgedFor text c p → IsJudgedFor text d q → p ≡ q
one_judged_for one None c d p q same s t = s ∙ same ∙ sym t
one_judged_for one (Some text) c d p q same s t = let outcomes = one given_form text (Ok p) (Ok q) s t in cc

-- what is true of a mate and a bound that are valid is that they are accepted
only_shortest : ValidIsAccepted → (p : Board) (rank : ℕ) (c : Mating) (b : CertificateView BoundEntry) (judgement : BoundJudgement)
    → IsTrueOfMate p rank c b judgement → IsAccepted p c b rank → judgement ≡ Shortest rank
only_shortest valid p rank c b (Shortest moves) t a = ap Shortest t.0
only_shortest valid p rank c b (NoneWithin moves) t a = absurd t
only_shortest valid p rank c b (MateRefused entry why) t a = absurd (t.invalid a.mate.valid)
only_shortest valid p rank c b (Refused entry Rank) t a = absurd (t.2 a.mate.ranked)
only_shortest valid p rank c b (Refused entry Root) t a =
    absurd (let e = valid b.entries p (rank - 1) (verdicts.Refused entry None) t.2 a.bound in cc)
only_shortest valid p rank c b (Refused entry (Check check)) t a =
    absurd (let e = valid b.entries p (rank - 1) (verdicts.Refused entry (Some check)) t.1 a.bound in cc)

-- and of a bound alone
only_none : ValidIsAccepted → (p : Board) (limit : ℕ) (b : CertificateView BoundEntry) (judgement : BoundJudgement)
    → IsTrueOfBound p limit b judgement → IsNoneAccepted p b limit → judgement ≡ NoneWithin limit
only_none valid p limit b (Shortest moves) t a = absurd t
only_none valid p limit b (NoneWithin moves) t a = ap NoneWithin t.0
only_none valid p limit b (MateRefused entry why) t a = absurd t
only_none valid p limit b (Refused entry Rank) t a = absurd t
only_none valid p limit b (Refused entry Root) t a = elim t.1 as (λ _. Refused entry Root ≡ NoneWithin limit) [
  | inl other ↦ absurd (other a.problem)
  | inr first ↦ absurd (let e = valid b.entries p limit (verdicts.Refused entry None) first a.bound in cc)
]
only_none valid p limit b (Refused entry (Check check)) t a =
    absurd (let e = valid b.entries p limit (verdicts.Refused entry (Some check)) t.1 a.bound in cc)

-- what was accepted as a shortest mate is a text of one
shortest_text : (problem : Option (List ℕ)) (input : List ℕ) (moves : ℕ) (text : ShortestText) → IsReadable text → IsTextOf text input
    → IsJudgementOn problem text (Shortest moves) → IsShortestText problem input moves
shortest_text problem input moves (texts.Found rank c b) readable is judged = record {
  rank = rank;
  certificate = c;
  bound = b;
  readable = readable;
  text = is;
  is_rank = judged.true_of.0;
  board = judged.board;
  judged_for = judged.judged_for;
  accepted = judged.true_of.1;
}
shortest_text problem input moves (texts.NoneWithin limit b) readable is judged = absurd judged.true_of

none_text : (problem : Option (List ℕ)) (input : List ℕ) (moves : ℕ) (text : ShortestText) → IsReadable text → IsTextOf text input
    → IsJudgementOn problem text (NoneWithin moves) → IsNoneText problem input moves
none_text problem input moves (texts.Found rank c b) readable is judged = absurd judged.true_of
none_text problem input moves (texts.NoneWithin limit b) readable is judged = record {
  limit = limit;
  bound = b;
  readable = readable;
  text = is;
  is_limit = judged.true_of.0;
  board = judged.board;
  judged_for = judged.judged_for;
  accepted = judged.true_of.1;
}

-- a judgement on a text of a shortest mate is that it is accepted
judged_shortest : OneReading → ValidIsAccepted → (problem : Option (List ℕ)) (input : List ℕ) (moves : ℕ) (judgement : BoundJudgement)
    → IsJudged problem input judgement → IsShortestText problem input moves → judgement ≡ Shortest moves
judged_shortest one valid problem input moves judgement judged is =
    let found : ShortestText = texts.Found is.rank is.certificate is.bound in
    let same : found ≡ judged.text = judged.only found is.readable is.text in
    let board = one_judged_for one problem (problem_of found) (problem_of judged.text) is.board judged.judged.board (ap problem_of same) is.judged_for judged.judged.judged_for in
    let true_of = subst (λ (p : Board). IsTrueOfText p found judgement) (sym board)
    (subst (λ (t : ShortestText). IsTrueOfText judged.judged.board t judgement) (sym same) judged.judged.true_of) in
    only_shortest valid is.board is.rank.number is.certificate is.bound judgement true_of is.accepted ∙ ap Shortest (sym is.is_rank)

judged_none : OneReading → ValidIsAccepted → (problem : Option (List ℕ)) (input : List ℕ) (moves : ℕ) (judgement : BoundJudgement)
    → IsJudged problem input judgement → IsNoneText problem input moves → judgement ≡ NoneWithin moves
judged_none one valid problem input moves judgement judged is =
    let found : ShortestText = texts.NoneWithin is.limit is.bound in
    let same : found ≡ judged.text = judged.only found is.readable is.text in
    let board = one_judged_for one problem (problem_of found) (problem_of judged.text) is.board judged.judged.board (ap problem_of same) is.judged_for judged.judged.judged_for in
    let true_of = subst (λ (p : Board). IsTrueOfText p found judgement) (sym board)
    (subst (λ (t : ShortestText). IsTrueOfText judged.judged.board t judgement) (sym same) judged.judged.true_of) in
    only_none valid is.board is.limit.number is.bound judgement true_of is.accepted ∙ ap NoneWithin (sym is.is_limit)

-- how a run ended that wasn't broken off: with a judgement on the input, or with a fault of it
abbrev Whole : Option (List ℕ) → List ℕ → Ended BoundJudgement ShortestFault → Type 0
Whole problem input (Answered judgement) = IsJudged problem input judgement
Whole problem input (CutShort judgement) = ⊥
Whole problem input (Failed (Text fault) kept) = (t : ShortestText) → IsReadable t → ¬ IsTextOf t input
Whole problem input (Failed TooLong kept) = ⊥
Whole problem input (Failed Read kept) = ⊥
Whole problem input (Failed NoMemory kept) = ⊥

whole : (problem : Option (List ℕ)) (stops : Signals) (source sink : Shown) (input : List ℕ) (ended : Ended BoundJudgement ShortestFault)
    → IsEnded (bound_meaning problem) stops source sink ended → source.told ≡ Some input → ¬ IsBrokenOff ended → Whole problem input ended
whole problem stops source sink input (Answered judgement) ended told not =
    let d = ended.decided in
    subst (λ (i : List ℕ). IsJudged problem i judgement) (took_it source.told source.told_after d.input input told d.read.took) d.true_of
whole problem stops source sink input (CutShort judgement) ended told not = not tt
whole problem stops source sink input (Failed (Text fault) kept) ended told not = λ t readable is.
    ended.0.1.none t readable
    (subst (λ (i : List ℕ). IsTextOf t i) (sym (took_it source.told source.told_after kept input told ended.0.0.took)) is)
whole problem stops source sink input (Failed TooLong kept) ended told not = not tt
whole problem stops source sink input (Failed Read kept) ended told not = not tt
whole problem stops source sink input (Failed NoMemory kept) ended told not = not tt

shortest_ends : OneReading → ValidIsAccepted → (problem : Option (List ℕ)) (input : List ℕ) (moves : ℕ) (ended : Ended BoundJudgement ShortestFault)
    → Whole problem input ended → IsShortestText problem input moves → ended ≡ Answered (Shortest moves)
shortest_ends one valid problem input moves (Answered judgement) ends is = ap Answered (judged_shortest one valid problem input moves judgement ends is)
shortest_ends one valid problem input moves (CutShort judgement) ends is = absurd ends
shortest_ends one valid problem input moves (Failed (Text fault) kept) ends is = absurd (ends (texts.Found is.rank is.certificate is.bound) is.readable is.text)
shortest_ends one valid problem input moves (Failed TooLong kept) ends is = absurd ends
shortest_ends one valid problem input moves (Failed Read kept) ends is = absurd ends
shortest_ends one valid problem input moves (Failed NoMemory kept) ends is = absurd ends

none_ends : OneReading → ValidIsAccepted → (problem : Option (List ℕ)) (input : List ℕ) (moves : ℕ) (ended : Ended BoundJudgement ShortestFault)
    → Whole problem input ended → IsNoneText problem input moves → ended ≡ Answered (NoneWithin moves)
none_ends one valid problem input moves (Answered judgement) ends is = ap Answered (judged_none one valid problem input moves judgement ends is)
none_ends one valid problem input moves (CutShort judgement) ends is = absurd ends
none_ends one valid problem input moves (Failed (Text fault) kept) ends is = absurd (ends (texts.NoneWithin is.limit is.bound) is.readable is.text)
none_ends one valid problem input moves (Failed TooLong kept) ends is = absurd ends
none_ends one valid problem input moves (Failed Read kept) ends is = absurd ends
none_ends one valid problem input moves (Failed NoMemory kept) ends is = absurd ends

-- where the run wasn't broken off, it accepts exactly where the text is one of a shortest mate
pub shortest_of : OneReading → ValidIsAccepted → (problem : Option (List ℕ)) (stops : Signals) (source sink : Shown) (input : List ℕ) (moves : ℕ)
    (ended : Ended BoundJudgement ShortestFault) → IsEnded (bound_meaning problem) stops source sink ended → source.told ≡ Some input → ¬ IsBrokenOff ended
    → (ended ≡ Answered (Shortest moves) → IsShortestText problem input moves) × (IsShortestText problem input moves → ended ≡ Answered (Shortest moves))
shortest_of one valid problem stops source sink input moves ended is told not =
    let ends = whole problem stops source sink input ended is told not in (
      (λ accepted. let judged : IsJudged problem input (Shortest moves) = subst (λ (e : Ended BoundJudgement ShortestFault). Whole problem input e) accepted ends in
          shortest_text problem input moves judged.text judged.read.0 judged.read.1 judged.judged),
      shortest_ends one valid problem input moves ended ends,
    )

-- and of a bound alone
pub none_of : OneReading → ValidIsAccepted → (problem : Option (List ℕ)) (stops : Signals) (source sink : Shown) (input : List ℕ) (moves : ℕ)
    (ended : Ended BoundJudgement ShortestFault) → IsEnded (bound_meaning problem) stops source sink ended → source.told ≡ Some input → ¬ IsBrokenOff ended
    → (ended ≡ Answered (NoneWithin moves) → IsNoneText problem input moves) × (IsNoneText problem input moves → ended ≡ Answered (NoneWithin moves))
none_of one valid problem stops source sink input moves ended is told not =
    let ends = whole problem stops source sink input ended is told not in (
      (λ accepted. let judged : IsJudged problem input (NoneWithin moves) = subst (λ (e : Ended BoundJudgement ShortestFault). Whole problem input e) accepted ends in
          none_text problem input moves judged.text judged.read.0 judged.read.1 judged.judged),
      none_ends one valid problem input moves ended ends,
    )

-- what is a text about the shortest mate has no fault
pub posed_of : (problem : Option (List ℕ)) (left : Option (List ℕ)) → HasTextLeft left → IsWellPosed (bound_meaning problem) left
posed_of problem left given = record {
  input = given.input;
  told = given.told;
  short = given.short;
  faultless = λ fault is. is.none given.says given.readable given.text;
}
