-- What a note that answers a problem says of it.
use Rattle.std.proofs.Common.{◌≡◌, IfOk, Result, Ok, Err, sym, ap, subst, ◌∙◌}
use Rattle.board_core.specs.Board.{Board}
use Rattle.mate_def.specs.Mate.{IsMate, Escapes, EscapeIsNoMate}
use Rattle.notes.specs.declared.rule.Conclusion.TheVariants.{Escape}
use Rattle.notes.specs.Derivation.{Derivation, attacker_of, position_of, conclusion_of}
use Rattle.notes.specs.Truth.{IsTrueNote, IsToMove}
use Rattle.visit_log.specs.Frame.{task_for}
use Rattle.visit_log.specs.Sound.{IsAnswer}

-- A problem is no mate whose note concludes an escape.
pub escape-no_mate : EscapeIsNoMate → (problem : Board) (note : Derivation) → IsTrueNote note → IsAnswer (task_for problem 1) note
    → conclusion_of note ≡ Escape → ¬ IsMate problem.side problem
escape-no_mate law problem note truth answer escape =
    let turn : IsToMove (attacker_of note) note = ap (λ (b : Board). b.side) answer.about ∙ sym answer.same_attacker in
    let escapes : Escapes (attacker_of note) (position_of note) = truth.escapes escape turn answer.closed in
    let here : Escapes problem.side (position_of note) = subst (λ side. Escapes side (position_of note)) answer.same_attacker escapes in
    law problem.side problem (subst (λ (b : Board). Escapes problem.side b) answer.about here)

-- What follows from what is so of an answer is so of it.
pub answer_so : {A E : Type 0} (r : Result A E) (P Q : A → Type 0) → IfOk r P → ((a : A) → P a → Q a) → IfOk r Q
answer_so (Ok a) P Q so leads = leads a so
answer_so (Err e) P Q so leads = tt
