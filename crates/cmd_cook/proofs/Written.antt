-- Texts that are written one behind the other.
use Rattle.std.proofs.Common.{◌≡◌, ◌∙◌, ◌+◌, ◌++◌, ℕ, zero, suc, List, [], ◌∷◌, take, add-one, append_assoc, append-nil, arith, ap, subst, sym}
use Rattle.std.specs.Prelude.{Some, slice_get}
use Rattle.std.specs.List.{flat_map}
use Rattle.std.proofs.lemmas.Option.{same_Some}
use Rattle.board_core.specs.declared.moves.Move.{Move}
use Rattle.cook_line.specs.declared.stage.Stage.{Stage}
use Rattle.cmd_cook.specs.Text.{stage_text, stages_text}

one_more : {X : Type 0} (f : X → List ℕ) (xs : List X) (k : ℕ) (x : X) → slice_get xs k ≡ Some x → flat_map f (take (suc k) xs) ≡ flat_map f (take k xs) ++ f x
one_more f [] k x at = absurd (cc)
one_more f (y ∷ xs) zero x at = append-nil (f y) ∙ ap f (same_Some y x at)
one_more f (y ∷ xs) (suc k) x at =
    ap (λ (text : List ℕ). f y ++ text) (one_more f xs k x at) ∙ sym (append_assoc (f y) (flat_map f (take k xs)) (f x))

-- the texts of the first so many are written, and one more
pub written_one : {X : Type 0} (f : X → List ℕ) (xs : List X) (k : ℕ) (x : X) (old before now : List ℕ) → slice_get xs k ≡ Some x
    → before ≡ old ++ flat_map f (take k xs) → now ≡ before ++ f x → now ≡ old ++ flat_map f (take (k + 1) xs)
written_one f xs k x old before now at so_far more =
    more ∙ (ap (λ (text : List ℕ). text ++ f x) so_far ∙ (append_assoc old (flat_map f (take k xs)) (f x)
    ∙ ap (λ (text : List ℕ). old ++ text)
    (sym (subst (λ (n : ℕ). flat_map f (take n xs) ≡ flat_map f (take k xs) ++ f x) (sym (add-one k)) (one_more f xs k x at)))))

-- what is told at one turn more, behind so many
stage_more : (moves : List Move) (turn : ℕ) (stages : List Stage) (k : ℕ) (stage : Stage) → slice_get stages k ≡ Some stage
    → stages_text moves turn (take (suc k) stages) ≡ stages_text moves turn (take k stages) ++ stage_text moves (turn + k) stage
stage_more moves turn [] k stage at = absurd (cc)
stage_more moves turn (first ∷ stages) zero stage at =
    let here : turn ≡ turn + 0 = omega arith in
    append-nil (stage_text moves turn first) ∙ ap (stage_text moves turn) (same_Some first stage at) ∙ ap (λ (n : ℕ). stage_text moves n stage) here
stage_more moves turn (first ∷ stages) (suc k) stage at =
    let here : turn + 1 + k ≡ turn + suc k = omega arith in
    ap (λ (text : List ℕ). stage_text moves turn first ++ text)
    (stage_more moves (turn + 1) stages k stage at ∙ ap (λ (n : ℕ). stages_text moves (turn + 1) (take k stages) ++ stage_text moves n stage) here)
    ∙ sym (append_assoc (stage_text moves turn first) (stages_text moves (turn + 1) (take k stages)) (stage_text moves (turn + suc k) stage))

-- what is told at the first so many turns is written, and at one more
pub written_stage : (moves : List Move) (stages : List Stage) (k : ℕ) (stage : Stage) (old before now : List ℕ) → slice_get stages k ≡ Some stage
    → before ≡ old ++ stages_text moves 0 (take k stages) → now ≡ before ++ stage_text moves k stage
    → now ≡ old ++ stages_text moves 0 (take (k + 1) stages)
written_stage moves stages k stage old before now at so_far more =
    let here : 0 + k ≡ k = omega arith in
    more ∙ (ap (λ (text : List ℕ). text ++ stage_text moves k stage) so_far ∙ (append_assoc old (stages_text moves 0 (take k stages)) (stage_text moves k stage)
    ∙ ap (λ (text : List ℕ). old ++ text)
    (sym (subst (λ (n : ℕ). stages_text moves 0 (take n stages) ≡ stages_text moves 0 (take k stages) ++ stage_text moves k stage) (sym (add-one k))
    (stage_more moves 0 stages k stage at ∙ ap (λ (n : ℕ). stages_text moves 0 (take k stages) ++ stage_text moves n stage) here)))))
