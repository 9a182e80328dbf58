-- The stages of a line, one after the other.
use Rattle.std.proofs.Common.{◌≡◌, ◌<◌, ◌+◌, ◌-◌, ◌*◌, ◌/◌, ◌∙◌, ◌++◌, ◌∷◌, [], inl, inr, ℕ, List, length, length-append, append_assoc, append-nil, arith, ap, refl, sym, subst}
use Rattle.std.specs.Prelude.{◌%◌, Some, min, slice_get}
use Rattle.std.proofs.lemmas.Grind.{div_ceil_times}
use Rattle.board_core.specs.declared.moves.Move.{Move}
use Rattle.board_core.specs.Board.{Board}
use Rattle.list_laws.proofs.Standing.{get_cases}
use Rattle.search_gate.specs.Stop.{Signal}
use Rattle.search_limits.specs.Sizes.{SettingsView}
use Rattle.visit_log.specs.Run.{WorkerView}
use Rattle.cook_search.specs.Found.{IsReportFound}
use Rattle.cook_line.specs.declared.stage.Stage.{Stage}
use Rattle.cook_line.specs.Turns.{HasCheck, position_at}
use Rattle.cook_line.specs.Stages.{AreStages, IsStageAt, IsStageOf}
use Rattle.cook_along.specs.Found.{AreFoundFrom}
use Rattle.cook_along.specs.Inside.{IsAtTurn, IsStageFound}

-- 1. One stage more was found.

found_more : (p : Board) (moves : List Move) (s : SettingsView) (turn : ℕ) (told now then : List Signal) (stages : List Stage) (crews_now crews_then : List (List WorkerView))
    (stage : Stage) (own : List (List WorkerView)) → AreFoundFrom p moves s turn told now stages crews_now
    → IsReportFound (position_at p moves (turn + length stages)) s now then stage.report own → crews_then ≡ crews_now ++ own
    → AreFoundFrom p moves s turn told then (stages ++ stage ∷ []) crews_then
found_more p moves s turn told now then [] crews_now crews_then stage own so_far found brought =
    let none : List Stage = [] in
    let here : turn + length none ≡ turn = omega arith in (
      then,
      own,
      [],
      subst (λ (n : ℕ). IsReportFound (position_at p moves n) s told then stage.report own) here
          (subst (λ (old : List Signal). IsReportFound (position_at p moves (turn + length none)) s old then stage.report own) so_far.0 found),
      (refl, refl),
      brought ∙ (ap (λ (cs : List (List WorkerView)). cs ++ own) so_far.1 ∙ sym (append-nil own)),
    )
found_more p moves s turn told now then (first ∷ stages) crews_now crews_then stage own so_far found brought =
    let here : turn + length (first ∷ stages) ≡ turn + 1 + length stages = omega arith in (
      so_far.0,
      so_far.1,
      so_far.2 ++ own,
      so_far.3,
      found_more p moves s (turn + 1) so_far.0 now then stages so_far.2 (so_far.2 ++ own) stage own so_far.4
          (subst (λ (n : ℕ). IsReportFound (position_at p moves n) s now then stage.report own) here found) refl,
      brought ∙ (ap (λ (cs : List (List WorkerView)). cs ++ own) so_far.5 ∙ append_assoc so_far.1 so_far.2 own),
    )

-- 2. How far the turns are gone through: the problem is at the turn before this one.

pub record IsAlong (p : Board) (moves : List Move) (s : SettingsView) (told now : List Signal) (turn : ℕ) (problem : Board) (stages : List Stage)
    (crews : List (List WorkerView)) : Type 0 where
  pub at : IsAtTurn p moves (turn - 1) problem
  pub count : length stages ≡ turn
  pub each : (place : ℕ) (stage : Stage) → slice_get stages place ≡ Some stage → IsStageAt p moves place stage
  pub found : AreFoundFrom p moves s 0 told now stages crews

pub along_none : (p : Board) (moves : List Move) (s : SettingsView) (told : List Signal) (stages : List Stage) (crews : List (List WorkerView)) → IsAtTurn p moves 0 p
    → stages ≡ [] → crews ≡ [] → IsAlong p moves s told told 0 p stages crews
along_none p moves s told stages crews at none without =
    subst (λ (cs : List (List WorkerView)). IsAlong p moves s told told 0 p stages cs) (sym without)
    (subst (λ (ss : List Stage). IsAlong p moves s told told 0 p ss []) (sym none) (record {
      at = at;
      count = refl;
      each = λ place stage there. absurd (cc);
      found = (refl, refl);
    }))

pub along_more : (p : Board) (moves : List Move) (s : SettingsView) (told now then : List Signal) (turn : ℕ) (before problem : Board) (stages longer : List Stage)
    (crews_now crews_then : List (List WorkerView)) (check : Move) (stage : Stage)
    → IsAlong p moves s told now turn before stages crews_now → IsAtTurn p moves turn problem → HasCheck moves turn check
    → IsStageFound problem check s now then crews_now crews_then stage → longer ≡ stages ++ stage ∷ []
    → IsAlong p moves s told then (turn + 1) problem longer crews_then
along_more p moves s told now then turn before problem stages longer crews_now crews_then check stage so_far at has found more =
    subst (λ (ss : List Stage). IsAlong p moves s told then (turn + 1) problem ss crews_then) (sym more) (record {
      at = subst (λ (n : ℕ). IsAtTurn p moves n problem) (omega arith) at;
      count = let long = length-append stages (stage ∷ []) in let count = so_far.count in omega (arith, long, count);
      each = λ place one there. elim (get_cases stages stage place one there) [
        | inl old ↦ so_far.each place one old
        | inr new ↦
            let is_turn : place ≡ turn = new.0 ∙ so_far.count in
            subst (λ (n : ℕ). IsStageAt p moves n one) (sym is_turn) (subst (IsStageAt p moves turn) new.1 own)
      ];
      found = found_more p moves s 0 told now then stages crews_now crews_then stage found.own so_far.found
          (subst (λ (b : Board). IsReportFound b s now then stage.report found.own)
          (at.is_position ∙ ap (position_at p moves) (let count = so_far.count in omega (arith, count))) found.found) found.brought;
    })
  where
    own : IsStageAt p moves turn stage
    own = record {
      check = has ∙ ap Some (sym found.of_check);
      of_position = subst (λ (b : Board). IsStageOf b stage) at.is_position found.of_position;
    }

pub along_all : (p : Board) (moves : List Move) (s : SettingsView) (told now : List Signal) (turn : ℕ) (problem : Board) (stages : List Stage) (crews : List (List WorkerView))
    → turn ≡ (length moves + 1) / 2 → IsAlong p moves s told now turn problem stages crews → AreStages p moves stages
along_all p moves s told now turn problem stages crews whole so_far = record { count = so_far.count ∙ whole; each = so_far.each }

-- 3. As many turns as the line has checks: half its moves, rounded up.

pub turn_within : (moves turn turns : ℕ) → turns ≡ moves / 2 + min 1 (moves % 2) → turn < turns → 2 * turn < moves
turn_within moves turn turns half below =
    let bounds = div_ceil_times moves 2 (omega arith) in
    let upper = bounds.1 in
    omega (arith, half, below, upper)

pub turns_of : (moves turn turns : ℕ) → turns ≡ moves / 2 + min 1 (moves % 2) → turn ≡ turns → turn ≡ (moves + 1) / 2
turns_of moves turn turns half all =
    let bounds = div_ceil_times moves 2 (omega arith) in
    let lower = bounds.0 in
    let upper = bounds.1 in
    omega (arith, half, all, lower, upper)
