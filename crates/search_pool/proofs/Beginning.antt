-- How a search begins: before anything is known, or from notes that are.
use Rattle.std.proofs.Common.{◌≡◌, ℕ, List, inl, inr, refl, sym, ap, ◌∙◌, subst}
use Rattle.std.specs.Prelude.{Option, Some, None, Result, Ok, Err, IfOk, IsSome, slice_get}
use Rattle.board_core.specs.Board.{Board}
use Rattle.notes.specs.Derivation.{Derivation}
use Rattle.search_gate.specs.Stop.{Signal}
use Rattle.search_limits.specs.Sizes.{SettingsView}
use Rattle.unit_desk.specs.Known.{IsFirstSaid, ReachesAt}
use Rattle.lone_port.specs.Lone.{LonePortView, alone_at_first}
use Rattle.lone_port.specs.World.{world_at_first}
use Rattle.lone_port.specs.Alone.{for_one}
use Rattle.lone_port.specs.Filled.{IsFilled, IsWorldWith}
use Rattle.search_pool.specs.declared.end.SearchEnd.{SearchEnd}
use Rattle.search_pool.specs.End.{IsAloneUntil, IsAloneDrawing, IsUntilFrom, IsUntilWith, IsDrawingFrom, IsSolved, HeedsStop}
use Rattle.search_pool.specs.Inside.{MayBegin, world_over}
use Rattle.search_pool.proofs.Ends.{undrawn}

-- What is so of an answer stays so of it.
pub of_answer : {A E : Type 0} (P Q : A → Type 0) (result : Result A E) → ((a : A) → P a → Q a) → IfOk result P → IfOk result Q
of_answer P Q (Ok a) f h = f a h
of_answer P Q (Err e) f h = tt

-- 1. BEFORE ANYTHING IS KNOWN.

-- The table and the desk of a problem and settings before anything is known.
abbrev first_of : Board → SettingsView → LonePortView
first_of problem s = alone_at_first problem s.expansions s.room s.rows s.lends

pub drawing_alone : {E : Type 0} (result : Result SearchEnd E) (problem : Board) (s : SettingsView) (before after : Signal) (port : LonePortView) (drawn : ℕ) → port ≡ first_of problem s
    → IfOk result (λ end. IsDrawingFrom (world_over port problem) s before after end drawn) → IfOk result (λ end. IsAloneDrawing problem s before after end drawn)
drawing_alone result problem s before after port drawn is h =
    subst (λ (p : LonePortView). IfOk result (λ end. IsDrawingFrom (world_over p problem) s before after end drawn)) is h

pub until_alone : {E : Type 0} (result : Result SearchEnd E) (problem : Board) (s : SettingsView) (before after : Signal) (port : LonePortView) (drawn : ℕ) → port ≡ first_of problem s
    → IfOk result (λ end. IsDrawingFrom (world_over port problem) s before after end drawn) → IfOk result (IsAloneUntil problem s before after)
until_alone result problem s before after port drawn is h =
    of_answer (λ end. IsAloneDrawing problem s before after end drawn) (IsAloneUntil problem s before after) result
    (λ end told. undrawn (world_over (first_of problem s) problem) s before after end drawn told) (drawing_alone result problem s before after port drawn is h)

pub heeds_alone : {E : Type 0} (result : Result SearchEnd E) (problem : Board) (s : SettingsView) (before after : Signal) (port : LonePortView) → port ≡ first_of problem s
    → IfOk result (λ end. port.desk.posted ≡ None → HeedsStop before after end) → IfOk result (HeedsStop before after)
heeds_alone result problem s before after port is h =
    of_answer (λ end. port.desk.posted ≡ None → HeedsStop before after end) (HeedsStop before after) result
    (λ end told. told (ap (λ (p : LonePortView). p.desk.posted) is)) h

-- 2. FROM NOTES THAT ARE KNOWN.

-- Of its visits none is drawn, and of its room none is claimed.
pub filled_begins : (notes : List Derivation) (problem : Board) (s : SettingsView) (port : LonePortView) → IsFilled notes (first_of problem s) port → MayBegin s port
filled_begins notes problem s port is =
    subst (MayBegin s) (sym is.others) (record { expansions = refl; room = refl; drawn = refl; claimed = refl })

-- It is the world in which they are known.
filled_world : (notes : List Derivation) (problem : Board) (s : SettingsView) (port : LonePortView) → IsFilled notes (first_of problem s) port
    → IsWorldWith notes problem (for_one s) (world_over port problem)
filled_world notes problem s port is = record { filled = is; others = refl }

pub until_with : {E : Type 0} (result : Result SearchEnd E) (notes : List Derivation) (problem : Board) (s : SettingsView) (before after : Signal) (port : LonePortView) (drawn : ℕ)
    → IsFilled notes (first_of problem s) port → IfOk result (λ end. IsDrawingFrom (world_over port problem) s before after end drawn)
    → IfOk result (IsUntilWith notes problem s before after)
until_with result notes problem s before after port drawn is h =
    of_answer (λ end. IsDrawingFrom (world_over port problem) s before after end drawn) (IsUntilWith notes problem s before after) result
    (λ end told. (world_over port problem, filled_world notes problem s port is, undrawn (world_over port problem) s before after end drawn told)) h

-- Where one reaches the problem, something is posted.
reached_posted : (problem : Board) (notes : List Derivation) (posted : Option Derivation) (place : ℕ) → IsFirstSaid problem notes posted → ReachesAt problem notes place → IsSome posted
reached_posted problem notes None place none reaches = absurd (none place reaches)
reached_posted problem notes (Some said) place first reaches = refl

-- Where none does, nothing is.
unreached_none : (problem : Board) (notes : List Derivation) (posted : Option Derivation) → IsFirstSaid problem notes posted → ((place : ℕ) → ¬ ReachesAt problem notes place) → posted ≡ None
unreached_none problem notes None none not = refl
unreached_none problem notes (Some said) (place, first, says) not = absurd (not place first.reaches)

pub solved_with : {E : Type 0} (result : Result SearchEnd E) (notes : List Derivation) (problem : Board) (s : SettingsView) (port : LonePortView)
    → IsFilled notes (first_of problem s) port → IfOk result (λ end. IsSome port.desk.posted → IsSolved end)
    → IfOk result (λ end. (place : ℕ) → ReachesAt problem notes place → IsSolved end)
solved_with result notes problem s port is h =
    of_answer (λ end. IsSome port.desk.posted → IsSolved end) (λ end. (place : ℕ) → ReachesAt problem notes place → IsSolved end) result
    (λ end told place reaches. told (reached_posted problem notes port.desk.posted place is.posted reaches)) h

pub heeds_with : {E : Type 0} (result : Result SearchEnd E) (notes : List Derivation) (problem : Board) (s : SettingsView) (before after : Signal) (port : LonePortView)
    → IsFilled notes (first_of problem s) port → IfOk result (λ end. port.desk.posted ≡ None → HeedsStop before after end)
    → IfOk result (λ end. ((place : ℕ) → ¬ ReachesAt problem notes place) → HeedsStop before after end)
heeds_with result notes problem s before after port is h =
    of_answer (λ end. port.desk.posted ≡ None → HeedsStop before after end) (λ end. ((place : ℕ) → ¬ ReachesAt problem notes place) → HeedsStop before after end) result
    (λ end told not. told (unreached_none problem notes port.desk.posted is.posted not)) h
