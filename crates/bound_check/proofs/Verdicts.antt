-- The verdict, from what was found out about each entry, and what a valid bound shows.
use Rattle.std.proofs.Common.{◌≡◌, ◌<◌, ◌≤◌, inl, inr, ◌↔◌, ℕ, zero, suc, List, length, Contains, arith, sym, refl, ◌∙◌, subst}
use Rattle.std.specs.Prelude.{Some, None, Option, slice_get, IsSomeAnd, Result, Ok, Err, IfOk}
use Rattle.std.proofs.lemmas.Option.{same_Some}
use Rattle.bit_boards.specs.declared.piece.Side.{Side}
use Rattle.board_core.specs.declared.moves.Move.{Move}
use Rattle.board_core.specs.Board.{Board}
use Rattle.mate_def.specs.Mate.{RankAtMost}
use Rattle.list_laws.proofs.Standing.{contained, of_all}
use Rattle.bound_text.specs.declared.entry.BoundEntry.{BoundEntry}
use Rattle.bound_check.specs.Valid.{IsListedFrom, IsHeld, IsValidBound, ShowsBound}
use Rattle.bound_check.specs.Reasons.{IsUnkept, HasReason, IsSooner, IsVerdict, IsFirstUnkept}
use Rattle.bound_check.specs.declared.verdict.BoundVerdict.{BoundVerdict}
use Rattle.bound_check.specs.declared.verdict.BoundVerdict.TheVariants.{Accepted, Refused}

-- 1. What is held has no reason against it.

some_is : {X : Type 0} (o : Option X) (P : X → Type 0) → IsSomeAnd o P → (x : X) × (o ≡ Some x) × P x
some_is None P h = absurd h
some_is (Some x) P h = (x, refl, h)

held_stands : (entries : List BoundEntry) (attacker : Side) (place : ℕ) (check : Move)
    → ((entry : BoundEntry) → slice_get entries place ≡ Some entry → IsHeld entries attacker entry)
    → ¬ IsSomeAnd (slice_get entries place) (λ entry. IsUnkept entries attacker entry check)
held_stands entries attacker place check held h =
    let x = some_is (slice_get entries place) (λ entry. IsUnkept entries attacker entry check) h in
    x.2.unkept (held x.0 x.1 check x.2.is_check)

-- 2. Refused.

none_before_root : (entries : List BoundEntry) (p : Board) (within entry : ℕ) (check : Option Move) → IsSooner entry check 0 None → ¬ HasReason entries p within entry check
none_before_root entries p within entry check (inl less) h = absurd (omega arith)
none_before_root entries p within entry check (inr s) h = let less = s.1 in absurd (omega arith)

pub refused_root : (entries : List BoundEntry) (p : Board) (within : ℕ) → 0 < within → ¬ IsListedFrom entries within p → IsVerdict entries p within (Refused 0 None)
refused_root entries p within some missing = record { reason = record { some = some; missing = missing }; first = none_before_root entries p within }

none_sooner : (entries : List BoundEntry) (p : Board) (within place : ℕ) (entry : BoundEntry) (check : Move) → (0 < within → IsListedFrom entries within p)
    → slice_get entries place ≡ Some entry
    → ((k : ℕ) (e : BoundEntry) → k < place → slice_get entries k ≡ Some e → IsHeld entries p.side e) → IsFirstUnkept entries p.side entry (Some check)
    → (sooner_entry : ℕ) (sooner : Option Move) → IsSooner sooner_entry sooner (suc place) (Some check) → ¬ HasReason entries p within sooner_entry sooner
none_sooner entries p within place entry check root at below first zero None s h = h.missing (root h.some)
none_sooner entries p within place entry check root at below first zero (Some m) s h = h
none_sooner entries p within place entry check root at below first (suc k) None s h = h
none_sooner entries p within place entry check root at below first (suc k) (Some m) (inl less) h =
    held_stands entries p.side k m (λ e is. below k e (omega arith) is) h
none_sooner entries p within place entry check root at below first (suc k) (Some m) (inr s) h =
    let number = s.0 in
    let same : k ≡ place = omega arith in
    let x = some_is (slice_get entries k) (λ e. IsUnkept entries p.side e m) h in
    let here = same_Some x.0 entry (sym x.1 ∙ (subst (λ (n : ℕ). slice_get entries n ≡ Some entry) (sym same) at)) in
    first.1 m s.1 (subst (λ (e : BoundEntry). IsUnkept entries p.side e m) here x.2)

pub refused_at : (entries : List BoundEntry) (p : Board) (within place number : ℕ) (entry : BoundEntry) (check : Move) → number ≡ suc place
    → (0 < within → IsListedFrom entries within p) → slice_get entries place ≡ Some entry
    → ((k : ℕ) (e : BoundEntry) → k < place → slice_get entries k ≡ Some e → IsHeld entries p.side e) → IsFirstUnkept entries p.side entry (Some check)
    → IsVerdict entries p within (Refused number (Some check))
refused_at entries p within place number entry check is root at below first =
    subst (λ (n : ℕ). IsVerdict entries p within (Refused n (Some check))) (sym is) (record {
      reason = subst (λ (o : Option BoundEntry). IsSomeAnd o (λ e. IsUnkept entries p.side e check)) (sym at) first.0;
      first = none_sooner entries p within place entry check root at below first;
    })

-- 3. Accepted.

pub accepted : (entries : List BoundEntry) (p : Board) (within n : ℕ) → (0 < within → IsListedFrom entries within p) → length entries ≤ n
    → ((k : ℕ) (e : BoundEntry) → k < n → slice_get entries k ≡ Some e → IsHeld entries p.side e) → IsVerdict entries p within Accepted
accepted entries p within n root all below = record { root = root; held = of_all (IsHeld entries p.side) entries entries n refl all below }

valid_stands : (entries : List BoundEntry) (p : Board) (within entry : ℕ) (check : Option Move) → IsValidBound entries p within → ¬ HasReason entries p within entry check
valid_stands entries p within zero None v h = h.missing (v.root h.some)
valid_stands entries p within zero (Some check) v h = h
valid_stands entries p within (suc place) None v h = h
valid_stands entries p within (suc place) (Some check) v h =
    held_stands entries p.side place check (λ e is. v.held e (contained entries place e is)) h

pub accepted_iff : (entries : List BoundEntry) (p : Board) (within : ℕ) (verdict : BoundVerdict) → IsVerdict entries p within verdict
    → (verdict ≡ Accepted) ↔ IsValidBound entries p within
accepted_iff entries p within Accepted h = ((λ e. h), (λ w. refl))
accepted_iff entries p within (Refused entry check) h = ((λ e. absurd (cc)), (λ w. absurd (valid_stands entries p within entry check w h.reason)))

-- 4. What a valid bound shows.

-- no listed position is a mate within a number that isn't above its own
unmated : (entries : List BoundEntry) (p : Board) (within : ℕ) → IsValidBound entries p within → (n : ℕ) (entry : BoundEntry) → Contains entries entry
    → n ≤ entry.bound.number → ¬ RankAtMost p.side n entry.at
unmated entries p within v zero entry there up r = r
unmated entries p within v (suc zero) entry there up r = let e = v.held entry there r.0 r.1 in r.2 e.evasion e.is_evasion
unmated entries p within v (suc (suc n)) entry there up r =
    let e = v.held entry there r.0 r.1 in
    let l = e.leads (omega arith) in
    let enough = l.enough in
    unmated entries p within v (suc n) l.entry l.listed (omega arith) (subst (RankAtMost p.side (suc n)) (sym l.same) (r.2 e.evasion e.is_evasion))

root_unmated : (entries : List BoundEntry) (p : Board) (within : ℕ) → IsValidBound entries p within → ¬ RankAtMost p.side within p
root_unmated entries p zero v r = r
root_unmated entries p (suc n) v r =
    let l = v.root (omega arith) in
    unmated entries p (suc n) v (suc n) l.entry l.listed l.enough (subst (RankAtMost p.side (suc n)) (sym l.same) r)

pub shown : (entries : List BoundEntry) (p : Board) (within : ℕ) → IsValidBound entries p within → ShowsBound entries p within
shown entries p within v = record {
  no_mate = root_unmated entries p within v;
  none_listed = λ entry there. unmated entries p within v entry.bound.number entry there (omega arith);
}

-- 5. From what one call found to what another says.
