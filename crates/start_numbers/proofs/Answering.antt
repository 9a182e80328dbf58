-- A list without answers is empty, and only that.
use Rattle.std.proofs.Common.{◌≡◌, ◌<◌, ◌≤◌, ◌==◌, inl, inr, ℕ, List, [], ◌∷◌, Bool, true, arith, refl, eq-eqb, cond, count_by, get_or}
use Rattle.std.specs.List.{list_any, range_with_len}
use Rattle.std.proofs.lemmas.Bool.{or_left, cases_Bool, eqb-true, eqb-false}
use Rattle.std.proofs.lemmas.List.Sums.{sum_by-cons, sum_by_more_le}
use Rattle.std.proofs.lemmas.List.FromFn.{length-range_with_len, get_or-range_with_len}
use Rattle.board_core.specs.declared.moves.Move.{Move}
use Rattle.board_core.specs.declared.moves.Move.TheVariants as moves
use Rattle.start_def.specs.Answers.{is_on_board, is_drop_on, answers_of}
use Rattle.pn_numbers.specs.declared.numbers.Numbers.{Numbers}
use Rattle.start_def.specs.Start.{proof_after_check, disproof_after_check, start_of_check}

-- a square that passes is counted
counted : (p : ℕ → Bool) (square : ℕ) → square < 81 → p square ≡ true → 1 ≤ count_by p (range_with_len 0 81)
counted p square within passes =
    let long = length-range_with_len 0 81 in
    let more = sum_by_more_le (λ s. cond {A = ℕ} (p s) 1 0) (range_with_len 0 81) square 0 (omega (arith, within, long)) in
    let at = get_or-range_with_len 0 81 square 0 within in
    let there : get_or (range_with_len 0 81) square 0 ≡ square = omega (arith, at) in
    let one : cond {A = ℕ} (p (get_or (range_with_len 0 81) square 0)) 1 0 ≡ 1 = rw (there, passes) refl in
    omega (arith, more, one)

some_answer : (m : Move) (rest : List Move) → 1 ≤ answers_of (m ∷ rest)
some_answer (moves.Board from to promote) rest =
    let first = sum_by-cons (λ m. cond {A = ℕ} (is_on_board m) 1 0) (moves.Board from to promote) rest in omega (arith, first)
some_answer (moves.Drop dropped to) rest =
    let within = to.on_board in
    let e = or_left (to.number == to.number) (list_any (is_drop_on to.number) rest) (eq-eqb to.number to.number refl) in
    let some = counted (λ square. list_any (is_drop_on square) (moves.Drop dropped to ∷ rest)) to.number within e in omega (arith, some)

pub empty_where_none : (list : List Move) → answers_of list ≡ 0 → list ≡ []
empty_where_none [] none = refl
empty_where_none (m ∷ rest) none = absurd (let some = some_answer m rest in omega (arith, some, none))

pub none_where_empty : (list : List Move) → list ≡ [] → answers_of list ≡ 0
none_where_empty [] e = refl
none_where_empty (m ∷ rest) e = absurd (cc)

-- the proof number after a check is 1 where it leaves no answer, and only there
pub no_answer_where_one : (answers attacking defending : ℕ) → proof_after_check answers attacking defending ≡ 1 → answers ≡ 0
no_answer_where_one answers attacking defending one = elim (cases_Bool (answers == 0)) [
  | inl none ↦ eqb-true answers 0 none
  | inr some ↦ absurd (let more = rw some at one in let e = eqb-false answers 0 some in omega (arith, more, e))
]

pub one_where_no_answer : (answers attacking defending : ℕ) → answers ≡ 0 → proof_after_check answers attacking defending ≡ 1
one_where_no_answer answers attacking defending none = rw none refl

pub started : (pn dn answers attacking defending : ℕ) (captures : Bool) (a k d : ℕ) (x : Bool) → pn ≡ proof_after_check a k d
    → dn ≡ disproof_after_check k d x → a ≡ answers → k ≡ attacking → d ≡ defending → x ≡ captures
    → ◌≡◌ {A = Numbers} (record { pn = pn; dn = dn }) (start_of_check answers attacking defending captures)
started pn dn answers attacking defending captures a k d x is_pn is_dn same_a same_k same_d same_x =
    rw (is_pn, is_dn, same_a, same_k, same_d, same_x) refl
