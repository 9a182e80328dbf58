use Rattle.std.proofs.Common.{◌≡◌, ◌≤◌, ◌-◌, ◌%◌, inl, inr, ℕ, refl, sym, ap, ◌∙◌, subst, arith, length, count_by, unwrap_or}
use Rattle.std.proofs.Math.Nat.{zero-mod, mod-one}
use Rattle.std.specs.Prelude.{slice_get}
use Rattle.pn_numbers.specs.declared.numbers.TheConstants.{INFINITE}
use Rattle.pn_numbers.specs.Selection.{number_at, has_number, IsSelected}
use Rattle.pn_numbers.specs.Leading.{IsLead}
use Rattle.pn_numbers.proofs.Choice.{number_found, some_have, one_has, lead_selected, equal_selected}
use Rattle.pn_numbers.proofs.selecting.select.Goals as goal

pub returns-then-worker-le1-clause-selected : goal.returns-then-worker-le1-clause-selected
returns-then-worker-le1-clause-selected c =
    let lead = c.in_ok-lead.lead in
    let xs = c.args.children.now in
    let leads : IsLead (number_at c.args.node xs) (length xs) lead.place lead.least lead.second = c.in_ok-lead.ensures in
    let is : c.unwrap_or-second.result ≡ unwrap_or lead.second INFINITE = c.unwrap_or-second.ensures ∙ ap (λ (n : ℕ). unwrap_or lead.second n) c.from.ensures in
    let turn : (c.args.worker - 1) % count_by (has_number c.args.node lead.least) xs ≡ 0 = elim c.then-worker-le1.either [
      | inl first ↦ let none : c.args.worker - 1 ≡ 0 = omega arith in rw none (zero-mod _)
      | inr less ↦ rw (one_has c.args.node xs lead.place lead.least lead.second leads (omega (arith, less.1, is))) (mod-one _)
    ] in
    subst (λ (second : ℕ). IsSelected c.args.node xs c.args.worker lead.place second) (sym is)
    (lead_selected c.args.node xs c.args.worker lead.place lead.least lead.second leads turn)

pub nonzero_rem-turn : goal.nonzero_rem-turn
nonzero_rem-turn c =
    let lead = c.in_ok-lead.lead in
    let xs = c.args.children.now in
    let leads : IsLead (number_at c.args.node xs) (length xs) lead.place lead.least lead.second = c.in_ok-lead.ensures in
    let some = some_have c.args.node xs lead.place lead.least leads.has in omega (arith, some)

pub returns-in_err-place-clause-selected : goal.returns-in_err-place-clause-selected
returns-in_err-place-clause-selected c =
    let lead = c.in_ok-lead.lead in
    let xs = c.args.children.now in
    let leads : IsLead (number_at c.args.node xs) (length xs) lead.place lead.least lead.second = c.in_ok-lead.ensures in
    let some = some_have c.args.node xs lead.place lead.least leads.has in
    let few : count_by (has_number c.args.node lead.least) xs ≤ (c.args.worker - 1) % c.count_with-many.result = c.in_err-place.ensures.none refl in
    let many = c.count_with-many.ensures in
    absurd (omega (arith, some, few, many))

pub returns-clause-selected : goal.returns-clause-selected
returns-clause-selected c =
    let lead = c.in_ok-lead.lead in
    let xs = c.args.children.now in
    let leads : IsLead (number_at c.args.node xs) (length xs) lead.place lead.least lead.second = c.in_ok-lead.ensures in
    let is : c.unwrap_or-second.result ≡ unwrap_or lead.second INFINITE = c.unwrap_or-second.ensures ∙ ap (λ (n : ℕ). unwrap_or lead.second n) c.from.ensures in
    let at = number_found c.args.node lead.least (slice_get xs c.in_ok-place.place) c.in_ok-place.ensures.has in
    subst (λ (second : ℕ). IsSelected c.args.node xs c.args.worker c.in_ok-place.place second) (sym is)
    (equal_selected c.args.node xs c.args.worker lead.place lead.least lead.second leads (omega (arith, is)) c.in_ok-place.place at
    (c.in_ok-place.ensures.before ∙ ap (λ (n : ℕ). (c.args.worker - 1) % n) c.count_with-many.ensures))
