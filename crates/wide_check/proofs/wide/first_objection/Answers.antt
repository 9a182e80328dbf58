use Rattle.std.proofs.Common.{◌≡◌, ◌*◌, ◌-◌, ℕ, length, subst, sym, ap, ◌∙◌, arith}
use Rattle.std.specs.Prelude.{None, min}
use Rattle.wide_check.specs.Stretches.{IsFirstOf, IsFoundBefore, stretch_end}
use Rattle.wide_check.proofs.Heard.{first_found, found_in_all, any_stretch, ends_behind}
use Rattle.wide_check.proofs.wide.first_objection.Goals as goal

pub returns-in-Some : goal.returns-in-Some
returns-in-Some g c =
    let case = c.args.hearing.now in
    let from = c.loop-from.from in
    let count = c.count-count.result in
    let size = c.stretch_size-size.result in
    let answers = c.in_ok-found.found.items in
    let low = c.loop-from.invariant.0 in
    let all = c.count-count.ensures in
    let found = first_found case from count size (length answers) answers c.first_of.result c.stretch_size-size.ensures low c.loop-from.invariant.1
    c.in_ok-found.ensures.first c.in_ok-found.ensures.answers (subst (λ list. IsFirstOf list c.first_of.result) c.deref.ensures.value c.first_of.ensures) in
    found_in_all case (stretch_end from (length answers * size) count) c.in-Some.objection (omega (arith, low, all))
    (subst (IsFoundBefore case (stretch_end from (length answers * size) count)) c.in-Some.is found)

pub loop-from-preserved : goal.loop-from-preserved
loop-from-preserved g c =
    let case = c.args.hearing.now in
    let from = c.loop-from.from in
    let count = c.count-count.result in
    let size = c.stretch_size-size.result in
    let answers = c.in_ok-found.found.items in
    let found = first_found case from count size (length answers) answers c.first_of.result c.stretch_size-size.ensures c.loop-from.invariant.0 c.loop-from.invariant.1
    c.in_ok-found.ensures.first c.in_ok-found.ensures.answers (subst (λ list. IsFirstOf list c.first_of.result) c.deref.ensures.value c.first_of.ensures) in
    let any = c.in_ok-found.ensures.some (any_stretch size (count - from) c.stretch_size-size.ensures (omega (arith, c.loop-from-test.true))) in
    let behind = ends_behind from size count (length answers) 18446744073709551615 c.stretch_size-size.ensures c.loop-from-test.true any (omega (arith, c.count-count.type_inv)) in
    let long : c.len.result ≡ length answers = omega (arith, c.len.ensures, c.in_ok-found.found.ok) in
    let many : c.saturating_mul.result ≡ min (length answers * size) 18446744073709551615 =
    c.saturating_mul.ensures ∙ ap (λ (n : ℕ). min (n * size) 18446744073709551615) long in
    let end : c.stretch_end-from.result ≡ stretch_end from (length answers * size) count =
    c.stretch_end-from.ensures.end ∙ (ap (λ (n : ℕ). stretch_end from n count) many ∙ behind.1) in (
      c.stretch_end-from.ensures.within,
      subst (λ (e : ℕ). IsFoundBefore case e None) (sym end)
          (subst (IsFoundBefore case (stretch_end from (length answers * size) count)) c.in_default.is found),
    )

pub loop-from-smaller : goal.loop-from-smaller
loop-from-smaller g c =
    let from = c.loop-from.from in
    let count = c.count-count.result in
    let size = c.stretch_size-size.result in
    let answers = c.in_ok-found.found.items in
    let any = c.in_ok-found.ensures.some (any_stretch size (count - from) c.stretch_size-size.ensures (omega (arith, c.loop-from-test.true))) in
    let behind = ends_behind from size count (length answers) 18446744073709551615 c.stretch_size-size.ensures c.loop-from-test.true any (omega (arith, c.count-count.type_inv)) in
    let long : c.len.result ≡ length answers = omega (arith, c.len.ensures, c.in_ok-found.found.ok) in
    let many : c.saturating_mul.result ≡ min (length answers * size) 18446744073709551615 =
    c.saturating_mul.ensures ∙ ap (λ (n : ℕ). min (n * size) 18446744073709551615) long in
    let end : c.stretch_end-from.result ≡ stretch_end from (min (length answers * size) 18446744073709551615) count =
    c.stretch_end-from.ensures.end ∙ ap (λ (n : ℕ). stretch_end from n count) many in
    let low = behind.0 in
    let within = c.stretch_end-from.ensures.within in
    omega (arith, low, end, within)
