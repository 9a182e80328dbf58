-- None of the fields that were seen is `moves`.
use Rattle.std.proofs.Common.{◌≡◌, ◌≤◌, ◌+◌, length, arith}
use Rattle.usi_session.specs.Fields.{moves_word}
use Rattle.usi_session.proofs.Walked.{walked-start, walked-more, walked-found, walked-none, walked-long, empty-none}
use Rattle.usi_session.proofs.fields.up_to_moves.Goals as goal

pub loop-field-init : goal.loop-field-init
loop-field-init c = walked-start c.args.text.now

pub loop-field-preserved : goal.loop-field-preserved
loop-field-preserved c =
    walked-more c.args.text.now c.loop-field.rest.now c.in-Some.field.now c.in-Some.behind.now c.loop-field.invariant c.in-Some.ensures.parts
    (λ e. let yes = c.is.ensures.1 e in let not_so = c.if-is.false in grind arith)

pub loop-field-smaller : goal.loop-field-smaller
loop-field-smaller c = c.in-Some.ensures.shorter

-- The field is `moves`.
found : (c : goal.Then-is) → c.in-Some.field.now ≡ moves_word
found c = c.is.ensures.0 (grind arith)

within : (c : goal.Then-is) → 5 + length c.in-Some.behind.now ≤ length c.args.text.now
within c = walked-long c.args.text.now c.loop-field.rest.now c.in-Some.field.now c.in-Some.behind.now c.loop-field.invariant c.in-Some.ensures.parts (found c)

pub overflow_sub-end : goal.overflow_sub-end
overflow_sub-end c = omega (arith, within c)

pub overflow_sub-end-then-is : goal.overflow_sub-end-then-is
overflow_sub-end-then-is c = omega (arith, within c)

pub returns-then-is : goal.returns-then-is
returns-then-is c =
    walked-found c.args.text.now c.loop-field.rest.now c.in-Some.field.now c.in-Some.behind.now _ c.loop-field.invariant c.in-Some.ensures.parts (found c) (omega (arith, within c))

pub returns : goal.returns
returns c = rw empty-none (walked-none c.args.text.now c.loop-field.rest.now c.loop-field.invariant c.in_default.ensures.none)
