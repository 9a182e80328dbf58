use Rattle.bit_boards.specs.declared.piece.Kind.TheVariants.{Pawn, Lance, Knight, Silver, Gold, Bishop, Rook, King}
use Rattle.hand_dominance.proofs.Keys.{each_kind}
use Rattle.hand_dominance.proofs.by_key.is_at_least.Goals as goal

pub returns-then-not-has_as_many : goal.returns-then-not-has_as_many
returns-then-not-has_as_many c = (λ e. absurd cc, λ all. let is = c.has_as_many.ensures.1 (all Pawn) in let not = c.if-not-has_as_many.true in cc)

pub returns-then-not-has_as_many-2 : goal.returns-then-not-has_as_many-2
returns-then-not-has_as_many-2 c = (λ e. absurd cc, λ all. let is = c.has_as_many-2.ensures.1 (all Lance) in let not = c.if-not-has_as_many-2.true in cc)

pub returns-then-not-has_as_many-3 : goal.returns-then-not-has_as_many-3
returns-then-not-has_as_many-3 c = (λ e. absurd cc, λ all. let is = c.has_as_many-3.ensures.1 (all Knight) in let not = c.if-not-has_as_many-3.true in cc)

pub returns-then-not-has_as_many-4 : goal.returns-then-not-has_as_many-4
returns-then-not-has_as_many-4 c = (λ e. absurd cc, λ all. let is = c.has_as_many-4.ensures.1 (all Silver) in let not = c.if-not-has_as_many-4.true in cc)

pub returns-then-not-has_as_many-5 : goal.returns-then-not-has_as_many-5
returns-then-not-has_as_many-5 c = (λ e. absurd cc, λ all. let is = c.has_as_many-5.ensures.1 (all Gold) in let not = c.if-not-has_as_many-5.true in cc)

pub returns-then-not-has_as_many-6 : goal.returns-then-not-has_as_many-6
returns-then-not-has_as_many-6 c = (λ e. absurd cc, λ all. let is = c.has_as_many-6.ensures.1 (all Bishop) in let not = c.if-not-has_as_many-6.true in cc)

pub returns : goal.returns
returns c = (
  λ is.
      each_kind c.args.one c.args.two
      (c.has_as_many.ensures.0 (let e = c.if-not-has_as_many.false in cc))
      (c.has_as_many-2.ensures.0 (let e = c.if-not-has_as_many-2.false in cc))
      (c.has_as_many-3.ensures.0 (let e = c.if-not-has_as_many-3.false in cc))
      (c.has_as_many-4.ensures.0 (let e = c.if-not-has_as_many-4.false in cc))
      (c.has_as_many-5.ensures.0 (let e = c.if-not-has_as_many-5.false in cc))
      (c.has_as_many-6.ensures.0 (let e = c.if-not-has_as_many-6.false in cc))
      (c.has_as_many-7.ensures.0 is),
  λ all. c.has_as_many-7.ensures.1 (all Rook),
)
