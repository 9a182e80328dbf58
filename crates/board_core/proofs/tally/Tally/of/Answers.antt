use Rattle.std.proofs.Common.{◌≡◌, ◌+◌, count_by, arith, ◌∙◌, refl}
use Rattle.bit_boards.specs.declared.piece.Side.TheVariants.{Black, White}
use Rattle.board_core.specs.Board.{is_of_kind, is_king_of, by_side}
use Rattle.board_core.proofs.EachKind.{each_side}
use Rattle.board_core.proofs.Tallied.{counted_more, counted_few, counted_all, none_held}
use Rattle.board_core.proofs.tally.Tally.of.Goals as goal

pub loop-number-init : goal.loop-number-init
loop-number-init c = (λ k named. rw c.empty.ensures (none_held k named), (refl, refl))

pub with-tally-requires-clause-kinds : goal.with-tally-requires-clause-kinds
with-tally-requires-clause-kinds c = λ k named. omega (
  arith,
  c.loop-number.invariant.0 k named,
  counted_few (is_of_kind k) c.args.cells.now c.loop-number.number,
)

pub with-tally-requires-clause-black : goal.with-tally-requires-clause-black
with-tally-requires-clause-black c = omega (arith, c.loop-number.invariant.1.0, counted_few (is_king_of Black) c.args.cells.now c.loop-number.number)

pub with-tally-requires-clause-white : goal.with-tally-requires-clause-white
with-tally-requires-clause-white c = omega (arith, c.loop-number.invariant.1.1, counted_few (is_king_of White) c.args.cells.now c.loop-number.number)

pub loop-number-preserved : goal.loop-number-preserved
loop-number-preserved c = let cells = c.args.cells.now in let n = c.loop-number.number in (
  λ k named. let step = rw c.at.ensures at c.with-tally.ensures.kinds k named in
      omega (arith, step, c.loop-number.invariant.0 k named, counted_more (is_of_kind k) cells n (n + 1) (omega (arith, c.told-cells)) refl),
  (
    (let step = rw c.at.ensures at c.with-tally.ensures.black in
        omega (arith, step, c.loop-number.invariant.1.0, counted_more (is_king_of Black) cells n (n + 1) (omega (arith, c.told-cells)) refl)),
    (let step = rw c.at.ensures at c.with-tally.ensures.white in
        omega (arith, step, c.loop-number.invariant.1.1, counted_more (is_king_of White) cells n (n + 1) (omega (arith, c.told-cells)) refl)),
  ),
)

pub returns-clause-kinds : goal.returns-clause-kinds
returns-clause-kinds c = λ k named. c.loop-number.invariant.0 k named ∙ counted_all (is_of_kind k) c.args.cells.now c.loop-number.number (omega (arith, c.told-cells))

pub returns-clause-kings : goal.returns-clause-kings
returns-clause-kings c = each_side (λ s. by_side s c.loop-number.tally.black_kings c.loop-number.tally.white_kings ≡ count_by (is_king_of s) c.args.cells.now)
    (c.loop-number.invariant.1.0 ∙ counted_all (is_king_of Black) c.args.cells.now c.loop-number.number (omega (arith, c.told-cells)))
    (c.loop-number.invariant.1.1 ∙ counted_all (is_king_of White) c.args.cells.now c.loop-number.number (omega (arith, c.told-cells)))
