use Rattle.std.proofs.Common.{◌≡◌, arith}
use Rattle.problem_gen.specs.Generator.{king_square, IsGenerated}
use Rattle.problem_gen.proofs.Generated.{generated_once, under_way_problem}
use Rattle.problem_gen.proofs.Leftover.{fourth_left, fifth_left}
use Rattle.problem_gen.proofs.problem.problem_of.Goals as goal
use Rattle.problem_gen.proofs.problem.problem_of.Goals.{After-result-1}

pub give-requires-2-clause-left_over : goal.give-requires-2-clause-left_over
give-requires-2-clause-left_over c =
    let k = c.second_in_hand.result in
    let left = fourth_left c.black_piece.result.kind c.black_piece-2.result.kind c.first_in_hand.result k
    c.black_piece.ensures.kind c.black_piece-2.ensures.kind c.first_in_hand.ensures.kind c.second_in_hand.ensures.kind in
    let one = c.king_alone-position.ensures.counts k in
    let two = c.put.ensures.counts k in
    let three = c.put-2.ensures.counts k in
    let four = c.give.ensures.counts k in
    omega (arith, left, one, two, three, four)

pub put-requires-3-clause-left_over : goal.put-requires-3-clause-left_over
put-requires-3-clause-left_over c =
    let k = c.white_piece.result.kind in
    let left = fifth_left c.black_piece.result.kind c.black_piece-2.result.kind c.first_in_hand.result c.second_in_hand.result k
    c.black_piece.ensures.kind c.black_piece-2.ensures.kind c.white_piece.ensures.kind in
    let one = c.king_alone-position.ensures.counts k in
    let two = c.put.ensures.counts k in
    let three = c.put-2.ensures.counts k in
    let four = c.give.ensures.counts k in
    let five = c.give-2.ensures.counts k in
    omega (arith, left, one, two, three, four, five)

pub invariant_of-result : goal.invariant_of-result
invariant_of-result c = record { accepted = under_way_problem c.on-king.result.number c.put-3.new.position c.put-3.ensures.under_way }

is_drawn : (c : After-result-1) → IsGenerated c.args.number c.put-3.new.position
is_drawn c =
    let at : c.on-king.result.number ≡ king_square c.args.number = rw (c.king_file.ensures.file, c.king_row.ensures.row) at c.on-king.ensures.number in
    record {
      one = c.put.new.position;
      two = c.put-2.new.position;
      first = rw (c.king_alone-position.ensures.position, at, c.black_piece.ensures.drawn) at c.put.ensures.put;
      second = rw (at, c.black_piece-2.ensures.drawn) at c.put-2.ensures.put;
      last = rw (c.give-2.ensures.held, c.give.ensures.held, at, c.second_in_hand.ensures.drawn, c.first_in_hand.ensures.drawn, c.white_piece.ensures.drawn) at c.put-3.ensures.put;
    }

pub returns-clause-generated : goal.returns-clause-generated
returns-clause-generated c = is_drawn c

pub returns-clause-only : goal.returns-clause-only
returns-clause-only c = λ b g. generated_once c.args.number b c.put-3.new.position g (is_drawn c)

pub returns-clause-pieces : goal.returns-clause-pieces
returns-clause-pieces c = λ k.
    let one = c.king_alone-position.ensures.counts k in
    let two = rw c.black_piece.ensures.drawn at (c.put.ensures.counts k) in
    let three = rw c.black_piece-2.ensures.drawn at (c.put-2.ensures.counts k) in
    let four = rw c.first_in_hand.ensures.drawn at (c.give.ensures.counts k) in
    let five = rw c.second_in_hand.ensures.drawn at (c.give-2.ensures.counts k) in
    let six = rw c.white_piece.ensures.drawn at (c.put-3.ensures.counts k) in
    omega (arith, one, two, three, four, five, six)
