use Rattle.std.proofs.Common.{◌≡◌, ◌==◌, ◌<◌, ◌&&◌, rules, ℕ, Option, Some, None, false, not, arith, ap, length}
use Rattle.std.specs.Prelude.{IfSome, IfNone}
use Rattle.std.specs.Iterator.{YieldsFirstBy, MakesProgress, item_count}
use Rattle.std.specs.declared.iter.Iterator.{can_next-default}
use Rattle.bit_boards.specs.declared.mask.Mask.{Mask}
use Rattle.bit_boards.specs.declared.square.Square.{Square}
use Rattle.bit_boards.specs.declared.squares.Squares.{Squares}
use Rattle.bit_boards.specs.Mask.{holds, Holds, squares_of}
use Rattle.bit_boards.proofs.Walk.{none_left, first_left}
use Rattle.bit_boards.proofs.squares.SquaresIterator.next.Goals as goal

pub steps_of : (found : Option Square) (old new : Mask) → IfSome found (λ square. Holds old square.number)
    → IfSome found (λ square. (s : ℕ) → s < square.number → holds old s ≡ false)
    → IfSome found (λ square. (s : ℕ) → holds new s ≡ (holds old s && not (s == square.number)))
    → IfNone found ((s : ℕ) → holds old s ≡ false) → IfNone found (new ≡ old)
    → YieldsFirstBy (λ (square : Square). square.number) (λ (s : Squares). squares_of s.left) (record { left = old }) found (record { left = new })
unfolding squares_of
steps_of None old new has least rest none same =
    (none_left (holds old) 0 81 none, none_left (holds new) 0 81 (λ s. rw same (none s)))
steps_of (Some square) old new has least rest none same =
    let within = square.on_board in
    first_left (holds old) (holds new) square.number 0 81 (omega arith) (omega (arith, within)) has least rest

pub returns-clause-steps : goal.returns-clause-steps
returns-clause-steps c = steps_of c.pop_first.result c.args.self.now.left c.pop_first.new.self c.pop_first.ensures.found c.pop_first.ensures.least
    c.pop_first.ensures.rest c.pop_first.ensures.none c.pop_first.ensures.unchanged

goes_of : (found : Option Square) (old new : Squares)
    → YieldsFirstBy (λ (square : Square). square.number) (λ (s : Squares). squares_of s.left) old found new
    → MakesProgress (can_next-default Squares Square) (item_count (λ (s : Squares). squares_of s.left)) old found new
goes_of None old new gave = search rules
goes_of (Some square) old new gave = let fewer = ap length gave in search rules

pub returns-clause-goes : goal.returns-clause-goes
returns-clause-goes c = goes_of c.pop_first.result c.args.self.now (record { left = c.pop_first.new.self }) (returns-clause-steps c)
