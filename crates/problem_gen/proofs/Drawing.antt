-- What is drawn, one after another.
use Rattle.std.proofs.Common.{◌≡◌, ◌+◌, ◌%◌, ℕ, refl, add-one}
use Rattle.problem_gen.specs.Draws.{drawn, next_of}

pub drawn-first : (number : ℕ) → drawn number 0 ≡ 1 + number % 2147483646
unfolding drawn
drawn-first number = refl

pub drawn-next : (number place : ℕ) → drawn number (place + 1) ≡ next_of (drawn number place)
unfolding drawn
drawn-next number place = rw (add-one place) refl
