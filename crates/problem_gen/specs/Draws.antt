-- The numbers that the generator draws. (The minimal standard generator of Park and Miller with the
-- multiplier 48271, which C++ calls minstd_rand.)
use Rattle.std.specs.Prelude.{◌+◌, ◌*◌, ◌%◌, ◌==◌, ℕ, zero, suc, if◌then◌else◌}
use Rattle.bit_boards.specs.declared.piece.Kind.{Kind}

-- What comes after a number: 48,271 times it, modulo the prime 2^31 - 1.
abbrev pub next_of : ℕ → ℕ
next_of x = 48271 * x % 2147483647

-- The numbers that a problem's number draws, one after another. It begins, before the first is
-- drawn, with one of 1 to 2,147,483,646, so none that is drawn is 0, and problems' numbers that
-- differ by 2,147,483,646 are one.
unfoldable pub drawn : ℕ → ℕ → ℕ
drawn number zero = 1 + number % 2147483646
drawn number (suc n) = next_of (drawn number n)

-- The draw of a place in their order, the first of which is 1, among so many: a number below that.
abbrev pub draw : ℕ → ℕ → ℕ → ℕ
draw number place among = drawn number place % among

-- One of three kinds by a draw among three.
abbrev pub pick : Kind → Kind → Kind → ℕ → Kind
pick a b c n = if n == 0 then a else (if n == 1 then b else c)
