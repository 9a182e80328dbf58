-- Kinds of bytes in an SFEN text.
use Rattle.std.specs.Prelude.{◌==◌, ◌&&◌, ◌||◌, ℕ, Bool, nat_le}

-- Whether a byte is a digit.
abbrev pub is_digit : ℕ → Bool
is_digit byte = nat_le 48 byte && nat_le byte 57

-- Whether a byte is a space.
abbrev pub is_space : ℕ → Bool
is_space byte = byte == 32

-- Whether a byte is one of the blanks that are dropped at both ends: space, tab, carriage return,
-- line feed.
abbrev pub is_blank : ℕ → Bool
is_blank byte = byte == 32 || byte == 9 || byte == 13 || byte == 10
