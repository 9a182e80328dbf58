use Rattle.std.proofs.Common.{◌≡◌, length}
use denote.Text.{Utf8}
use denote.Shadow.{shadow}
use Rattle.std.specs.Char.{is_ascii_digit}
use Rattle.std.specs.Str.{chars}
use Rattle.kif_moves.specs.Characters.{past}
use Rattle.kif_moves.proofs.characters.past_digits.Given as goal

abbrev pub invariant-loop-character : goal.invariant-loop-character
invariant-loop-character l = shadow (Utf8 l.rest) × (past is_ascii_digit (chars l.fn.text) ≡ past is_ascii_digit (chars l.rest))

abbrev pub decreases-loop-character : goal.decreases-loop-character
decreases-loop-character l = length (chars l.rest)
