-- What the plain lists are made of, a stretch of the order of moves at a time: it serves private
-- functions alone.
use Rattle.std.specs.Prelude.{◌<◌, ℕ}
use Rattle.bit_boards.specs.declared.piece.Side.{Side}
use Rattle.board_core.specs.declared.moves.Move.{Move}
use Rattle.board_core.specs.Board.{Board}
use Rattle.board_core.specs.Order.{order_of}
use Rattle.shogi_rules.specs.declared.trial.Wanted.{Wanted}
use Rattle.shogi_rules.specs.declared.trial.Wanted.TheVariants.{Checks, Evasions}
use Rattle.shogi_rules.specs.Tsume.{IsCheck, IsEvasion}

-- The move is one that the list is to hold: a check, or an evasion.
abbrev pub IsWanted : Wanted → Side → Board → Move → Type 0
IsWanted Checks attacker b move = IsCheck attacker b move
IsWanted Evasions attacker b move = IsEvasion attacker b move

-- The move is wanted, and comes before a place in the order.
abbrev pub IsWantedBefore : Wanted → Side → Board → ℕ → Move → Type 0
IsWantedBefore wanted attacker b place move = IsWanted wanted attacker b move × (order_of move < place)
