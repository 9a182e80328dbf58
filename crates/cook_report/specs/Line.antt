-- For the functions of the crate alone: where evasions lead.
use Rattle.bit_boards.specs.declared.piece.Side.{Side}
use Rattle.board_core.specs.declared.moves.Move.{Move}
use Rattle.board_core.specs.Board.{Board}
use Rattle.shogi_rules.specs.Rules.{after}
use Rattle.shogi_rules.specs.Tsume.{IsEvasion}
use Rattle.hand_dominance.specs.BorneOut.{CoversListed}
use Rattle.cert_text.specs.Certificate.{Mating}

-- Each evasion of a position, the defender's to move, leads to one that covers a listed one.
abbrev pub IsLedTo : Side → Board → Mating → Type 0
IsLedTo attacker checked c = (evasion : Move) → IsEvasion attacker checked evasion → CoversListed c.version c.entries attacker (after checked evasion)
