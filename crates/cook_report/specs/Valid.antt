-- When a cook report is valid for a position.
use Rattle.std.specs.Prelude.{◌≡◌, List, Contains, map}
use Rattle.bit_boards.specs.declared.piece.Side.{Side}
use Rattle.board_core.specs.declared.moves.Move.{Move}
use Rattle.board_core.specs.Board.{Board}
use Rattle.board_core.specs.Order.{Lists}
use Rattle.shogi_rules.specs.Rules.{after}
use Rattle.shogi_rules.specs.Tsume.{IsCheck, IsEvasion}
use Rattle.mate_def.specs.Mate.{after_both}
use Rattle.mate_facts.specs.declared.entry.MateEntry.{MateEntry}
use Rattle.hand_dominance.specs.BorneOut.{CoversListed, IsBorneOut}
use Rattle.cert_text.specs.Certificate.{Mating, Escaping}
use Rattle.cert_check.specs.Valid.{ValidEscape}
use Rattle.cook_report.specs.declared.report.Line.{Line}
use Rattle.cook_report.specs.declared.report.Line.TheVariants.{Mate, Escape, Unknown}
use Rattle.cook_report.specs.Report.{check_of}

-- Each entry of a mate's certificate is borne out in the certificate's version, for this attacker.
abbrev pub AreAllBorneOut : Side → Mating → Type 0
AreAllBorneOut attacker c = (entry : MateEntry) → Contains c.entries entry → IsBorneOut c.version c.entries attacker entry

-- A line says that a check of the position mates: what it lists is about the position and borne
-- out, and each evasion to the check leads to a position that covers a listed one.
pub record IsMateLine (p : Board) (check : Move) (c : Mating) : Type 0 where
  pub problem : c.problem ≡ p
  pub entries : AreAllBorneOut p.side c
  pub evasions : (evasion : Move) → IsEvasion p.side (after p check) evasion → CoversListed c.version c.entries p.side (after_both p check evasion)

-- A line says that an evasion to a check of the position leads to no mate: it is one, and the
-- certificate of an escape is valid for the position after it.
pub record IsEscapeLine (p : Board) (check evasion : Move) (c : Escaping) : Type 0 where
  pub is_evasion : IsEvasion p.side (after p check) evasion
  pub escapes : ValidEscape c (after_both p check evasion)

-- What a line says of a check of the position is borne out by what it lists. Of a check of which
-- neither was found it says no more than an evasion to it.
abbrev pub IsLineOf : Board → Line → Type 0
IsLineOf p (Mate check c) = IsMateLine p check c
IsLineOf p (Escape check evasion c) = IsEscapeLine p check evasion c
IsLineOf p (Unknown check evasion cause) = IsEvasion p.side (after p check) evasion

-- The lines are a valid report of the position: one for each check, in the order of moves, and
-- what each says is borne out.
pub record ValidReport (p : Board) (lines : List Line) : Type 0 where
  pub checks : Lists (IsCheck p.side p) (map check_of lines)
  pub each : (line : Line) → Contains lines line → IsLineOf p line
