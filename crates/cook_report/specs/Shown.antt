-- What a valid cook report shows of its position.
use Rattle.std.specs.Prelude.{◌≡◌, ◌≢◌, List, Contains}
use Rattle.bit_boards.specs.declared.piece.Side.{Side}
use Rattle.board_core.specs.declared.moves.Move.{Move}
use Rattle.board_core.specs.Board.{Board}
use Rattle.board_core.specs.Kept.{IsKept}
use Rattle.shogi_rules.specs.Rules.{after}
use Rattle.shogi_rules.specs.Tsume.{IsCheck, IsEvasion}
use Rattle.mate_def.specs.Mate.{after_both, IsMate}
use Rattle.mate_facts.specs.Entries.{positions_of}
use Rattle.hand_dominance.specs.BorneOut.{AreKept}
use Rattle.cert_text.specs.Certificate.{Escaping, escape_form}
use Rattle.cert_text.specs.Reading.{IsReadableOf}
use Rattle.cook_report.specs.declared.report.Line.{Line}
use Rattle.cook_report.specs.declared.report.Line.TheVariants.{Mate, Escape, Unknown}
use Rattle.cook_report.specs.declared.word.Word.{Word}
use Rattle.cook_report.specs.declared.word.Word.TheVariants.{Sound, Cooked, Open, NoMate}
use Rattle.cook_report.specs.Report.{word_of}
use Rattle.cook_report.specs.Valid.{ValidReport}

-- A check of the position mates: each evasion to it leads to a mate.
pub record MatesBy (attacker : Side) (b : Board) (check : Move) : Type 0 where
  pub is_check : IsCheck attacker b check
  pub evasions : (evasion : Move) → IsEvasion attacker (after b check) evasion → IsMate attacker (after_both b check evasion)

-- Exactly one check of the position mates.
pub record OneCheckMates (attacker : Side) (b : Board) : Type 0 where
  pub check : Move
  pub mates : MatesBy attacker b check
  pub only : (other : Move) → MatesBy attacker b other → other ≡ check

-- Two different checks of the position mate.
pub record TwoChecksMate (attacker : Side) (b : Board) : Type 0 where
  pub first : Move
  pub second : Move
  pub differ : first ≢ second
  pub first_mates : MatesBy attacker b first
  pub second_mates : MatesBy attacker b second

-- What a word says of a position: sound, that exactly one check mates; cooked, that two different
-- ones do; no mate, that the position is none; open, nothing.
abbrev pub Says : Word → Side → Board → Type 0
Says Sound attacker b = OneCheckMates attacker b
Says Cooked attacker b = TwoChecksMate attacker b
Says Open attacker b = Unit {0}
Says NoMate attacker b = ¬ IsMate attacker b

-- The check mates, and so the position is a mate.
pub record ShowsCheck (p : Board) (check : Move) : Type 0 where
  pub mates : MatesBy p.side p check
  pub mate : IsMate p.side p

-- The evasion to the check leads to a position that is no mate, and so the check mates by no
-- strategy.
pub record ShowsNone (p : Board) (check evasion : Move) : Type 0 where
  pub no_mate : ¬ IsMate p.side (after_both p check evasion)
  pub spared : ¬ MatesBy p.side p check

-- What a line shows of its check.
abbrev pub ShowsOf : Board → Line → Type 0
ShowsOf p (Mate check c) = ShowsCheck p check
ShowsOf p (Escape check evasion c) = ShowsNone p check evasion
ShowsOf p (Unknown check evasion cause) = Unit {0}

-- What lines show of a position: each what it says of its check, and all together what their word
-- says.
pub record Shows (p : Board) (lines : List Line) : Type 0 where
  pub each : (line : Line) → Contains lines line → ShowsOf p line
  pub word : Says (word_of lines) p.side p

-- The positions that a line lists keep what every position keeps.
abbrev pub IsKeptLine : Line → Type 0
IsKeptLine (Mate check c) = AreKept (positions_of c.entries)
IsKeptLine (Escape check evasion c) = AreKept c.entries
IsKeptLine (Unknown check evasion cause) = Unit {0}

-- A law: the lines of a valid report show what they say of its position, where that and all
-- positions that they list keep what every position keeps.
abbrev pub ValidReportsShow : Type 0
ValidReportsShow = (p : Board) (lines : List Line) → IsKept p → ((line : Line) → Contains lines line → IsKeptLine line) → ValidReport p lines → Shows p lines

-- A law: the positions of an escape's certificate that can be read keep what every position keeps.
abbrev pub ReadableEscapesAreKept : Type 0
ReadableEscapesAreKept = (c : Escaping) → IsReadableOf (escape_form c.problem) c → AreKept c.entries
