-- When a note serves for a position, in a version of certificates.
use Rattle.std.specs.Prelude.{◌≡◌}
use Rattle.bit_boards.specs.declared.piece.Side.{Side}
use Rattle.board_core.specs.Board.{Board}
use Rattle.hand_dominance.specs.declared.version.Version.{Version}
use Rattle.hand_dominance.specs.declared.version.Version.TheVariants.{One}
use Rattle.hand_dominance.specs.BorneOut.{Covers}
use Rattle.notes.specs.declared.rule.Conclusion.{Conclusion}
use Rattle.notes.specs.declared.rule.Conclusion.TheVariants.{Mate, Escape}
use Rattle.notes.specs.Derivation.{Derivation, IsOwn, attacker_of, position_of, conclusion_of, version_in}

-- What is concluded of the one position holds of the other, in this version: a mate of what covers
-- it, an escape of what it covers.
abbrev pub HoldsOf : Version → Conclusion → Side → Board → Board → Type 0
HoldsOf version Mate attacker from to = Covers version attacker to from
HoldsOf version Escape attacker from to = Covers version attacker from to

-- The note serves for the position, in this version: its last step carries none; it concludes this
-- for the attacker, which holds of the position too; and in version 1 none is carried in its tree,
-- nor is a leaf of it of version 2.
pub record Serves (version : Version) (conclusion : Conclusion) (attacker : Side) (position : Board) (note : Derivation) : Type 0 where
  pub own : IsOwn note
  pub concludes : conclusion_of note ≡ conclusion
  pub same_attacker : attacker_of note ≡ attacker
  pub holds : HoldsOf version conclusion attacker (position_of note) position
  pub fits : version ≡ One → version_in note ≡ One
