-- What is extracted from a note's tree.
use Rattle.std.specs.Prelude.{◌≡◌, ◌<◌, ◌*◌, ◌⊎◌, ℕ, List, Contains, length}
use Rattle.bit_boards.specs.declared.piece.Side.{Side}
use Rattle.board_core.specs.Board.{Board}
use Rattle.mate_facts.specs.declared.entry.MateEntry.{MateEntry}
use Rattle.mate_facts.specs.Entries.{AreApart}
use Rattle.cert_text.specs.declared.head.Claim.{Claim}
use Rattle.cert_text.specs.declared.head.Claim.TheVariants as claims
use Rattle.cert_text.specs.declared.certificate.Certificate.{Certificate}
use Rattle.cert_text.specs.declared.certificate.Certificate.TheVariants as certificates
use Rattle.hand_dominance.specs.declared.version.Version.{Version}
use Rattle.notes.specs.declared.rule.Rule.TheVariants.{MateBy, MateLeaf}
use Rattle.notes.specs.declared.rule.Conclusion.{Conclusion}
use Rattle.notes.specs.declared.rule.Conclusion.TheVariants.{Mate, Escape}
use Rattle.notes.specs.Derivation.{Derivation, IsNoLeaf, IsOwn, rule_of, position_of, height_of, beside_of, conclusion_of}
use Rattle.cert_extract.specs.declared.ends.ExtractEnd.{ExtractEnd}
use Rattle.cert_extract.specs.declared.ends.ExtractEnd.TheVariants.{TooMany, NoMemory}
use Rattle.cert_extract.specs.Tree.{IsIn}
use Rattle.cert_extract.specs.Beside.{IsToldBeside, Tells}
use Rattle.cert_extract.specs.Walk.{IsWalk}

-- What a certificate of a conclusion claims.
abbrev pub claim_by : Conclusion → Claim
claim_by Mate = claims.Mate
claim_by Escape = claims.Escape

-- A note says an entry by a step: it is about the entry's position, its last step is by the entry's
-- check, and its height is twice the entry's rank.
pub record IsStepOf (note : Derivation) (entry : MateEntry) : Type 0 where
  pub about : position_of note ≡ entry.at
  pub by : rule_of note ≡ MateBy entry.by
  pub high : height_of note ≡ 2 * entry.rank.number

-- A leaf says an entry: it stands among the entry's position with its rank, which is lower, or the
-- entry is its own.
pub record IsLeafOf (note : Derivation) (entry : MateEntry) : Type 0 where
  pub version : Version
  pub rank : ℕ
  pub leaf : rule_of note ≡ MateLeaf version rank
  pub beside : IsToldBeside (beside_of note) rank (position_of note) (record { rank = entry.rank.number; at = entry.at })

-- A mate's entry comes from the tree: a note in it says it, by a step or as a leaf.
pub record IsMateFrom (tree : Derivation) (entry : MateEntry) : Type 0 where
  pub note : Derivation
  pub within : IsIn tree note
  pub says : IsStepOf note entry ⊎ IsLeafOf note entry

-- An escape's position comes from the tree: a note in it that carries none tells of the position,
-- and concludes an escape.
pub record IsEscapeFrom (tree : Derivation) (b : Board) : Type 0 where
  pub note : Derivation
  pub within : IsIn tree note
  pub own : IsOwn note
  pub tells : Tells note b
  pub concludes : conclusion_of note ≡ Escape

-- Each entry of a certificate comes from the tree.
abbrev pub ComesFrom : Derivation → Certificate → Type 0
ComesFrom tree (certificates.Mate c) = (entry : MateEntry) → Contains c.entries entry → IsMateFrom tree entry
ComesFrom tree (certificates.Escape c) = (b : Board) → Contains c.entries b → IsEscapeFrom tree b

-- The position is met in the tree, with this side to move: a note in it tells of the position, and
-- concludes what the whole does.
pub record IsMet (tree : Derivation) (attacker : Side) (b : Board) : Type 0 where
  pub note : Derivation
  pub within : IsIn tree note
  pub tells : Tells note b
  pub concludes : conclusion_of note ≡ conclusion_of tree
  pub turn : b.side ≡ attacker

-- A walk of the tree meets more different positions of the attacker than so many: of each a note
-- that it walks tells, and that of each such note is one of them, unless the note is a leaf.
pub record HasMoreThan (most : ℕ) (problem : Board) (tree : Derivation) : Type 0 where
  pub walked : List Derivation
  pub walk : IsWalk tree walked
  pub positions : List Board
  pub told : (b : Board) → Contains positions b → (note : Derivation) × Contains walked note × Tells note b
  pub own : (note : Derivation) → Contains walked note → IsNoLeaf (rule_of note) → Contains positions (position_of note)
  pub apart : AreApart positions
  pub more : most < length positions
  pub from : (b : Board) → Contains positions b → IsMet tree problem.side b

-- Why no certificate of so many entries at most is extracted: a walk of the tree meets more of the
-- attacker's positions, or memory was wanted.
abbrev pub IsEndFor : ℕ → Board → Derivation → ExtractEnd → Type 0
IsEndFor most problem tree TooMany = HasMoreThan most problem tree
IsEndFor most problem tree NoMemory = Unit {0}
