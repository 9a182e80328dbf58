-- When a note is valid: each of its steps meets its rule, and no height is above 4,096.
use Rattle.std.specs.Prelude.{◌≡◌, ◌≢◌, ◌<◌, ◌≤◌, ◌↔◌, ℕ, List, [], ◌∷◌, length, Some, Contains, slice_get}
use Rattle.bit_boards.specs.declared.piece.Side.{Side}
use Rattle.bit_boards.specs.Kind.{other}
use Rattle.board_core.specs.declared.keys.Key.{Key}
use Rattle.board_core.specs.declared.moves.Move.{Move}
use Rattle.board_core.specs.Board.{Board, kings_of}
use Rattle.board_core.specs.Kept.{IsKept}
use Rattle.board_core.specs.Key.{key_of}
use Rattle.board_core.specs.Order.{Lists}
use Rattle.shogi_rules.specs.Rules.{IsInCheck, IsQuiet, after}
use Rattle.shogi_rules.specs.Tsume.{IsCheck, IsEvasion}
use Rattle.hand_dominance.specs.declared.version.Version.{Version}
use Rattle.hand_dominance.specs.Dominance.{Dominates}
use Rattle.path_tags.specs.Tag.{IsRising}
use Rattle.notes.specs.declared.rule.Rule.{Rule}
use Rattle.notes.specs.declared.rule.Rule.TheVariants.{MateEnd, MateAll, MateBy, EscapeEnd, EscapeBy, EscapeRepeat, EscapeAll, Carry, MateLeaf, EscapeLeaf}
use Rattle.notes.specs.declared.rule.Conclusion.{Conclusion}
use Rattle.notes.specs.declared.rule.Conclusion.TheVariants.{Mate, Escape}
use Rattle.notes.specs.Derivation.{Step, Derivation, Derivations, derived, none_under, one_under, listed, rule_of, attacker_of, position_of, tag_of, conclusion_of, height_by, version_in, IsNoLeaf}
use Rattle.mate_facts.specs.declared.entry.MateEntry.{MateEntry}
use Rattle.mate_facts.specs.Entries.{IsListedWith}
use Rattle.notes.specs.Sets.{AreMates, AreEscapes, IsAmongMates, IsAmongEscapes}

-- A position as play has it: the defender has a king, and the side not to move isn't in check.
pub record IsInPlay (attacker : Side) (b : Board) : Type 0 where
  pub has_king : 0 < kings_of b (other attacker)
  pub quiet : IsQuiet b

-- The note concludes this about the position, for the attacker.
pub record Says (conclusion : Conclusion) (attacker : Side) (b : Board) (note : Derivation) : Type 0 where
  pub concludes : conclusion_of note ≡ conclusion
  pub same_attacker : attacker_of note ≡ attacker
  pub about : position_of note ≡ b

-- There is a note for each of the moves, in their order, and it concludes this about the position
-- after the move.
pub record SayEach (conclusion : Conclusion) (attacker : Side) (b : Board) (moves : List Move) (notes : List Derivation) : Type 0 where
  pub as_many : length notes ≡ length moves
  pub each : (i : ℕ) (move : Move) (note : Derivation) → slice_get moves i ≡ Some move → slice_get notes i ≡ Some note
      → Says conclusion attacker (after b move) note

-- The one note concludes this about the position after the move.
pub record SaysOne (conclusion : Conclusion) (attacker : Side) (b : Board) (move : Move) (notes : List Derivation) : Type 0 where
  pub note : Derivation
  pub alone : notes ≡ note ∷ []
  pub says : Says conclusion attacker (after b move) note

-- The end of a mate: the defender is in check and has no evasion.
pub record EndsInMate (attacker : Side) (b : Board) : Type 0 where
  pub turn : b.side ≡ other attacker
  pub in_check : IsInCheck b.cells (other attacker)
  pub no_evasion : (evasion : Move) → ¬ IsEvasion attacker b evasion

-- The end of an escape: the attacker is to move and has no check.
pub record EndsInEscape (attacker : Side) (b : Board) : Type 0 where
  pub turn : b.side ≡ attacker
  pub no_check : (check : Move) → ¬ IsCheck attacker b check

-- The defender has an evasion, and there is a note of a mate after each.
pub record MatesAfterAll (attacker : Side) (b : Board) (notes : List Derivation) : Type 0 where
  pub evasions : List Move
  pub lists : Lists (IsEvasion attacker b) evasions
  pub some : 0 < length evasions
  pub mates : SayEach Mate attacker b evasions notes

-- The attacker has a check, and there is a note of an escape after each.
pub record EscapesAfterAll (attacker : Side) (b : Board) (notes : List Derivation) : Type 0 where
  pub checks : List Move
  pub lists : Lists (IsCheck attacker b) checks
  pub some : 0 < length checks
  pub escapes : SayEach Escape attacker b checks notes

-- The tag has exactly the keys of the notes' tags, but for the position's own.
abbrev pub JoinsTags : List Key → Board → List Derivation → Type 0
JoinsTags tag b notes = (key : Key) → Contains tag key ↔ (((note : Derivation) × Contains notes note × Contains (tag_of note) key) × (key.0 ≢ key_of b))

-- The tag is one key: that of the position, and of no other.
pub record IsKeyAlone (tag : List Key) (b : Board) : Type 0 where
  pub kept : IsKept b
  pub key : Key
  pub alone : tag ≡ key ∷ []
  pub is_key : key.0 ≡ key_of b
  pub of_no_other : (q : Board) → IsKept q → key_of q ≡ key.0 → q ≡ b

-- What is concluded of the one position holds of the other: a mate of each that dominates it, an
-- escape of each that it dominates.
abbrev pub CarriesTo : Conclusion → Side → Board → Board → Type 0
CarriesTo Mate attacker from to = Dominates attacker to from
CarriesTo Escape attacker from to = Dominates attacker from to

-- The note may be carried to the position: it is this attacker's, depends on no repetition, and
-- what it concludes holds there too.
pub record MayBeCarried (attacker : Side) (b : Board) (note : Derivation) : Type 0 where
  pub same_attacker : attacker_of note ≡ attacker
  pub closed : tag_of note ≡ []
  pub holds : CarriesTo (conclusion_of note) attacker (position_of note) b

-- The one note concludes this, and may be carried to the position.
pub record CarriesOne (conclusion : Conclusion) (attacker : Side) (b : Board) (notes : List Derivation) : Type 0 where
  pub note : Derivation
  pub alone : notes ≡ note ∷ []
  pub concludes : conclusion_of note ≡ conclusion
  pub may : MayBeCarried attacker b note

-- What each rule asks of its step and the notes under it, with the tag that it gives.
abbrev pub meets : Rule → Step → List Derivation → Type 0
meets MateEnd s notes = EndsInMate s.attacker s.position × (notes ≡ []) × (s.tag ≡ [])
meets MateAll s notes = MatesAfterAll s.attacker s.position notes × (s.tag ≡ [])
meets (MateBy check) s notes = IsCheck s.attacker s.position check × SaysOne Mate s.attacker s.position check notes × (s.tag ≡ [])
meets EscapeEnd s notes = EndsInEscape s.attacker s.position × (notes ≡ []) × (s.tag ≡ [])
meets (EscapeBy evasion) s notes = IsEvasion s.attacker s.position evasion
    × ((one : SaysOne Escape s.attacker s.position evasion notes) × (s.tag ≡ tag_of one.note))
meets (EscapeRepeat evasion) s notes = IsEvasion s.attacker s.position evasion × (notes ≡ [])
    × IsKeyAlone s.tag (after s.position evasion)
meets EscapeAll s notes = EscapesAfterAll s.attacker s.position notes × JoinsTags s.tag s.position notes
meets (Carry conclusion) s notes = CarriesOne conclusion s.attacker s.position notes × (s.tag ≡ [])
meets (MateLeaf version rank) s notes = IsAmongMates version s.attacker rank s.position s.beside × (notes ≡ []) × (s.tag ≡ [])
meets (EscapeLeaf version) s notes = IsAmongEscapes version s.attacker s.position s.beside × (notes ≡ []) × (s.tag ≡ [])

-- A step meets its rule at a position as play has it; its tag rises; its height is the one by its
-- rule, and at most 4,096; and it stands among nothing, unless it is a leaf.
pub record IsStep (s : Step) (notes : List Derivation) : Type 0 where
  pub kept : IsKept s.position
  pub play : IsInPlay s.attacker s.position
  pub rule : meets s.rule s notes
  pub rising : IsRising s.tag
  pub height : s.height ≡ height_by s.rule notes
  pub low : s.height ≤ 4096
  pub alone : IsNoLeaf s.rule → s.beside ≡ []

-- A note is valid where each of its steps is.
abbrev mutual
  pub IsValid : Derivation → Type 0
  IsValid (derived s notes) = AreValid notes × IsStep s (listed notes)

  pub AreValid : Derivations → Type 0
  AreValid none_under = Unit {0}
  AreValid (one_under note notes) = IsValid note × AreValid notes

-- What a note by this rule is kept with: a leaf with the entries, or the positions, among which its
-- position is listed; any other with none.
abbrev pub StandsAmong : Rule → Side → Board → List MateEntry → List Board → Type 0
StandsAmong (MateLeaf version rank) attacker b entries positions = AreMates version attacker entries × IsListedWith entries rank b × (positions ≡ [])
StandsAmong (EscapeLeaf version) attacker b entries positions = AreEscapes version attacker positions × Contains positions b × (entries ≡ [])
StandsAmong rule attacker b entries positions = (entries ≡ []) × (positions ≡ [])

-- What a note keeps: it is valid, this is the version of a certificate that says what it does, and
-- these are the entries, and the positions, among which it stands.
abbrev pub Keeps : Derivation → Version → List MateEntry → List Board → Type 0
Keeps note version entries positions = IsValid note × (version ≡ version_in note)
    × StandsAmong (rule_of note) (attacker_of note) (position_of note) entries positions
