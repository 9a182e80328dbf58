-- What contracts see of a note: a tree of steps, each by one of the ten rules.
use Rattle.std.specs.Prelude.{◌≡◌, ◌+◌, ◌*◌, ℕ, max, List, [], ◌∷◌}
use Rattle.bit_boards.specs.declared.piece.Side.{Side}
use Rattle.board_core.specs.declared.keys.Key.{Key}
use Rattle.board_core.specs.Board.{Board}
use Rattle.hand_dominance.specs.declared.version.Version.{Version}
use Rattle.hand_dominance.specs.declared.version.Version.TheVariants.{One, Two}
use Rattle.notes.specs.declared.rule.Rule.{Rule}
use Rattle.notes.specs.declared.rule.Rule.TheVariants.{MateEnd, MateAll, MateBy, EscapeEnd, EscapeBy, EscapeRepeat, EscapeAll, Carry, MateLeaf, EscapeLeaf}
use Rattle.notes.specs.declared.rule.Conclusion.{Conclusion}
use Rattle.notes.specs.declared.rule.Conclusion.TheVariants.{Mate, Escape}

-- A position that a leaf stands among, with its rank; 0 where it is one of an escape.
pub record Ranked : Type 0 where
  pub rank : ℕ
  pub at : Board

-- A step: its rule, the side that attacks, the position that it is about, its tag (the keys,
-- rising, of the positions on whose repetition it depends), its height, and what a leaf stands
-- among, which is nothing of any other step.
pub record Step : Type 0 where
  pub rule : Rule
  pub attacker : Side
  pub position : Board
  pub tag : List Key
  pub height : ℕ
  pub beside : List Ranked

-- A derivation: its last step, and the derivations under it, in their order.
mutual
  pub data Derivation : Type 0 where
    derived : Step → Derivations → Derivation

  pub data Derivations : Type 0 where
    none_under : Derivations
    one_under : Derivation → Derivations → Derivations

-- The derivations of a list.
abbrev pub derivations : List Derivation → Derivations
derivations [] = none_under
derivations (note ∷ notes) = one_under note (derivations notes)

-- The list of derivations.
abbrev pub listed : Derivations → List Derivation
listed none_under = []
listed (one_under note notes) = note ∷ listed notes

-- The list is that of its derivations.
pub listed-derivations : (notes : List Derivation) → listed (derivations notes) ≡ notes
listed-derivations [] = λ i. []
listed-derivations (note ∷ notes) = λ i. note ∷ listed-derivations notes i

-- The step with these parts.
abbrev pub step_among : Rule → Side → Board → List Key → ℕ → List Ranked → Step
step_among its_rule its_attacker its_position its_tag its_height its_beside = record {
  rule = its_rule;
  attacker = its_attacker;
  position = its_position;
  tag = its_tag;
  height = its_height;
  beside = its_beside;
}

-- The step with these parts, which stands among none.
abbrev pub step_over : Rule → Side → Board → List Key → ℕ → Step
step_over its_rule its_attacker its_position its_tag its_height = step_among its_rule its_attacker its_position its_tag its_height []

-- The note whose last step has these parts, over these notes.
abbrev pub note_over : Rule → Side → Board → List Key → ℕ → List Derivation → Derivation
note_over its_rule its_attacker its_position its_tag its_height notes =
    derived (step_over its_rule its_attacker its_position its_tag its_height) (derivations notes)

-- A note's last step.
abbrev pub step_of : Derivation → Step
step_of (derived step notes) = step

-- The notes under a note, in their order.
abbrev pub under_of : Derivation → List Derivation
under_of (derived step notes) = listed notes

-- The rule of a note's last step.
abbrev pub rule_of : Derivation → Rule
rule_of note = (step_of note).rule

-- The side that attacks.
abbrev pub attacker_of : Derivation → Side
attacker_of note = (step_of note).attacker

-- The position that a note is about.
abbrev pub position_of : Derivation → Board
position_of note = (step_of note).position

-- The keys of the positions on whose repetition a note depends.
abbrev pub tag_of : Derivation → List Key
tag_of note = (step_of note).tag

-- A note's height.
abbrev pub height_of : Derivation → ℕ
height_of note = (step_of note).height

-- What a leaf stands among; nothing of another note.
abbrev pub beside_of : Derivation → List Ranked
beside_of note = (step_of note).beside

-- What a rule concludes.
abbrev pub concluded : Rule → Conclusion
concluded MateEnd = Mate
concluded MateAll = Mate
concluded (MateBy move) = Mate
concluded EscapeEnd = Escape
concluded (EscapeBy move) = Escape
concluded (EscapeRepeat move) = Escape
concluded EscapeAll = Escape
concluded (Carry conclusion) = conclusion
concluded (MateLeaf version rank) = Mate
concluded (EscapeLeaf version) = Escape

-- The rule is that of no leaf.
abbrev pub IsNoLeaf : Rule → Type 0
IsNoLeaf (MateLeaf version rank) = ⊥
IsNoLeaf (EscapeLeaf version) = ⊥
IsNoLeaf rule = Unit {0}

-- What a note concludes.
abbrev pub conclusion_of : Derivation → Conclusion
conclusion_of note = concluded (rule_of note)

-- The greatest height of some notes; 0 of none.
abbrev pub highest : List Derivation → ℕ
highest [] = 0
highest (note ∷ notes) = max (height_of note) (highest notes)

-- How high a step by this rule is over such notes: as high as the note that it carries, twice the
-- rank of a mate's leaf, else one more than the greatest of their heights.
abbrev pub height_by : Rule → List Derivation → ℕ
height_by (Carry conclusion) notes = highest notes
height_by (MateLeaf version rank) notes = 2 * rank
height_by rule notes = highest notes + 1

-- The later of two versions.
abbrev pub later : Version → Version → Version
later One version = version
later Two version = Two

-- The version of a step by this rule, over notes of such a version: 2 where it carries one, or is a
-- leaf of that version.
abbrev pub version_by : Rule → Version → Version
version_by (Carry conclusion) version = Two
version_by (MateLeaf own rank) version = later own version
version_by (EscapeLeaf own) version = later own version
version_by rule version = version

-- The version in which a certificate says what a derivation does: 2 where a step of it carries a
-- note or is a leaf of that version, else 1.
abbrev mutual
  pub version_in : Derivation → Version
  version_in (derived step notes) = version_by step.rule (version_under notes)

  pub version_under : Derivations → Version
  version_under none_under = One
  version_under (one_under note notes) = later (version_in note) (version_under notes)

-- A note, carried to another position: it concludes the same there, for this attacker, is as high,
-- and depends on no repetition.
abbrev pub carried : Side → Board → Derivation → Derivation
carried attacker b note = note_over (Carry (conclusion_of note)) attacker b [] (height_of note) (note ∷ [])

-- A leaf: the position is listed with this rank among these of a mate.
abbrev pub mate_leaf : Version → Side → List Ranked → Board → ℕ → Derivation
mate_leaf version attacker beside b rank = derived (step_among (MateLeaf version rank) attacker b [] (2 * rank) beside) none_under

-- A leaf: the position is one of these of an escape.
abbrev pub escape_leaf : Version → Side → List Ranked → Board → Derivation
escape_leaf version attacker beside b = derived (step_among (EscapeLeaf version) attacker b [] 1 beside) none_under

-- The note itself; where the rule carries a note, that one's source.
abbrev pub source_by : Rule → Derivation → Derivation → Derivation
source_by (Carry conclusion) note source = source
source_by rule note source = note

-- The note's last step carries none.
abbrev pub IsOwn : Derivation → Type 0
IsOwn note = (conclusion : Conclusion) → ¬ (rule_of note ≡ Carry conclusion)

-- The note that a note was carried from: itself where its last step carries none.
abbrev pub source_of : Derivation → Derivation
source_of (derived step none_under) = derived step none_under
source_of (derived step (one_under note notes)) = source_by step.rule (derived step (one_under note notes)) (source_of note)

-- How many steps a derivation has, each as often as it stands in the tree.
abbrev mutual
  pub steps_of : Derivation → ℕ
  steps_of (derived step notes) = steps_under notes + 1

  pub steps_under : Derivations → ℕ
  steps_under none_under = 0
  steps_under (one_under note notes) = steps_of note + steps_under notes
