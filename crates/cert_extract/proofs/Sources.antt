-- A note and its source: what the one is worth, the other is.
use Rattle.std.proofs.Common.{◌≡◌, ◌<◌, ◌≤◌, ◌++◌, ◌⊎◌, inl, inr, zero, suc, List, [], ◌∷◌, map, reverse, Contains, arith, refl, sym, ◌∙◌, ap, subst}
use Rattle.std.specs.List.{flat_map}
use Rattle.bit_boards.specs.declared.piece.Side.{Side}
use Rattle.board_core.specs.declared.keys.Key.{Key}
use Rattle.board_core.specs.declared.moves.Move.{Move}
use Rattle.board_core.specs.Board.{Board}
use Rattle.board_core.specs.Kept.{IsKept}
use Rattle.list_laws.proofs.Standing.{at_place, contained, contains_map, from_map}
use Rattle.shogi_rules.specs.Rules.{after}
use Rattle.shogi_rules.specs.Tsume.{IsEvasion}
use Rattle.hand_dominance.specs.declared.version.Version.{Version}
use Rattle.hand_dominance.specs.declared.version.Version.TheVariants.{One, Two}
use Rattle.hand_dominance.specs.BorneOut.{Covers}
use Rattle.hand_dominance.proofs.Listed.{itself, above_too}
use Rattle.hand_dominance.proofs.Above.{serves_below}
use Rattle.notes.specs.declared.rule.Rule.{Rule}
use Rattle.notes.specs.declared.rule.Rule.TheVariants.{Carry, MateLeaf, EscapeLeaf}
use Rattle.notes.specs.declared.rule.Conclusion.{Conclusion}
use Rattle.notes.specs.declared.rule.Conclusion.TheVariants.{Mate, Escape}
use Rattle.notes.specs.Derivation.{Step, Derivation, Derivations, derived, none_under, one_under, listed, under_of, attacker_of, position_of, tag_of, height_of, conclusion_of, concluded, highest, height_by, later, version_by, version_in, version_under, source_by, source_of, steps_of, IsOwn}
use Rattle.notes.specs.Valid.{Says, CarriesTo, IsValid, meets}
use Rattle.notes.proofs.Offered.{own_source}
use Rattle.cert_extract.specs.Serving.{HoldsOf, Serves}
use Rattle.cert_extract.specs.Tree.{IsIn, next_under, two_under}
use Rattle.cert_extract.proofs.Trees.{from_flat, in_flat, under_in, weight, weight-append, weight-reverse, weight-under}

-- 1. What covers a position

pub covers_itself : (version : Version) (attacker : Side) (b : Board) → Covers version attacker b b
covers_itself One attacker b = refl
covers_itself Two attacker b = itself attacker b

pub covers_on : (version : Version) (attacker : Side) (a b c : Board) → Covers version attacker a b → Covers version attacker b c → Covers version attacker a c
covers_on One attacker a b c one two = one ∙ two
covers_on Two attacker a b c one two = above_too attacker a b c one two

pub covers_turn : (version : Version) (attacker : Side) (over under : Board) → Covers version attacker over under → over.side ≡ under.side
covers_turn One attacker over under c = ap (λ (b : Board). b.side) c
covers_turn Two attacker over under c = c.turn

-- an evasion above is one below, and leads to what covers what it leads to below
pub evades : (version : Version) (attacker : Side) (over under : Board) (evasion : Move) → IsKept over → IsKept under → Covers version attacker over under
    → IsEvasion attacker over evasion → IsEvasion attacker under evasion × Covers version attacker (after over evasion) (after under evasion)
evades One attacker over under evasion high low c is = (subst (λ (b : Board). IsEvasion attacker b evasion) c is, ap (λ (b : Board). after b evasion) c)
evades Two attacker over under evasion high low c is = serves_below attacker over under evasion high low c is

-- 2. A note's source

-- it stands in the tree, and has no more steps
pub source_in : (top note : Derivation) → IsIn top note → IsIn top (source_of note)
source_in top (derived s none_under) h = h
source_in top (derived s (one_under first rest)) h =
    by s.rule (source_in top first (under_in top (derived s (one_under first rest)) first h (zero, omega arith, refl)))
  where
    by : (rule : Rule) → IsIn top (source_of first) → IsIn top (source_by rule (derived s (one_under first rest)) (source_of first))
    by (Carry conclusion) below = below
    by rule below = h

pub source_lighter : (note : Derivation) → steps_of (source_of note) ≤ steps_of note
source_lighter (derived s none_under) = omega arith
source_lighter (derived s (one_under first rest)) = by s.rule (source_lighter first)
  where
    by : (rule : Rule) → steps_of (source_of first) ≤ steps_of first
        → steps_of (source_by rule (derived s (one_under first rest)) (source_of first)) ≤ steps_of (derived s (one_under first rest))
    by (Carry conclusion) less = omega (arith, less)
    by rule less = omega arith

-- 3. What a note is worth, its source is

carries_itself : (conclusion : Conclusion) (attacker : Side) (b : Board) → CarriesTo conclusion attacker b b
carries_itself Mate attacker b = itself attacker b
carries_itself Escape attacker b = itself attacker b

carries_on : (conclusion : Conclusion) (attacker : Side) (a b c : Board) → CarriesTo conclusion attacker a b → CarriesTo conclusion attacker b c
    → CarriesTo conclusion attacker a c
carries_on Mate attacker a b c one two = above_too attacker c b a two one
carries_on Escape attacker a b c one two = above_too attacker a b c one two

pub record IsSource (note source : Derivation) : Type 0 where
  pub own : IsOwn source
  pub valid : IsValid source
  pub concludes : conclusion_of source ≡ conclusion_of note
  pub same_attacker : attacker_of source ≡ attacker_of note
  pub carries : CarriesTo (conclusion_of note) (attacker_of note) (position_of source) (position_of note)
  pub high : height_of source ≡ height_of note
  pub tags : (key : Key) → Contains (tag_of source) key → Contains (tag_of note) key

is_itself : (note : Derivation) → IsValid note → IsOwn note → IsSource note note
is_itself note valid own = record {
  own = own;
  valid = valid;
  concludes = refl;
  same_attacker = refl;
  carries = carries_itself (conclusion_of note) (attacker_of note) (position_of note);
  high = refl;
  tags = λ key held. held;
}

first_alone : (first one : Derivation) (rest : List Derivation) → first ∷ rest ≡ one ∷ [] → (first ≡ one) × (rest ≡ [])
first_alone first one rest e = (cc, cc)

no_note : (one : Derivation) → [] ≡ one ∷ [] → ⊥
no_note one e = cc

-- the rule carries one, or none
carried_or_own : (rule : Rule) → ((conclusion : Conclusion) × (rule ≡ Carry conclusion)) ⊎ ((conclusion : Conclusion) → rule ≡ Carry conclusion → ⊥)
carried_or_own (Carry conclusion) = inl (conclusion, refl)
carried_or_own rule = inr (λ conclusion e. cc)

-- the source of what a step carries is that of the step
module _ (s : Step) (first : Derivation) (rest : Derivations) (conclusion : Conclusion) (valid : IsValid (derived s (one_under first rest)))
    (carry : s.rule ≡ Carry conclusion) (below : IsSource first (source_of first)) where
  abbrev whole : Derivation
  whole = derived s (one_under first rest)

  met : meets (Carry conclusion) s (first ∷ listed rest)
  met = subst (λ (rule : Rule). meets rule s (first ∷ listed rest)) carry valid.1.rule

  alone : (first ≡ met.0.note) × (listed rest ≡ [])
  alone = first_alone first met.0.note (listed rest) met.0.alone

  closed : tag_of first ≡ []
  closed = ap tag_of alone.0 ∙ met.0.may.closed

  first_concludes : conclusion_of first ≡ conclusion_of whole
  first_concludes = ap conclusion_of alone.0 ∙ (met.0.concludes ∙ sym (ap concluded carry))

  first_attacks : attacker_of first ≡ s.attacker
  first_attacks = ap attacker_of alone.0 ∙ met.0.may.same_attacker

  first_high : height_of first ≡ s.height
  first_high =
      let by : s.height ≡ highest (first ∷ listed rest) = valid.1.height ∙ ap (λ (rule : Rule). height_by rule (first ∷ listed rest)) carry in
      let top : highest (first ∷ listed rest) ≡ highest (first ∷ []) = ap (λ (notes : List Derivation). highest (first ∷ notes)) alone.1 in
      omega (arith, by, top)

  first_carries : CarriesTo (conclusion_of whole) s.attacker (position_of first) s.position
  first_carries =
      subst (λ (n : Derivation). CarriesTo (conclusion_of whole) s.attacker (position_of n) s.position) (sym alone.0)
      (subst (λ (c : Conclusion). CarriesTo c s.attacker (position_of met.0.note) s.position) (sym (ap conclusion_of alone.0) ∙ first_concludes) met.0.may.holds)

  carried_source : IsSource whole (source_of first)
  carried_source = record {
    own = below.own;
    valid = below.valid;
    concludes = below.concludes ∙ first_concludes;
    same_attacker = below.same_attacker ∙ first_attacks;
    carries = carries_on (conclusion_of whole) s.attacker (position_of (source_of first)) (position_of first) s.position
        (subst (λ (side : Side). CarriesTo (conclusion_of whole) side (position_of (source_of first)) (position_of first)) first_attacks
        (subst (λ (c : Conclusion). CarriesTo c (attacker_of first) (position_of (source_of first)) (position_of first)) first_concludes below.carries))
        first_carries;
    high = below.high ∙ first_high;
    tags = λ key held.
        absurd (let gone = subst (λ (keys : List Key). Contains keys key) closed (below.tags key held) in let inside = gone.1 in omega (arith, inside));
  }

pub source_known : (note : Derivation) → IsValid note → IsSource note (source_of note)
source_known (derived s none_under) valid = elim (carried_or_own s.rule) [
  | inl carry ↦
      let met : meets (Carry carry.0) s [] = subst (λ (rule : Rule). meets rule s []) carry.1 valid.1.rule in
      absurd (no_note met.0.note met.0.alone)
  | inr own ↦ is_itself (derived s none_under) valid own
]
source_known (derived s (one_under first rest)) valid = elim (carried_or_own s.rule) [
  | inl carry ↦
      subst (IsSource (derived s (one_under first rest)))
      (sym (ap (λ (rule : Rule). source_by rule (derived s (one_under first rest)) (source_of first)) carry.1))
      (carried_source s first rest carry.0 valid carry.1 (source_known first valid.0.0))
  | inr own ↦
      subst (IsSource (derived s (one_under first rest))) (sym (own_source (derived s (one_under first rest)) own))
      (is_itself (derived s (one_under first rest)) valid own)
]

-- 4. Versions

not_one : Two ≡ One → ⊥
not_one e = cc

-- where none is carried in the tree, none is carried by its last step, nor in the trees under it
own_in_one : (note : Derivation) → version_in note ≡ One → IsOwn note
own_in_one (derived s notes) one conclusion carry =
    not_one (sym (ap (λ (rule : Rule). version_by rule (version_under notes)) carry) ∙ one)

pub both_one : (a b : Version) → later a b ≡ One → (a ≡ One) × (b ≡ One)
both_one One b one = (refl, one)
both_one Two b one = absurd (not_one one)

one_under_rule : (rule : Rule) (version : Version) → version_by rule version ≡ One → version ≡ One
one_under_rule (Carry conclusion) version one = absurd (not_one one)
one_under_rule (MateLeaf own rank) version one = (both_one own version one).1
one_under_rule (EscapeLeaf own) version one = (both_one own version one).1
one_under_rule rule version one = one

each_one : (notes : Derivations) (note : Derivation) → version_under notes ≡ One → Contains (listed notes) note → version_in note ≡ One
each_one none_under note one c = absurd (let inside = c.1 in omega (arith, inside))
each_one (one_under first rest) note one (zero, inside, e) = ap version_in (sym e) ∙ (both_one (version_in first) (version_under rest) one).0
each_one (one_under first rest) note one (suc k, inside, e) =
    each_one rest note (both_one (version_in first) (version_under rest) one).1 (k, omega (arith, inside), e)

pub one_below : (note next : Derivation) → version_in note ≡ One → Contains (under_of note) next → version_in next ≡ One
one_below (derived s notes) next one c = each_one notes next (one_under_rule s.rule (version_under notes) one) c

pub one_source : (note : Derivation) → version_in note ≡ One → version_in (source_of note) ≡ One
one_source note one = ap version_in (own_source note (own_in_one note one)) ∙ one

holds_two : (conclusion : Conclusion) (attacker : Side) (from to : Board) → CarriesTo conclusion attacker from to → HoldsOf Two conclusion attacker from to
holds_two Mate attacker from to h = h
holds_two Escape attacker from to h = h

holds_itself : (version : Version) (conclusion : Conclusion) (attacker : Side) (b : Board) → HoldsOf version conclusion attacker b b
holds_itself version Mate attacker b = covers_itself version attacker b
holds_itself version Escape attacker b = covers_itself version attacker b

holds_from : (version : Version) (conclusion : Conclusion) (attacker : Side) (note : Derivation) → IsSource note (source_of note)
    → (version ≡ One → version_in note ≡ One) → conclusion_of note ≡ conclusion → attacker_of note ≡ attacker
    → HoldsOf version conclusion attacker (position_of (source_of note)) (position_of note)
holds_from One conclusion attacker note source fits concludes attacks =
    subst (λ (n : Derivation). HoldsOf One conclusion attacker (position_of n) (position_of note)) (sym (own_source note (own_in_one note (fits refl))))
    (holds_itself One conclusion attacker (position_of note))
holds_from Two conclusion attacker note source fits concludes attacks =
    holds_two conclusion attacker (position_of (source_of note)) (position_of note)
    (subst (λ (side : Side). CarriesTo conclusion side (position_of (source_of note)) (position_of note)) attacks
    (subst (λ (c : Conclusion). CarriesTo c (attacker_of note) (position_of (source_of note)) (position_of note)) concludes source.carries))

-- what a note says of a position, its source serves for
pub says_serves : (version : Version) (conclusion : Conclusion) (attacker : Side) (b : Board) (note : Derivation) → IsValid note
    → (version ≡ One → version_in note ≡ One) → Says conclusion attacker b note → Serves version conclusion attacker b (source_of note)
says_serves version conclusion attacker b note valid fits says =
    let source = source_known note valid in
    record {
      own = source.own;
      concludes = source.concludes ∙ says.concludes;
      same_attacker = source.same_attacker ∙ says.same_attacker;
      holds = subst (HoldsOf version conclusion attacker (position_of (source_of note))) says.about
          (holds_from version conclusion attacker note source fits says.concludes says.same_attacker);
      fits = λ one. one_source note (fits one);
    }

-- 5. Two steps under a note

-- a note two steps under another is the source of one under the source of one under it
pub record IsTwoUnder (note n : Derivation) : Type 0 where
  pub between : Derivation
  pub above : Contains (under_of note) between
  pub last : Derivation
  pub below : Contains (under_of (source_of between)) last
  pub is : source_of last ≡ n

pub from_two : (note n : Derivation) → Contains (two_under note) n → IsTwoUnder note n
from_two note n c =
    let from = from_flat next_under (under_of note) n c in
    let found = from_map source_of (under_of (source_of from.0)) from.2.0 n (at_place (next_under from.0) n from.2) in
    record {
      between = from.0;
      above = from.1;
      last = found.0;
      below = contained (under_of (source_of from.0)) from.2.0 found.0 found.1;
      is = found.2;
    }

pub in_two : (note between last : Derivation) → Contains (under_of note) between → Contains (under_of (source_of between)) last
    → Contains (two_under note) (source_of last)
in_two note between last above below =
    in_flat next_under (under_of note) between (source_of last) above (contains_map source_of (under_of (source_of between)) last below)

-- 6. How many steps these have

sources_weight : (notes : List Derivation) → weight (map source_of notes) ≤ weight notes
sources_weight [] = omega arith
sources_weight (note ∷ notes) = let one = source_lighter note in let more = sources_weight notes in omega (arith, one, more)

next_weight : (note : Derivation) → weight (next_under note) ≤ steps_of note
next_weight note =
    let all = sources_weight (under_of (source_of note)) in
    let one = source_lighter note in
    omega (arith, all, one, weight-under (source_of note))

flat_weight : (notes : List Derivation) → weight (flat_map next_under notes) ≤ weight notes
flat_weight [] = omega arith
flat_weight (note ∷ notes) = omega (arith, weight-append (next_under note) (flat_map next_under notes), next_weight note, flat_weight notes)

two_lighter : (note : Derivation) → weight (two_under note) < steps_of note
two_lighter note = omega (arith, flat_weight (under_of note), weight-under note)

-- where a note gives way to those two steps under it, the weight falls
pub lighter : (rest : List Derivation) (note : Derivation) → weight (rest ++ reverse (two_under note)) < weight (rest ++ note ∷ [])
lighter rest note =
    omega (arith, weight-append rest (reverse (two_under note)), weight-append rest (note ∷ []), weight-reverse (two_under note), two_lighter note)
