-- What valid notes say is true.
use Rattle.std.proofs.Common.{◌≡◌, ◌≢◌, ◌<◌, ◌≤◌, ◌+◌, ◌*◌, ◌⊎◌, inl, inr, ℕ, zero, suc, max, List, [], ◌∷◌, length, Contains, arith, refl, sym, ◌∙◌, ap, subst}
use Rattle.std.specs.Prelude.{nat_eq}
use Rattle.std.specs.Cmp.Lexicographic.{pointwise, bytes_decides}
use Rattle.std.proofs.lemmas.Bool.{cases_Bool}
use Rattle.std.proofs.lemmas.Option.{slice_get-get_or}
use Rattle.board_laws.proofs.Sides.{other_apart}
use Rattle.bit_boards.specs.declared.piece.Side.{Side}
use Rattle.bit_boards.specs.Kind.{other}
use Rattle.board_core.specs.declared.keys.Key.{Key}
use Rattle.board_core.specs.declared.moves.Move.{Move}
use Rattle.board_core.specs.Board.{Board}
use Rattle.board_core.specs.Kept.{IsKept}
use Rattle.board_core.specs.Key.{key_of}
use Rattle.list_laws.proofs.Standing.{at_place, contained, first_of}
use Rattle.shogi_rules.specs.Rules.{after}
use Rattle.shogi_rules.proofs.Offered.{after_check, after_evasion}
use Rattle.mate_def.specs.Mate.{RankAtMost, RankGrows, IsMatedWithin, Escapes, EscapesInto, EscapesIntoMore, EscapesJoined, CanEvadeTo}
use Rattle.hand_dominance.specs.Dominance.{MatesCarryUp, MatedCarryUp, EscapesCarryDown, EvasionsCarryDown}
use Rattle.hand_dominance.specs.declared.version.Version.{Version}
use Rattle.hand_dominance.specs.BorneOut.{CoversStays, IsCovered, RanksWhereCovered, EscapesWhereCovered}
use Rattle.notes.specs.declared.rule.Rule.{Rule}
use Rattle.notes.specs.declared.rule.Rule.TheVariants.{MateEnd, MateAll, MateBy, EscapeEnd, EscapeBy, EscapeRepeat, EscapeAll, Carry, MateLeaf, EscapeLeaf}
use Rattle.notes.specs.declared.rule.Conclusion.{Conclusion}
use Rattle.notes.specs.declared.rule.Conclusion.TheVariants.{Mate, Escape}
use Rattle.notes.specs.Derivation.{Step, Derivation, Derivations, derived, none_under, one_under, listed, rule_of, attacker_of, position_of, tag_of, height_of, conclusion_of, concluded, height_by, highest}
use Rattle.notes.specs.Valid.{Says, SayEach, CarriesTo, IsStep, IsValid, AreValid, meets}
use Rattle.notes.specs.Truth.{StandFor, IsTrueMate, IsTrueMated, IsTrueEscape, IsTrueEvading, NotesAreTrue}

-- 1. Sides

-- who is to move where a rule is met: either, where a note is carried
abbrev IsTurn : Rule → Side → Side → Type 0
IsTurn MateEnd turn attacker = turn ≡ other attacker
IsTurn MateAll turn attacker = turn ≡ other attacker
IsTurn (MateBy check) turn attacker = turn ≡ attacker
IsTurn EscapeEnd turn attacker = turn ≡ attacker
IsTurn (EscapeBy evasion) turn attacker = turn ≡ other attacker
IsTurn (EscapeRepeat evasion) turn attacker = turn ≡ other attacker
IsTurn EscapeAll turn attacker = turn ≡ attacker
IsTurn (Carry conclusion) turn attacker = Unit {0}
IsTurn (MateLeaf version rank) turn attacker = turn ≡ attacker
IsTurn (EscapeLeaf version) turn attacker = turn ≡ attacker

turn_met : (rule : Rule) (s : Step) (notes : List Derivation) → meets rule s notes → IsTurn rule s.position.side s.attacker
turn_met MateEnd s notes m = m.0.turn
turn_met MateAll s notes m = let one = first_of m.0.evasions m.0.some in (m.0.lists.sound one.0 one.1).mover
turn_met (MateBy check) s notes m = m.0.mover
turn_met EscapeEnd s notes m = m.0.turn
turn_met (EscapeBy evasion) s notes m = m.0.mover
turn_met (EscapeRepeat evasion) s notes m = m.0.mover
turn_met EscapeAll s notes m = let one = first_of m.0.checks m.0.some in (m.0.lists.sound one.0 one.1).mover
turn_met (Carry conclusion) s notes m = tt
turn_met (MateLeaf version rank) s notes m =
    let one = m.0.listed in
    ap (λ (b : Board). b.side) (sym one.same) ∙ (m.0.are.problems one.entry one.listed).turn
turn_met (EscapeLeaf version) s notes m = (m.0.are.problems s.position m.0.listed).turn

-- 2. What a note by a rule says, and what that is by its conclusion and the side to move

-- what a carried note says, whoever is to move
record IsTrueCarried (conclusion : Conclusion) (turn attacker : Side) (note : Derivation) : Type 0 where
  pub mate : conclusion ≡ Mate → turn ≡ attacker → IsTrueMate note
  pub mated : conclusion ≡ Mate → turn ≡ other attacker → IsTrueMated note
  pub escape : conclusion ≡ Escape → turn ≡ attacker → IsTrueEscape note
  pub evading : conclusion ≡ Escape → turn ≡ other attacker → IsTrueEvading note

abbrev true_by : Rule → Side → Side → Derivation → Type 0
true_by MateEnd turn attacker note = IsTrueMated note
true_by MateAll turn attacker note = IsTrueMated note
true_by (MateBy check) turn attacker note = IsTrueMate note
true_by EscapeEnd turn attacker note = IsTrueEscape note
true_by (EscapeBy evasion) turn attacker note = IsTrueEvading note
true_by (EscapeRepeat evasion) turn attacker note = IsTrueEvading note
true_by EscapeAll turn attacker note = IsTrueEscape note
true_by (Carry conclusion) turn attacker note = IsTrueCarried conclusion turn attacker note
true_by (MateLeaf version rank) turn attacker note = IsTrueMate note
true_by (EscapeLeaf version) turn attacker note = IsTrueEscape note

mate_by_rule : (rule : Rule) (note : Derivation) (turn attacker : Side) → IsTurn rule turn attacker → true_by rule turn attacker note → concluded rule ≡ Mate
    → turn ≡ attacker → IsTrueMate note
mate_by_rule MateEnd note turn attacker met says is at = absurd (other_apart attacker (sym met ∙ at))
mate_by_rule MateAll note turn attacker met says is at = absurd (other_apart attacker (sym met ∙ at))
mate_by_rule (MateBy check) note turn attacker met says is at = says
mate_by_rule EscapeEnd note turn attacker met says is at = absurd (cc)
mate_by_rule (EscapeBy evasion) note turn attacker met says is at = absurd (cc)
mate_by_rule (EscapeRepeat evasion) note turn attacker met says is at = absurd (cc)
mate_by_rule EscapeAll note turn attacker met says is at = absurd (cc)
mate_by_rule (Carry conclusion) note turn attacker met says is at = says.mate is at
mate_by_rule (MateLeaf version rank) note turn attacker met says is at = says
mate_by_rule (EscapeLeaf version) note turn attacker met says is at = absurd (cc)

mated_by_rule : (rule : Rule) (note : Derivation) (turn attacker : Side) → IsTurn rule turn attacker → true_by rule turn attacker note → concluded rule ≡ Mate
    → turn ≡ other attacker → IsTrueMated note
mated_by_rule MateEnd note turn attacker met says is at = says
mated_by_rule MateAll note turn attacker met says is at = says
mated_by_rule (MateBy check) note turn attacker met says is at = absurd (other_apart attacker (sym at ∙ met))
mated_by_rule EscapeEnd note turn attacker met says is at = absurd (cc)
mated_by_rule (EscapeBy evasion) note turn attacker met says is at = absurd (cc)
mated_by_rule (EscapeRepeat evasion) note turn attacker met says is at = absurd (cc)
mated_by_rule EscapeAll note turn attacker met says is at = absurd (cc)
mated_by_rule (Carry conclusion) note turn attacker met says is at = says.mated is at
mated_by_rule (MateLeaf version rank) note turn attacker met says is at = absurd (other_apart attacker (sym at ∙ met))
mated_by_rule (EscapeLeaf version) note turn attacker met says is at = absurd (cc)

escape_by_rule : (rule : Rule) (note : Derivation) (turn attacker : Side) → IsTurn rule turn attacker → true_by rule turn attacker note → concluded rule ≡ Escape
    → turn ≡ attacker → IsTrueEscape note
escape_by_rule MateEnd note turn attacker met says is at = absurd (cc)
escape_by_rule MateAll note turn attacker met says is at = absurd (cc)
escape_by_rule (MateBy check) note turn attacker met says is at = absurd (cc)
escape_by_rule EscapeEnd note turn attacker met says is at = says
escape_by_rule (EscapeBy evasion) note turn attacker met says is at = absurd (other_apart attacker (sym met ∙ at))
escape_by_rule (EscapeRepeat evasion) note turn attacker met says is at = absurd (other_apart attacker (sym met ∙ at))
escape_by_rule EscapeAll note turn attacker met says is at = says
escape_by_rule (Carry conclusion) note turn attacker met says is at = says.escape is at
escape_by_rule (MateLeaf version rank) note turn attacker met says is at = absurd (cc)
escape_by_rule (EscapeLeaf version) note turn attacker met says is at = says

evading_by_rule : (rule : Rule) (note : Derivation) (turn attacker : Side) → IsTurn rule turn attacker → true_by rule turn attacker note → concluded rule ≡ Escape
    → turn ≡ other attacker → IsTrueEvading note
evading_by_rule MateEnd note turn attacker met says is at = absurd (cc)
evading_by_rule MateAll note turn attacker met says is at = absurd (cc)
evading_by_rule (MateBy check) note turn attacker met says is at = absurd (cc)
evading_by_rule EscapeEnd note turn attacker met says is at = absurd (other_apart attacker (sym at ∙ met))
evading_by_rule (EscapeBy evasion) note turn attacker met says is at = says
evading_by_rule (EscapeRepeat evasion) note turn attacker met says is at = says
evading_by_rule EscapeAll note turn attacker met says is at = absurd (other_apart attacker (sym at ∙ met))
evading_by_rule (Carry conclusion) note turn attacker met says is at = says.evading is at
evading_by_rule (MateLeaf version rank) note turn attacker met says is at = absurd (cc)
evading_by_rule (EscapeLeaf version) note turn attacker met says is at = absurd (other_apart attacker (sym at ∙ met))

-- a valid note of which is known what its rule says
abbrev Known : Derivation → Type 0
Known note = IsTurn (rule_of note) (position_of note).side (attacker_of note) × true_by (rule_of note) (position_of note).side (attacker_of note) note
    × IsKept (position_of note)

known_mate : (note : Derivation) → Known note → conclusion_of note ≡ Mate → (position_of note).side ≡ attacker_of note → IsTrueMate note
known_mate note k is at = mate_by_rule (rule_of note) note (position_of note).side (attacker_of note) k.0 k.1 is at

known_mated : (note : Derivation) → Known note → conclusion_of note ≡ Mate → (position_of note).side ≡ other (attacker_of note) → IsTrueMated note
known_mated note k is at = mated_by_rule (rule_of note) note (position_of note).side (attacker_of note) k.0 k.1 is at

known_escape : (note : Derivation) → Known note → conclusion_of note ≡ Escape → (position_of note).side ≡ attacker_of note → IsTrueEscape note
known_escape note k is at = escape_by_rule (rule_of note) note (position_of note).side (attacker_of note) k.0 k.1 is at

known_evading : (note : Derivation) → Known note → conclusion_of note ≡ Escape → (position_of note).side ≡ other (attacker_of note) → IsTrueEvading note
known_evading note k is at = evading_by_rule (rule_of note) note (position_of note).side (attacker_of note) k.0 k.1 is at

-- 3. The note under a step after a move

-- a mate after an evasion
mate_after : (attacker : Side) (q : Board) (note : Derivation) → Known note → Says Mate attacker q note → q.side ≡ attacker
    → (n : ℕ) × (height_of note ≡ 2 * n) × RankAtMost attacker n q
mate_after attacker q note k says at =
    let own = known_mate note k says.concludes (ap (λ (b : Board). b.side) says.about ∙ (at ∙ sym says.same_attacker)) in
    (own.0, own.1, subst (λ (b : Board). RankAtMost attacker own.0 b) says.about (subst (λ (side : Side). RankAtMost side own.0 (position_of note)) says.same_attacker own.2))

-- a mate after a check
mated_after : (attacker : Side) (q : Board) (note : Derivation) → Known note → Says Mate attacker q note → q.side ≡ other attacker
    → (n : ℕ) × (height_of note ≡ 2 * n + 1) × IsMatedWithin attacker n q
mated_after attacker q note k says at =
    let own = known_mated note k says.concludes (ap (λ (b : Board). b.side) says.about ∙ (at ∙ ap other (sym says.same_attacker))) in
    (own.0, own.1, subst (λ (b : Board). IsMatedWithin attacker own.0 b) says.about (subst (λ (side : Side). IsMatedWithin side own.0 (position_of note)) says.same_attacker own.2))

-- an escape after an evasion
escape_after : (attacker : Side) (q : Board) (note : Derivation) → Known note → Says Escape attacker q note → q.side ≡ attacker
    → (t : List Board) → StandFor (tag_of note) t → EscapesInto attacker q t
escape_after attacker q note k says at t stand =
    let own = known_escape note k says.concludes (ap (λ (b : Board). b.side) says.about ∙ (at ∙ sym says.same_attacker)) t stand in
    subst (λ (b : Board). EscapesInto attacker b t) says.about (subst (λ (side : Side). EscapesInto side (position_of note) t) says.same_attacker own)

-- an escape after a check
evading_after : (attacker : Side) (q : Board) (note : Derivation) → Known note → Says Escape attacker q note → q.side ≡ other attacker
    → (t : List Board) → StandFor (tag_of note) t → CanEvadeTo attacker (λ p. Contains t p ⊎ EscapesInto attacker p t) q
evading_after attacker q note k says at t stand =
    let own = known_evading note k says.concludes (ap (λ (b : Board). b.side) says.about ∙ (at ∙ ap other (sym says.same_attacker))) t stand in
    subst (λ (b : Board). CanEvadeTo attacker (λ p. Contains t p ⊎ EscapesInto attacker p t) b) says.about
    (subst (λ (side : Side). CanEvadeTo side (λ p. Contains t p ⊎ EscapesInto side p t) (position_of note)) says.same_attacker own)

-- the note after a move of a list
pub note_after : (conclusion : Conclusion) (attacker : Side) (b : Board) (listed_moves : List Move) (notes : List Derivation) (move : Move)
    → SayEach conclusion attacker b listed_moves notes → Contains listed_moves move
    → (note : Derivation) × Contains notes note × Says conclusion attacker (after b move) note
note_after conclusion attacker b [] notes move say c = absurd (let inside = c.1 in omega (arith, inside))
note_after conclusion attacker b (first ∷ rest) [] move say c = absurd (let many = say.as_many in omega (arith, many))
note_after conclusion attacker b (first ∷ rest) (note ∷ notes) move say c =
    let inside : c.0 < length (note ∷ notes) = let many = say.as_many in let within = c.1 in omega (arith, many, within) in
    let there = slice_get-get_or (note ∷ notes) c.0 note inside in
    (_, contained (note ∷ notes) c.0 _ there, say.each c.0 move _ (at_place (first ∷ rest) move c) there)

-- 4. Heights

pub height_le : (notes : List Derivation) (note : Derivation) → Contains notes note → height_of note ≤ highest notes
height_le [] note c = absurd (let inside = c.1 in omega (arith, inside))
height_le (first ∷ notes) note (zero, inside, e) = let same : height_of first ≡ height_of note = ap height_of e in omega (arith, same)
height_le (first ∷ notes) note (suc k, inside, e) = let up = height_le notes note (k, omega (arith, inside), e) in omega (arith, up)

-- where all heights are even, so is the greatest
even_highest : (notes : List Derivation) → ((note : Derivation) → Contains notes note → (n : ℕ) × (height_of note ≡ 2 * n)) → (n : ℕ) × (highest notes ≡ 2 * n)
even_highest [] all = (0, refl)
even_highest (first ∷ notes) all =
    let one = all first (zero, omega arith, refl) in
    let rest = even_highest notes (λ note c. all note (suc c.0, (let inside = c.1 in omega (arith, inside)), c.2)) in
    let same = one.1 in let more = rest.1 in
    (max one.0 rest.0, omega (arith, same, more))

-- 5. What is said of tags

-- where they stand for a joined tag, they stand with the position for each of the tags
stand_with : (b : Board) (tag one : List Key) (t : List Board) → IsKept b
    → ((key : Key) → Contains one key → key.0 ≢ key_of b → Contains tag key) → StandFor tag t → StandFor one (b ∷ t)
stand_with b tag one t kept join stand key c = elim (cases_Bool (pointwise nat_eq key.0 (key_of b))) [
  | inl same ↦ (b, (zero, omega arith, refl), kept, (bytes_decides key.0 (key_of b)).0 same)
  | inr differs ↦
      let other_key : key.0 ≢ key_of b = λ e. absurd (let same = (bytes_decides key.0 (key_of b)).1 e in cc) in
      let found = stand key (join key c other_key) in
      (found.0, (suc found.1.0, (let inside = found.1.1 in omega (arith, inside)), found.1.2), found.2, found.3)
]

-- 6. Each rule

module _ (grows : RankGrows) (joins : EscapesJoined) (into : EscapesIntoMore) (mates : MatesCarryUp) (mated : MatedCarryUp) (escapes : EscapesCarryDown)
    (evasions : EvasionsCarryDown) (stays : CoversStays) (ranks : RanksWhereCovered) (covering : EscapesWhereCovered) where
  mate_all_true : (s : Step) (ds : Derivations) → ((note : Derivation) → Contains (listed ds) note → Known note) → s.height ≡ highest (listed ds) + 1
      → meets MateAll s (listed ds) → IsTrueMated (derived s ds)
  mate_all_true s ds known high m =
      let all = m.0 in
      let back : (note : Derivation) → Contains (listed ds) note → (n : ℕ) × (height_of note ≡ 2 * n) =
      λ note c.
      let k = c.0 in
      let many = all.mates.as_many in
      let inside : k < length all.evasions = let within = c.1 in omega (arith, many, within) in
      let one = first_of all.evasions all.some in
      let move = slice_get-get_or all.evasions k one.0 inside in
      let says = all.mates.each k _ note move (at_place (listed ds) note c) in
      let is = all.lists.sound _ (contained all.evasions k _ move) in
      let found = mate_after s.attacker _ note (known note c) says (after_evasion s.attacker s.position _ is) in
      (found.0, found.1) in
      let top = even_highest (listed ds) back in
      let even = top.1 in (
        top.0,
        (omega (arith, high, even)),
        λ evasion is.
            let found = note_after Mate s.attacker s.position all.evasions (listed ds) evasion all.mates (all.lists.complete evasion is) in
            let mate = mate_after s.attacker _ found.0 (known found.0 found.1) found.2 (after_evasion s.attacker s.position evasion is) in
            let low = height_le (listed ds) found.0 found.1 in let same = mate.1 in
            grows s.attacker mate.0 top.0 (after s.position evasion) (omega (arith, low, same, even)) mate.2,
      )

  mate_by_true : (s : Step) (ds : Derivations) (check : Move) → ((note : Derivation) → Contains (listed ds) note → Known note)
      → s.height ≡ highest (listed ds) + 1 → meets (MateBy check) s (listed ds) → IsTrueMate (derived s ds)
  mate_by_true s ds check known high m =
      let one = m.1 in
      let member : Contains (listed ds) one.note = subst (λ (notes : List Derivation). Contains notes one.note) (sym one.alone) (zero, omega arith, refl) in
      let found = mated_after s.attacker _ one.note (known one.note member) one.says (after_check s.attacker s.position check m.0) in
      let top : highest (listed ds) ≡ highest (one.note ∷ []) = ap highest one.alone in
      let same = found.1 in
      (suc found.0, omega (arith, high, same, top), (check, m.0, λ evasion is. found.2 evasion is))

  escape_end_true : (s : Step) (ds : Derivations) → meets EscapeEnd s (listed ds) → IsTrueEscape (derived s ds)
  escape_end_true s ds m t stand = joins s.attacker s.position [] t m.0.turn (λ check is. absurd (m.0.no_check check is)) (λ check c. absurd (let inside = c.1 in omega (arith, inside)))

  escape_all_true : (s : Step) (ds : Derivations) → ((note : Derivation) → Contains (listed ds) note → Known note) → IsStep s (listed ds)
      → meets EscapeAll s (listed ds) → IsTrueEscape (derived s ds)
  escape_all_true s ds known step m t stand =
      let all = m.0 in
      let one = first_of all.checks all.some in
      joins s.attacker s.position all.checks t (all.lists.sound one.0 one.1).mover (λ check is. all.lists.complete check is) (λ check c.
      let is = all.lists.sound check c in
      let found = note_after Escape s.attacker s.position all.checks (listed ds) check all.escapes c in
      let way = evading_after s.attacker _ found.0 (known found.0 found.1) found.2 (after_check s.attacker s.position check is) (s.position ∷ t)
      (stand_with s.position s.tag (tag_of found.0) t step.kept (λ key held differs. (m.1 key).1 ((found.0, found.1, held), differs)) stand) in
      record { evasion = way.evasion; is_evasion = way.is_evasion; leads = way.leads })

  escape_by_true : (s : Step) (ds : Derivations) (evasion : Move) → ((note : Derivation) → Contains (listed ds) note → Known note)
      → meets (EscapeBy evasion) s (listed ds) → IsTrueEvading (derived s ds)
  escape_by_true s ds evasion known m t stand =
      let one = m.1.0 in
      let member : Contains (listed ds) one.note = subst (λ (notes : List Derivation). Contains notes one.note) (sym one.alone) (zero, omega arith, refl) in
      let found = escape_after s.attacker _ one.note (known one.note member) one.says (after_evasion s.attacker s.position evasion m.0) t
      (subst (λ (tag : List Key). StandFor tag t) m.1.1 stand) in
      record { evasion = evasion; is_evasion = m.0; leads = inr found }

  escape_repeat_true : (s : Step) (ds : Derivations) (evasion : Move) → meets (EscapeRepeat evasion) s (listed ds) → IsTrueEvading (derived s ds)
  escape_repeat_true s ds evasion m t stand =
      let one = m.2 in
      let found = stand one.key (subst (λ (tag : List Key). Contains tag one.key) (sym one.alone) (zero, omega arith, refl)) in
      let same : found.0 ≡ after s.position evasion = one.of_no_other found.0 found.2 (sym found.3) in
      record { evasion = evasion; is_evasion = m.0; leads = inl (subst (λ (q : Board). Contains t q) same found.1) }

  -- a leaf: it is as high as its rank says, and the position is borne out by the others
  mate_leaf_true : (s : Step) (ds : Derivations) (version : Version) (rank : ℕ) → IsKept s.position → s.height ≡ 2 * rank
      → meets (MateLeaf version rank) s (listed ds) → IsTrueMate (derived s ds)
  mate_leaf_true s ds version rank kept high m =
      let one = m.0.listed in
      let covers = stays version s.attacker s.position one.entry.at (sym one.same) in
      let within = ranks version s.attacker m.0.entries one.entry s.position m.0.are.borne_out one.listed kept covers in
      (rank, high, subst (λ (n : ℕ). RankAtMost s.attacker n s.position) one.has_rank within)

  escape_leaf_true : (s : Step) (ds : Derivations) (version : Version) → IsKept s.position → meets (EscapeLeaf version) s (listed ds)
      → IsTrueEscape (derived s ds)
  escape_leaf_true s ds version kept m t stand =
      let covered : IsCovered version m.0.positions s.attacker s.position =
      record { listed = s.position; inside = m.0.listed; covers = stays version s.attacker s.position s.position refl } in
      let escaped = covering version s.attacker m.0.positions s.position m.0.are.kept m.0.are.closed kept covered in
      into s.attacker s.position [] t (λ p c. absurd (let inside = c.1 in omega (arith, inside))) escaped

  -- the note that a step carries: it is as high, and where it concludes this it carries over
  module _ (s : Step) (ds : Derivations) (conclusion : Conclusion) (known : (note : Derivation) → Contains (listed ds) note → Known note) (kept : IsKept s.position)
      (high : s.height ≡ highest (listed ds)) (m : meets (Carry conclusion) s (listed ds)) where
    abbrev one : Derivation
    one = m.0.note

    one_known : Known one
    one_known = known one (subst (λ (notes : List Derivation). Contains notes one) (sym m.0.alone) (zero, omega arith, refl))

    one_high : s.height ≡ height_of one
    one_high = let top : highest (listed ds) ≡ highest (one ∷ []) = ap highest m.0.alone in omega (arith, high, top)

    holds : (c : Conclusion) → conclusion ≡ c → CarriesTo c s.attacker (position_of one) s.position
    holds c is = subst (λ (it : Conclusion). CarriesTo it s.attacker (position_of one) s.position) (m.0.concludes ∙ is) m.0.may.holds

    none_stand : StandFor (tag_of one) []
    none_stand key held = absurd (let gone = subst (λ (keys : List Key). Contains keys key) m.0.may.closed held in let inside = gone.1 in omega (arith, inside))

    into_any : (q : Board) (t : List Board) → Escapes s.attacker q → EscapesInto s.attacker q t
    into_any q t escaped = into s.attacker q [] t (λ p c. absurd (let inside = c.1 in omega (arith, inside))) escaped

    carried_mate : conclusion ≡ Mate → s.position.side ≡ s.attacker → IsTrueMate (derived s ds)
    carried_mate is at =
        let d = holds Mate is in
        let own = known_mate one one_known (m.0.concludes ∙ is) (sym d.turn ∙ (at ∙ sym m.0.may.same_attacker)) in
        let same = own.1 in (
          own.0,
          omega (arith, one_high, same),
          mates own.0 s.attacker s.position (position_of one) kept one_known.2 d
              (subst (λ (side : Side). RankAtMost side own.0 (position_of one)) m.0.may.same_attacker own.2),
        )

    carried_mated : conclusion ≡ Mate → s.position.side ≡ other s.attacker → IsTrueMated (derived s ds)
    carried_mated is at =
        let d = holds Mate is in
        let own = known_mated one one_known (m.0.concludes ∙ is) (sym d.turn ∙ (at ∙ ap other (sym m.0.may.same_attacker))) in
        let same = own.1 in (
          own.0,
          omega (arith, one_high, same),
          mated own.0 s.attacker s.position (position_of one) kept one_known.2 d
              (subst (λ (side : Side). IsMatedWithin side own.0 (position_of one)) m.0.may.same_attacker own.2),
        )

    carried_escape : conclusion ≡ Escape → s.position.side ≡ s.attacker → IsTrueEscape (derived s ds)
    carried_escape is at t stand =
        let d = holds Escape is in
        let own = known_escape one one_known (m.0.concludes ∙ is) (d.turn ∙ (at ∙ sym m.0.may.same_attacker)) [] none_stand in
        into_any s.position t (escapes s.attacker (position_of one) s.position one_known.2 kept d
        (subst (λ (side : Side). Escapes side (position_of one)) m.0.may.same_attacker own))

    carried_evading : conclusion ≡ Escape → s.position.side ≡ other s.attacker → IsTrueEvading (derived s ds)
    carried_evading is at t stand =
        let d = holds Escape is in
        let own = known_evading one one_known (m.0.concludes ∙ is) (d.turn ∙ (at ∙ ap other (sym m.0.may.same_attacker))) [] none_stand in
        let its = subst (λ (side : Side). CanEvadeTo side (λ q. Contains [] q ⊎ EscapesInto side q []) (position_of one)) m.0.may.same_attacker own in
        let free : CanEvadeTo s.attacker (Escapes s.attacker) (position_of one) = record {
          evasion = its.evasion;
          is_evasion = its.is_evasion;
          leads = elim its.leads [ inl c ↦ absurd (let inside = c.1 in omega (arith, inside)) | inr e ↦ e ];
        } in
        let way = evasions s.attacker (position_of one) s.position one_known.2 kept d free in
        record { evasion = way.evasion; is_evasion = way.is_evasion; leads = inr (into_any (after s.position way.evasion) t way.leads) }

    carried_true : IsTrueCarried conclusion s.position.side s.attacker (derived s ds)
    carried_true = record { mate = carried_mate; mated = carried_mated; escape = carried_escape; evading = carried_evading }

  true_step : (rule : Rule) (s : Step) (ds : Derivations) → ((note : Derivation) → Contains (listed ds) note → Known note) → IsStep s (listed ds)
      → s.height ≡ height_by rule (listed ds) → meets rule s (listed ds) → true_by rule s.position.side s.attacker (derived s ds)
  true_step MateEnd s ds known step high m =
      let none : highest (listed ds) ≡ 0 = ap highest m.1 in
      (0, omega (arith, high, none), λ evasion is. absurd (m.0.no_evasion evasion is))
  true_step MateAll s ds known step high m = mate_all_true s ds known high m
  true_step (MateBy check) s ds known step high m = mate_by_true s ds check known high m
  true_step EscapeEnd s ds known step high m = escape_end_true s ds m
  true_step (EscapeBy evasion) s ds known step high m = escape_by_true s ds evasion known m
  true_step (EscapeRepeat evasion) s ds known step high m = escape_repeat_true s ds evasion m
  true_step EscapeAll s ds known step high m = escape_all_true s ds known step m
  true_step (Carry conclusion) s ds known step high m = carried_true s ds conclusion known step.kept high m
  true_step (MateLeaf version rank) s ds known step high m = mate_leaf_true s ds version rank step.kept high m
  true_step (EscapeLeaf version) s ds known step high m = escape_leaf_true s ds version step.kept m

  mutual
    known_note : (note : Derivation) → IsValid note → Known note
    known_note (derived s ds) v =
        (turn_met s.rule s (listed ds) v.1.rule, true_step s.rule s ds (known_under ds v.0) v.1 v.1.height v.1.rule, v.1.kept)

    known_under : (ds : Derivations) → AreValid ds → (note : Derivation) → Contains (listed ds) note → Known note
    known_under none_under v note c = absurd (let inside = c.1 in omega (arith, inside))
    known_under (one_under first ds) v note (zero, inside, e) = subst Known e (known_note first v.0)
    known_under (one_under first ds) v note (suc k, inside, e) = known_under ds v.1 note (k, omega (arith, inside), e)

-- 7. Tags

untagged_by : (rule : Rule) (s : Step) (notes : List Derivation) → meets rule s notes → concluded rule ≡ Mate → s.tag ≡ []
untagged_by MateEnd s notes m is = m.2
untagged_by MateAll s notes m is = m.1
untagged_by (MateBy check) s notes m is = m.2
untagged_by EscapeEnd s notes m is = absurd (cc)
untagged_by (EscapeBy evasion) s notes m is = absurd (cc)
untagged_by (EscapeRepeat evasion) s notes m is = absurd (cc)
untagged_by EscapeAll s notes m is = absurd (cc)
untagged_by (Carry conclusion) s notes m is = m.1
untagged_by (MateLeaf version rank) s notes m is = m.2
untagged_by (EscapeLeaf version) s notes m is = absurd (cc)

mate_untagged : (note : Derivation) → IsValid note → conclusion_of note ≡ Mate → tag_of note ≡ []
mate_untagged (derived s ds) v is = untagged_by s.rule s (listed ds) v.1.rule is

-- the one element of a list of one
only : {X : Type 0} (x y : X) → Contains (x ∷ []) y → x ≡ y
only x y (zero, inside, e) = e
only x y (suc k, inside, e) = absurd (omega (arith, inside))

-- each key of a tag is that of a position
abbrev AreKeys : List Key → Type 0
AreKeys tag = (key : Key) → Contains tag key → (q : Board) × IsKept q × (key.0 ≡ key_of q)

no_keys : (tag : List Key) → tag ≡ [] → AreKeys tag
no_keys tag none key c = absurd (let gone = subst (λ (keys : List Key). Contains keys key) none c in let inside = gone.1 in omega (arith, inside))

keys_by : (rule : Rule) (s : Step) (notes : List Derivation) → meets rule s notes → ((note : Derivation) → Contains notes note → AreKeys (tag_of note))
    → AreKeys s.tag
keys_by MateEnd s notes m under key c = no_keys s.tag m.2 key c
keys_by MateAll s notes m under key c = no_keys s.tag m.1 key c
keys_by (MateBy check) s notes m under key c = no_keys s.tag m.2 key c
keys_by EscapeEnd s notes m under key c = no_keys s.tag m.2 key c
keys_by (EscapeBy evasion) s notes m under key c =
    let one = m.1.0 in
    under one.note (subst (λ (all : List Derivation). Contains all one.note) (sym one.alone) (zero, omega arith, refl)) key
    (subst (λ (tag : List Key). Contains tag key) m.1.1 c)
keys_by (EscapeRepeat evasion) s notes m under key c =
    let one = m.2 in
    let alone = subst (λ (tag : List Key). Contains tag key) one.alone c in
    (after s.position evasion, one.kept, sym (ap (λ (k : Key). k.0) (only one.key key alone)) ∙ one.is_key)
keys_by EscapeAll s notes m under key c = let from = (m.1 key).0 c in under from.0.0 from.0.1 key from.0.2
keys_by (Carry conclusion) s notes m under key c = no_keys s.tag m.1 key c
keys_by (MateLeaf version rank) s notes m under key c = no_keys s.tag m.2 key c
keys_by (EscapeLeaf version) s notes m under key c = no_keys s.tag m.2 key c

mutual
  keys_of : (note : Derivation) → IsValid note → AreKeys (tag_of note)
  keys_of (derived s ds) v = keys_by s.rule s (listed ds) v.1.rule (keys_under ds v.0)

  keys_under : (ds : Derivations) → AreValid ds → (note : Derivation) → Contains (listed ds) note → AreKeys (tag_of note)
  keys_under none_under v note c = absurd (let inside = c.1 in omega (arith, inside))
  keys_under (one_under first ds) v note (zero, inside, e) = subst (λ (n : Derivation). AreKeys (tag_of n)) e (keys_of first v.0)
  keys_under (one_under first ds) v note (suc k, inside, e) = keys_under ds v.1 note (k, omega (arith, inside), e)

-- 8. All of it

pub notes_are_true : RankGrows → EscapesJoined → EscapesIntoMore → MatesCarryUp → MatedCarryUp → EscapesCarryDown → EvasionsCarryDown → CoversStays
    → RanksWhereCovered → EscapesWhereCovered → NotesAreTrue
notes_are_true grows joins into mates mated escapes evasions stays ranks covering note v =
    let k = known_note grows joins into mates mated escapes evasions stays ranks covering note v in
    record {
      mate = λ is at. known_mate note k is at;
      mated = λ is at. known_mated note k is at;
      escape = λ is at. known_escape note k is at;
      evading = λ is at. known_evading note k is at;
      untagged = λ is. mate_untagged note v is;
      escapes = λ is at none. known_escape note k is at [] (λ key held. absurd (let gone = subst (λ (keys : List Key). Contains keys key) none held in let inside = gone.1 in omega (arith, inside)));
      keys = keys_of note v;
    }

-- a right derivation's position is kept
pub valid_kept : (note : Derivation) → IsValid note → IsKept (position_of note)
valid_kept (derived step notes) valid = valid.1.kept
