-- What the rules give of the notes of a valid tree, by who is to move.
use Rattle.std.proofs.Common.{◌≡◌, ◌<◌, ◌+◌, ◌*◌, ◌⊎◌, inl, inr, ℕ, zero, suc, List, [], ◌∷◌, length, Contains, arith, refl, sym, ◌∙◌, ap, subst}
use Rattle.std.specs.Prelude.{nat_eq}
use Rattle.std.specs.Cmp.Lexicographic.{pointwise, bytes_decides}
use Rattle.std.proofs.lemmas.Bool.{cases_Bool}
use Rattle.std.proofs.lemmas.Option.{slice_get-get_or}
use Rattle.board_laws.proofs.Sides.{other_apart}
use Rattle.bit_boards.specs.declared.piece.Side.{Side}
use Rattle.bit_boards.specs.Kind.{other}
use Rattle.board_core.specs.declared.keys.Key.{Key}
use Rattle.board_core.specs.declared.moves.Move.{Move}
use Rattle.board_core.specs.Board.{Board, kings_of}
use Rattle.board_core.specs.Kept.{IsKept}
use Rattle.board_core.specs.Key.{key_of}
use Rattle.list_laws.proofs.Standing.{at_place, contained, first_of}
use Rattle.shogi_rules.specs.Rules.{after}
use Rattle.shogi_rules.specs.Tsume.{IsCheck, IsEvasion, IsProblem}
use Rattle.shogi_rules.proofs.Offered.{after_check, after_evasion}
use Rattle.mate_def.specs.Mate.{after_both, HasEvasionTo}
use Rattle.hand_dominance.specs.declared.version.Version.{Version}
use Rattle.hand_dominance.specs.declared.version.Version.TheVariants.{One, Two}
use Rattle.hand_dominance.specs.BorneOut.{Covers, IsBorneOut, IsHeld}
use Rattle.hand_dominance.proofs.Listed.{borne_out_stays, held_stays}
use Rattle.mate_facts.specs.declared.entry.MateEntry.{MateEntry}
use Rattle.notes.specs.declared.rule.Rule.{Rule}
use Rattle.notes.specs.declared.rule.Rule.TheVariants.{MateEnd, MateAll, MateBy, EscapeEnd, EscapeBy, EscapeRepeat, EscapeAll, Carry, MateLeaf, EscapeLeaf}
use Rattle.notes.specs.declared.rule.Conclusion.{Conclusion}
use Rattle.notes.specs.declared.rule.Conclusion.TheVariants.{Mate, Escape}
use Rattle.notes.specs.Derivation.{Step, Derivation, derived, listed, step_of, under_of, rule_of, attacker_of, position_of, tag_of, height_of, conclusion_of, concluded, height_by, highest, source_of, later, version_by, version_in, version_under, IsNoLeaf, IsOwn}
use Rattle.notes.specs.Valid.{Says, SayEach, IsValid, IsKeyAlone, meets}
use Rattle.notes.proofs.Offered.{note_after, height_le, valid_kept}
use Rattle.cert_extract.specs.Serving.{Serves}
use Rattle.cert_extract.specs.Tree.{IsIn, two_under}
use Rattle.cert_extract.proofs.Trees.{in_itself, under_in, valid_one}
use Rattle.cert_extract.proofs.Sources.{both_one, covers_on, covers_turn, evades, source_in, IsSource, source_known, one_below, one_source, says_serves, IsTwoUnder, from_two, in_two}

-- 1. Sides and lists

none_of : {X : Type 0} (xs : List X) (x : X) → xs ≡ [] → Contains xs x → ⊥
none_of {X} xs x none c = let gone = subst (λ (ys : List X). Contains ys x) none c in let inside = gone.1 in omega (arith, inside)

only_of : {X : Type 0} (xs : List X) (x y : X) → xs ≡ x ∷ [] → Contains xs y → x ≡ y
only_of {X} xs x y alone c = only (subst (λ (ys : List X). Contains ys y) alone c)
  where
    only : Contains (x ∷ []) y → x ≡ y
    only (zero, inside, e) = e
    only (suc k, inside, e) = absurd (omega (arith, inside))

in_alone : {X : Type 0} (xs : List X) (x : X) → xs ≡ x ∷ [] → Contains xs x
in_alone {X} xs x alone = subst (λ (ys : List X). Contains ys x) (sym alone) (zero, omega arith, refl)

-- the move of a list that leads to a note
move_of : (conclusion : Conclusion) (attacker : Side) (b : Board) (all : List Move) (notes : List Derivation) (note : Derivation)
    → SayEach conclusion attacker b all notes → Contains notes note
    → (move : Move) × Contains all move × Says conclusion attacker (after b move) note
move_of conclusion attacker b [] notes note say c = absurd (let inside = c.1 in let many = say.as_many in omega (arith, inside, many))
move_of conclusion attacker b (first ∷ rest) notes note say c =
    let inside : c.0 < length (first ∷ rest) = let many = say.as_many in let within = c.1 in omega (arith, many, within) in
    let there = slice_get-get_or (first ∷ rest) c.0 first inside in
    (_, contained (first ∷ rest) c.0 _ there, say.each c.0 _ note there (at_place notes note c))

-- the rule carries none
abbrev pub IsOwnRule : Rule → Type 0
IsOwnRule rule = (conclusion : Conclusion) → ¬ (rule ≡ Carry conclusion)

-- 2. A step of an escape

-- of the attacker's position: each check leads to a note under it; each of these is of an escape,
-- the defender's to move, and its tag has the step's keys and that of the step's position alone
record AnswersAll (s : Step) (notes : List Derivation) : Type 0 where
  pub leads : (check : Move) → IsCheck s.attacker s.position check → (d : Derivation) × Contains notes d × Says Escape s.attacker (after s.position check) d
  pub each : (d : Derivation) → Contains notes d → (q : Board) × Says Escape s.attacker q d × (q.side ≡ other s.attacker)
  pub tags : (d : Derivation) (key : Key) → Contains notes d → Contains (tag_of d) key → (key.0 ≡ key_of s.position) ⊎ Contains s.tag key

-- of the defender's: an evasion leads to the position of a note under it, or to that of the one key
-- of its tag; each note under it is of an escape, and its tag has no other keys
record Leaves (s : Step) (notes : List Derivation) : Type 0 where
  pub evasion : Move
  pub is_evasion : IsEvasion s.attacker s.position evasion
  pub leads : ((n : Derivation) × Contains notes n × (position_of n ≡ after s.position evasion)) ⊎ IsKeyAlone s.tag (after s.position evasion)
  pub each : (n : Derivation) → Contains notes n → Says Escape s.attacker (after s.position evasion) n
  pub tags : (n : Derivation) (key : Key) → Contains notes n → Contains (tag_of n) key → Contains s.tag key

same_or_not : (key : Key) (b : Board) (T : Type 0) → ((key.0 ≡ key_of b → ⊥) → T) → (key.0 ≡ key_of b) ⊎ T
same_or_not key b T else = elim (cases_Bool (pointwise nat_eq key.0 (key_of b))) [
  | inl same ↦ inl ((bytes_decides key.0 (key_of b)).0 same)
  | inr differs ↦ inr (else (λ e. absurd (let same = (bytes_decides key.0 (key_of b)).1 e in cc)))
]

-- where a leaf is met the attacker is to move
mate_leaf_turn : (version : Version) (rank : ℕ) (s : Step) (notes : List Derivation) → meets (MateLeaf version rank) s notes → s.position.side ≡ s.attacker
mate_leaf_turn version rank s notes m =
    let one = m.0.listed in
    ap (λ (b : Board). b.side) (sym one.same) ∙ (m.0.are.problems one.entry one.listed).turn

escape_leaf_turn : (version : Version) (s : Step) (notes : List Derivation) → meets (EscapeLeaf version) s notes → s.position.side ≡ s.attacker
escape_leaf_turn version s notes m = (m.0.are.problems s.position m.0.listed).turn

answers_all : (rule : Rule) (s : Step) (notes : List Derivation) → IsOwnRule rule → IsNoLeaf rule → meets rule s notes → concluded rule ≡ Escape → s.position.side ≡ s.attacker → AnswersAll s notes
answers_all MateEnd s notes own no_leaf m is at = absurd (cc)
answers_all MateAll s notes own no_leaf m is at = absurd (cc)
answers_all (MateBy check) s notes own no_leaf m is at = absurd (cc)
answers_all EscapeEnd s notes own no_leaf m is at = record {
  leads = λ check is_check. absurd (m.0.no_check check is_check);
  each = λ d c. absurd (none_of notes d m.1 c);
  tags = λ d key c held. absurd (none_of notes d m.1 c);
}
answers_all (EscapeBy evasion) s notes own no_leaf m is at = absurd (other_apart s.attacker (sym m.0.mover ∙ at))
answers_all (EscapeRepeat evasion) s notes own no_leaf m is at = absurd (other_apart s.attacker (sym m.0.mover ∙ at))
answers_all EscapeAll s notes own no_leaf m is at = record {
  leads = λ check is_check. note_after Escape s.attacker s.position m.0.checks notes check m.0.escapes (m.0.lists.complete check is_check);
  each = λ d c.
      let from = move_of Escape s.attacker s.position m.0.checks notes d m.0.escapes c in
      (after s.position from.0, from.2, after_check s.attacker s.position from.0 (m.0.lists.sound from.0 from.1));
  tags = λ d key c held. same_or_not key s.position (Contains s.tag key) (λ differs. (m.1 key).1 ((d, c, held), differs));
}
answers_all (Carry conclusion) s notes own no_leaf m is at = absurd (own conclusion refl)
answers_all (MateLeaf version rank) s notes own no_leaf m is at = absurd no_leaf
answers_all (EscapeLeaf version) s notes own no_leaf m is at = absurd no_leaf

leaves : (rule : Rule) (s : Step) (notes : List Derivation) → IsOwnRule rule → meets rule s notes → concluded rule ≡ Escape → s.position.side ≡ other s.attacker → Leaves s notes
leaves MateEnd s notes own m is at = absurd (cc)
leaves MateAll s notes own m is at = absurd (cc)
leaves (MateBy check) s notes own m is at = absurd (cc)
leaves EscapeEnd s notes own m is at = absurd (other_apart s.attacker (sym at ∙ m.0.turn))
leaves (EscapeBy evasion) s notes own m is at =
    let one = m.1.0 in
    record {
      evasion = evasion;
      is_evasion = m.0;
      leads = inl (one.note, in_alone notes one.note one.alone, one.says.about);
      each = λ n c. subst (λ (d : Derivation). Says Escape s.attacker (after s.position evasion) d) (only_of notes one.note n one.alone c) one.says;
      tags = λ n key c held.
          subst (λ (tag : List Key). Contains tag key) (sym m.1.1)
          (subst (λ (d : Derivation). Contains (tag_of d) key) (sym (only_of notes one.note n one.alone c)) held);
    }
leaves (EscapeRepeat evasion) s notes own m is at = record {
  evasion = evasion;
  is_evasion = m.0;
  leads = inr m.2;
  each = λ n c. absurd (none_of notes n m.1 c);
  tags = λ n key c held. absurd (none_of notes n m.1 c);
}
leaves EscapeAll s notes own m is at =
    let one = first_of m.0.checks m.0.some in
    absurd (other_apart s.attacker (sym at ∙ (m.0.lists.sound one.0 one.1).mover))
leaves (Carry conclusion) s notes own m is at = absurd (own conclusion refl)
leaves (MateLeaf version rank) s notes own m is at = absurd (cc)
leaves (EscapeLeaf version) s notes own m is at = absurd (other_apart s.attacker (sym at ∙ escape_leaf_turn version s notes m))

-- 3. A step of a mate

-- of the attacker's position: its check, and the note under it
record ChecksBy (rule : Rule) (s : Step) (notes : List Derivation) : Type 0 where
  pub check : Move
  pub by : rule ≡ MateBy check
  pub is_check : IsCheck s.attacker s.position check
  pub note : Derivation
  pub under : Contains notes note
  pub says : Says Mate s.attacker (after s.position check) note
  pub alone : (d : Derivation) → Contains notes d → note ≡ d

-- of the defender's: each evasion leads to a note under it, and each of these is of a mate after an
-- evasion
record MatedAfter (s : Step) (notes : List Derivation) : Type 0 where
  pub leads : (evasion : Move) → IsEvasion s.attacker s.position evasion → (n : Derivation) × Contains notes n × Says Mate s.attacker (after s.position evasion) n
  pub each : (n : Derivation) → Contains notes n → (q : Board) × Says Mate s.attacker q n × (q.side ≡ s.attacker)

checks_by : (rule : Rule) (s : Step) (notes : List Derivation) → IsOwnRule rule → IsNoLeaf rule → meets rule s notes → concluded rule ≡ Mate → s.position.side ≡ s.attacker → ChecksBy rule s notes
checks_by MateEnd s notes own no_leaf m is at = absurd (other_apart s.attacker (sym m.0.turn ∙ at))
checks_by MateAll s notes own no_leaf m is at =
    let one = first_of m.0.evasions m.0.some in
    absurd (other_apart s.attacker (sym (m.0.lists.sound one.0 one.1).mover ∙ at))
checks_by (MateBy check) s notes own no_leaf m is at =
    let one = m.1 in
    record {
      check = check;
      by = refl;
      is_check = m.0;
      note = one.note;
      under = in_alone notes one.note one.alone;
      says = one.says;
      alone = λ d c. only_of notes one.note d one.alone c;
    }
checks_by EscapeEnd s notes own no_leaf m is at = absurd (cc)
checks_by (EscapeBy evasion) s notes own no_leaf m is at = absurd (cc)
checks_by (EscapeRepeat evasion) s notes own no_leaf m is at = absurd (cc)
checks_by EscapeAll s notes own no_leaf m is at = absurd (cc)
checks_by (Carry conclusion) s notes own no_leaf m is at = absurd (own conclusion refl)
checks_by (MateLeaf version rank) s notes own no_leaf m is at = absurd no_leaf
checks_by (EscapeLeaf version) s notes own no_leaf m is at = absurd no_leaf

mated_after : (rule : Rule) (s : Step) (notes : List Derivation) → IsOwnRule rule → meets rule s notes → concluded rule ≡ Mate → s.position.side ≡ other s.attacker → MatedAfter s notes
mated_after MateEnd s notes own m is at = record {
  leads = λ evasion is_evasion. absurd (m.0.no_evasion evasion is_evasion);
  each = λ n c. absurd (none_of notes n m.1 c);
}
mated_after MateAll s notes own m is at = record {
  leads = λ evasion is_evasion. note_after Mate s.attacker s.position m.0.evasions notes evasion m.0.mates (m.0.lists.complete evasion is_evasion);
  each = λ n c.
      let from = move_of Mate s.attacker s.position m.0.evasions notes n m.0.mates c in
      (after s.position from.0, from.2, after_evasion s.attacker s.position from.0 (m.0.lists.sound from.0 from.1));
}
mated_after (MateBy check) s notes own m is at = absurd (other_apart s.attacker (sym at ∙ m.0.mover))
mated_after EscapeEnd s notes own m is at = absurd (cc)
mated_after (EscapeBy evasion) s notes own m is at = absurd (cc)
mated_after (EscapeRepeat evasion) s notes own m is at = absurd (cc)
mated_after EscapeAll s notes own m is at = absurd (cc)
mated_after (Carry conclusion) s notes own m is at = absurd (own conclusion refl)
mated_after (MateLeaf version rank) s notes own m is at = absurd (other_apart s.attacker (sym at ∙ mate_leaf_turn version rank s notes m))
mated_after (EscapeLeaf version) s notes own m is at = absurd (cc)

-- 4. A note that is to be walked: one of the tree, valid, whose last step carries none, with this
-- conclusion for the attacker, who is to move; in version 1 none is carried in its tree

pub record IsPending (version : Version) (conclusion : Conclusion) (attacker : Side) (top note : Derivation) : Type 0 where
  pub within : IsIn top note
  pub valid : IsValid note
  pub own : IsOwn note
  pub concludes : conclusion_of note ≡ conclusion
  pub same_attacker : attacker_of note ≡ attacker
  pub turn : (position_of note).side ≡ attacker
  pub fits : version ≡ One → version_in note ≡ One

valid_below : (note next : Derivation) → IsValid note → Contains (under_of note) next → IsValid next
valid_below (derived s notes) next v c = valid_one notes next c v.0

pub problem_at : (version : Version) (conclusion : Conclusion) (attacker : Side) (top note : Derivation) → IsPending version conclusion attacker top note
    → IsProblem (position_of note)
problem_at version conclusion attacker top (derived s notes) h = record {
  has_king = subst (λ (side : Side). 0 < kings_of s.position (other side)) (h.same_attacker ∙ sym h.turn) h.valid.1.play.has_king;
  quiet = h.valid.1.play.quiet;
}

-- what is said of a position after a move of a note that is to be walked, of the side's to move
-- there, is kept
after_kept : (conclusion : Conclusion) (attacker : Side) (b : Board) (d : Derivation) → IsValid d → Says conclusion attacker b d → IsKept b
after_kept conclusion attacker b d valid says = subst IsKept says.about (valid_kept d valid)

-- 5. Two steps down an escape

-- a key leads back: it is the note's position's or one of the note's tag, of one position and no
-- other, which covers this one
pub record LeadsBack (version : Version) (attacker : Side) (note : Derivation) (q : Board) : Type 0 where
  pub key : Key
  pub held : (key.0 ≡ key_of (position_of note)) ⊎ Contains (tag_of note) key
  pub back : Board
  pub of_no_other : (other_position : Board) → IsKept other_position → key_of other_position ≡ key.0 → other_position ≡ back
  pub covers : Covers version attacker back q

-- a note two steps under the note is about a position that covers this one
pub record LeadsOn (version : Version) (attacker : Side) (note : Derivation) (q : Board) : Type 0 where
  pub next : Derivation
  pub under : Contains (two_under note) next
  pub covers : Covers version attacker (position_of next) q

pub record EscapesDown (version : Version) (attacker : Side) (top note : Derivation) : Type 0 where
  pub next : (n : Derivation) → Contains (two_under note) n → IsPending version Escape attacker top n
  pub tags : (n : Derivation) (key : Key) → Contains (two_under note) n → Contains (tag_of n) key
      → (key.0 ≡ key_of (position_of note)) ⊎ Contains (tag_of note) key
  pub ways : (check : Move) → IsCheck attacker (position_of note) check
      → HasEvasionTo attacker (λ q. LeadsOn version attacker note q ⊎ LeadsBack version attacker note q) (position_of note) check

answered : (note : Derivation) → IsValid note → IsOwn note → IsNoLeaf (rule_of note) → conclusion_of note ≡ Escape → (position_of note).side ≡ attacker_of note
    → AnswersAll (step_of note) (under_of note)
answered (derived s notes) v own no_leaf is at = answers_all s.rule s (listed notes) own no_leaf v.1.rule is at

left : (d : Derivation) → IsValid d → IsOwn d → conclusion_of d ≡ Escape → (position_of d).side ≡ other (attacker_of d) → Leaves (step_of d) (under_of d)
left (derived s notes) v own is at = leaves s.rule s (listed notes) own v.1.rule is at

module _ (version : Version) (attacker : Side) (top note : Derivation) (h : IsPending version Escape attacker top note) (no_leaf : IsNoLeaf (rule_of note)) where
  all_answered : AnswersAll (step_of note) (under_of note)
  all_answered = answered note h.valid h.own no_leaf h.concludes (h.turn ∙ sym h.same_attacker)

  -- the source of a note under it serves after the check
  module _ (d : Derivation) (c : Contains (under_of note) d) where
    abbrev source : Derivation
    source = source_of d

    d_valid : IsValid d
    d_valid = valid_below note d h.valid c

    known : IsSource d source
    known = source_known d d_valid

    served : (b : Board) → Says Escape (attacker_of note) b d → Serves version Escape (attacker_of note) b source
    served b says = says_serves version Escape (attacker_of note) b d d_valid (λ one. one_below note d (h.fits one) c) says

    source_turn : (position_of source).side ≡ other (attacker_of source)
    source_turn =
        let says = all_answered.each d c in
        let serves = served says.0 says.1 in
        covers_turn version (attacker_of note) (position_of source) says.0 serves.holds ∙ (says.2 ∙ ap other (sym serves.same_attacker))

    way : Leaves (step_of source) (under_of source)
    way =
        let says = all_answered.each d c in
        left source known.valid known.own (served says.0 says.1).concludes source_turn

    source_attacks : attacker_of source ≡ attacker
    source_attacks = known.same_attacker ∙ ((all_answered.each d c).1.same_attacker ∙ h.same_attacker)

    -- and the source of one under that serves after the evasion
    module _ (n : Derivation) (under : Contains (under_of source) n) where
      n_valid : IsValid n
      n_valid = valid_below source n known.valid under

      n_serves : Serves version Escape (attacker_of source) (after (position_of source) way.evasion) (source_of n)
      n_serves =
          says_serves version Escape (attacker_of source) (after (position_of source) way.evasion) n n_valid
          (λ one. one_below source n (one_source d (one_below note d (h.fits one) c)) under) (way.each n under)

      n_pending : IsPending version Escape attacker top (source_of n)
      n_pending = record {
        within = source_in top n (under_in top source n (source_in top d (under_in top note d h.within c)) under);
        valid = (source_known n n_valid).valid;
        own = n_serves.own;
        concludes = n_serves.concludes;
        same_attacker = n_serves.same_attacker ∙ source_attacks;
        turn = covers_turn version (attacker_of source) (position_of (source_of n)) (after (position_of source) way.evasion) n_serves.holds
            ∙ (after_evasion (attacker_of source) (position_of source) way.evasion way.is_evasion ∙ source_attacks);
        fits = n_serves.fits;
      }

      n_tags : (key : Key) → Contains (tag_of (source_of n)) key → (key.0 ≡ key_of (position_of note)) ⊎ Contains (tag_of note) key
      n_tags key held = all_answered.tags d key c (known.tags key (way.tags n key under ((source_known n n_valid).tags key held)))

  next_pending : (n : Derivation) → Contains (two_under note) n → IsPending version Escape attacker top n
  next_pending n c =
      let from = from_two note n c in
      subst (IsPending version Escape attacker top) from.is (n_pending from.between from.above from.last from.below)

  next_tags : (n : Derivation) (key : Key) → Contains (two_under note) n → Contains (tag_of n) key
      → (key.0 ≡ key_of (position_of note)) ⊎ Contains (tag_of note) key
  next_tags n key c held =
      let from = from_two note n c in
      n_tags from.between from.above from.last from.below key (subst (λ (d : Derivation). Contains (tag_of d) key) (sym from.is) held)

  next_ways : (check : Move) → IsCheck attacker (position_of note) check
      → HasEvasionTo attacker (λ q. LeadsOn version attacker note q ⊎ LeadsBack version attacker note q) (position_of note) check
  next_ways check is =
      let found = all_answered.leads check (subst (λ (side : Side). IsCheck side (position_of note) check) (sym h.same_attacker) is) in
      let d = found.0 in
      let c = found.1 in
      let its = way d c in
      let at = after (position_of note) check in
      let holds = subst (λ (side : Side). Covers version side (position_of (source_of d)) at) h.same_attacker (served d c at found.2).holds in
      let goes = evades version attacker (position_of (source_of d)) at its.evasion (valid_kept (source_of d) (known d c).valid)
      (after_kept Escape (attacker_of note) at d (d_valid d c) found.2) holds
      (subst (λ (side : Side). IsEvasion side (position_of (source_of d)) its.evasion) (source_attacks d c) its.is_evasion) in
      let then = after (position_of (source_of d)) its.evasion in
      let last = after_both (position_of note) check its.evasion in
      record {
        evasion = its.evasion;
        is_evasion = goes.0;
        leads = elim its.leads [
          | inl on ↦ inl (record {
            next = source_of on.0;
            under = in_two note d on.0 c on.1;
            covers = covers_on version attacker (position_of (source_of on.0)) then last
                (subst (λ (side : Side). Covers version side (position_of (source_of on.0)) then) (source_attacks d c) (n_serves d c on.0 on.1).holds) goes.1;
          })
          | inr back ↦ inr (record {
            key = back.key;
            held = all_answered.tags d back.key c ((known d c).tags back.key (in_alone (tag_of (source_of d)) back.key back.alone));
            back = then;
            of_no_other = back.of_no_other;
            covers = goes.1;
          })
        ];
      }

  pub escapes_down : EscapesDown version attacker top note
  escapes_down = record { next = next_pending; tags = next_tags; ways = next_ways }

-- 6. Two steps down a mate

-- a note two steps under the note is about a position that this one covers
pub record LeadsToMate (version : Version) (attacker : Side) (note : Derivation) (q : Board) : Type 0 where
  pub next : Derivation
  pub under : Contains (two_under note) next
  pub covers : Covers version attacker q (position_of next)

pub record MatesDown (version : Version) (attacker : Side) (top note : Derivation) : Type 0 where
  pub check : Move
  pub by : rule_of note ≡ MateBy check
  pub is_check : IsCheck attacker (position_of note) check
  pub next : (n : Derivation) → Contains (two_under note) n → IsPending version Mate attacker top n
  pub lower : (n : Derivation) → Contains (two_under note) n → height_of n < height_of note
  pub evasions : (evasion : Move) → IsEvasion attacker (after (position_of note) check) evasion
      → LeadsToMate version attacker note (after_both (position_of note) check evasion)

checked : (note : Derivation) → IsValid note → IsOwn note → IsNoLeaf (rule_of note) → conclusion_of note ≡ Mate → (position_of note).side ≡ attacker_of note
    → ChecksBy (rule_of note) (step_of note) (under_of note)
checked (derived s notes) v own no_leaf is at = checks_by s.rule s (listed notes) own no_leaf v.1.rule is at

mated : (d : Derivation) → IsValid d → IsOwn d → conclusion_of d ≡ Mate → (position_of d).side ≡ other (attacker_of d)
    → MatedAfter (step_of d) (under_of d)
mated (derived s notes) v own is at = mated_after s.rule s (listed notes) own v.1.rule is at

own_height : (rule : Rule) (notes : List Derivation) → IsOwnRule rule → IsNoLeaf rule → height_by rule notes ≡ highest notes + 1
own_height (Carry conclusion) notes own no_leaf = absurd (own conclusion refl)
own_height (MateLeaf version rank) notes own no_leaf = absurd no_leaf
own_height rule notes own no_leaf = refl

-- nothing is under a leaf
over_some : (rule : Rule) (s : Step) (notes : List Derivation) (next : Derivation) → meets rule s notes → Contains notes next → IsNoLeaf rule
over_some (MateLeaf version rank) s notes next m c = absurd (none_of notes next m.1 c)
over_some (EscapeLeaf version) s notes next m c = absurd (none_of notes next m.1 c)
over_some rule s notes next m c = tt

lower_below : (note next : Derivation) → IsValid note → IsOwn note → Contains (under_of note) next → height_of next < height_of note
lower_below (derived s notes) next v own c =
    let high = v.1.height ∙ own_height s.rule (listed notes) own (over_some s.rule s (listed notes) next v.1.rule c) in
    omega (arith, high, height_le (listed notes) next c)

module _ (version : Version) (attacker : Side) (top note : Derivation) (h : IsPending version Mate attacker top note) (no_leaf : IsNoLeaf (rule_of note)) where
  its_check : ChecksBy (rule_of note) (step_of note) (under_of note)
  its_check = checked note h.valid h.own no_leaf h.concludes (h.turn ∙ sym h.same_attacker)

  abbrev d : Derivation
  d = its_check.note

  abbrev at : Board
  at = after (position_of note) its_check.check

  d_is_valid : IsValid d
  d_is_valid = valid_below note d h.valid its_check.under

  d_known : IsSource d (source_of d)
  d_known = source_known d d_is_valid

  d_fits : version ≡ One → version_in d ≡ One
  d_fits one = one_below note d (h.fits one) its_check.under

  d_serves : Serves version Mate (attacker_of note) at (source_of d)
  d_serves = says_serves version Mate (attacker_of note) at d d_is_valid d_fits its_check.says

  d_attacks : attacker_of (source_of d) ≡ attacker
  d_attacks = d_serves.same_attacker ∙ h.same_attacker

  mated_at : MatedAfter (step_of (source_of d)) (under_of (source_of d))
  mated_at =
      mated (source_of d) d_known.valid d_serves.own d_serves.concludes
      (sym (covers_turn version (attacker_of note) at (position_of (source_of d)) d_serves.holds)
      ∙ (after_check (attacker_of note) (position_of note) its_check.check its_check.is_check ∙ ap other (sym d_serves.same_attacker)))

  module _ (n : Derivation) (under : Contains (under_of (source_of d)) n) where
    next_valid : IsValid n
    next_valid = valid_below (source_of d) n d_known.valid under

    next_serves : (q : Board) → Says Mate (attacker_of (source_of d)) q n → Serves version Mate (attacker_of (source_of d)) q (source_of n)
    next_serves q says =
        says_serves version Mate (attacker_of (source_of d)) q n next_valid (λ one. one_below (source_of d) n (one_source d (d_fits one)) under) says

    next_is_pending : IsPending version Mate attacker top (source_of n)
    next_is_pending =
        let on = mated_at.each n under in
        let serves = next_serves on.0 on.1 in
        record {
          within = source_in top n (under_in top (source_of d) n (source_in top d (under_in top note d h.within its_check.under)) under);
          valid = (source_known n next_valid).valid;
          own = serves.own;
          concludes = serves.concludes;
          same_attacker = serves.same_attacker ∙ d_attacks;
          turn = sym (covers_turn version (attacker_of (source_of d)) on.0 (position_of (source_of n)) serves.holds) ∙ (on.2 ∙ d_attacks);
          fits = serves.fits;
        }

    next_is_lower : height_of (source_of n) < height_of note
    next_is_lower =
        let one = lower_below note d h.valid h.own its_check.under in
        let two = lower_below (source_of d) n d_known.valid d_serves.own under in
        let up = d_known.high in
        let down = (source_known n next_valid).high in
        omega (arith, one, two, up, down)

  -- what is two steps under it is under the one note's source
  under_one : (n : Derivation) → (two : IsTwoUnder note n) → Contains (under_of (source_of d)) two.last
  under_one n two =
      subst (λ (it : Derivation). Contains (under_of (source_of it)) two.last) (sym (its_check.alone two.between two.above)) two.below

  mate_pending : (n : Derivation) → Contains (two_under note) n → IsPending version Mate attacker top n
  mate_pending n c =
      let two = from_two note n c in
      subst (IsPending version Mate attacker top) two.is (next_is_pending two.last (under_one n two))

  mate_lower : (n : Derivation) → Contains (two_under note) n → height_of n < height_of note
  mate_lower n c =
      let two = from_two note n c in
      subst (λ (it : Derivation). height_of it < height_of note) two.is (next_is_lower two.last (under_one n two))

  mate_evasions : (evasion : Move) → IsEvasion attacker at evasion → LeadsToMate version attacker note (after_both (position_of note) its_check.check evasion)
  mate_evasions evasion is =
      let holds = subst (λ (side : Side). Covers version side at (position_of (source_of d))) h.same_attacker d_serves.holds in
      let goes = evades version attacker at (position_of (source_of d)) evasion (after_kept Mate (attacker_of note) at d d_is_valid its_check.says)
      (valid_kept (source_of d) d_known.valid) holds is in
      let found = mated_at.leads evasion (subst (λ (side : Side). IsEvasion side (position_of (source_of d)) evasion) (sym d_attacks) goes.0) in
      let then = after (position_of (source_of d)) evasion in
      record {
        next = source_of found.0;
        under = in_two note d found.0 its_check.under found.1;
        covers = covers_on version attacker (after_both (position_of note) its_check.check evasion) then (position_of (source_of found.0)) goes.1
            (subst (λ (side : Side). Covers version side then (position_of (source_of found.0))) d_attacks (next_serves found.0 found.1 then found.2).holds);
      }

  pub mates_down : MatesDown version attacker top note
  mates_down = record {
    check = its_check.check;
    by = its_check.by;
    is_check = subst (λ (side : Side). IsCheck side (position_of note) its_check.check) h.same_attacker its_check.is_check;
    next = mate_pending;
    lower = mate_lower;
    evasions = mate_evasions;
  }

-- 7. What is known of a mate's note that carries none, the attacker's to move

-- where it is no leaf, its last step is by a check
pub by_check : (note : Derivation) → IsValid note → IsOwn note → IsNoLeaf (rule_of note) → conclusion_of note ≡ Mate → (position_of note).side ≡ attacker_of note
    → (check : Move) × (rule_of note ≡ MateBy check)
by_check note v own no_leaf is at = let by = checked note v own no_leaf is at in (by.check, by.by)

-- a note that serves for the problem is one to be walked
pub pending_first : (version : Version) (conclusion : Conclusion) (p : Board) (note : Derivation) → IsValid note → Serves version conclusion p.side p note
    → (position_of note).side ≡ p.side → IsPending version conclusion p.side note note
pending_first version conclusion p note valid serves turn = record {
  within = in_itself note;
  valid = valid;
  own = serves.own;
  concludes = serves.concludes;
  same_attacker = serves.same_attacker;
  turn = turn;
  fits = serves.fits;
}

-- 8. A leaf that is to be walked: what it stands with, in the version of the walk

-- what is borne out in the leaf's version is borne out in that of the walk
pub borne_in : (version own : Version) (attacker : Side) (entries : List MateEntry) (entry : MateEntry) → (version ≡ One → own ≡ One)
    → IsBorneOut own entries attacker entry → IsBorneOut version entries attacker entry
borne_in version One attacker entries entry fits borne = borne_out_stays version attacker entries entry borne
borne_in Two Two attacker entries entry fits borne = borne
borne_in One Two attacker entries entry fits borne = absurd (let e = fits refl in cc)

pub held_in : (version own : Version) (attacker : Side) (s : List Board) (b : Board) → (version ≡ One → own ≡ One) → IsHeld own s attacker b
    → IsHeld version s attacker b
held_in version One attacker s b fits held = held_stays version attacker s b held
held_in Two Two attacker s b fits held = held
held_in One Two attacker s b fits held = absurd (let e = fits refl in cc)

pub leaf_fits : (note : Derivation) (rule : Rule) (version own : Version) → IsValid note → rule_of note ≡ rule
    → ((rest : Version) → version_by rule rest ≡ later own rest) → (version ≡ One → version_in note ≡ One) → version ≡ One → own ≡ One
leaf_fits (derived s notes) rule version own valid is by fits one =
    (both_one own (version_under notes) (sym (by (version_under notes)) ∙ (ap (λ (r : Rule). version_by r (version_under notes)) (sym is) ∙ fits one))).0

pub leaf_high : (note : Derivation) (own : Version) (rank : ℕ) → IsValid note → rule_of note ≡ MateLeaf own rank → height_of note ≡ 2 * rank
leaf_high (derived s notes) own rank valid is = valid.1.height ∙ ap (λ (rule : Rule). height_by rule (listed notes)) is

-- a mate that is no mate's leaf is no leaf, and so for an escape
pub no_mate_leaf : (rule : Rule) → concluded rule ≡ Mate → ((version : Version) (rank : ℕ) → rule ≡ MateLeaf version rank → ⊥) → IsNoLeaf rule
no_mate_leaf (MateLeaf version rank) is isnt = absurd (isnt version rank refl)
no_mate_leaf (EscapeLeaf version) is isnt = absurd (cc)
no_mate_leaf rule is isnt = tt

pub no_escape_leaf : (rule : Rule) → concluded rule ≡ Escape → ((version : Version) → rule ≡ EscapeLeaf version → ⊥) → IsNoLeaf rule
no_escape_leaf (MateLeaf version rank) is isnt = absurd (cc)
no_escape_leaf (EscapeLeaf version) is isnt = absurd (isnt version refl)
no_escape_leaf rule is isnt = tt
