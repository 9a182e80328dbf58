-- The note that is made of a solved visit holds on the path above it.
use Rattle.std.proofs.Common.{◌≡◌, ◌≢◌, ◌⊎◌, inl, inr, Bool, true, false, List, [], ◌∷◌, ◌++◌, All, Contains, arith, refl, sym, ap, subst, ◌∙◌, Some, None, Option, if◌then◌else◌, subst₂}
use Rattle.notes.specs.Derivation.{Step, derived, Derivation, tag_of}
use Rattle.notes.specs.Valid.{JoinsTags, meets}
use Rattle.notes.specs.declared.rule.Rule.{Rule}
use Rattle.notes.specs.declared.rule.Rule.TheVariants.{EscapeBy, EscapeRepeat}
use Rattle.bit_boards.specs.Kind.{other}
use Rattle.board_core.specs.Board.{Board}
use Rattle.board_core.specs.Key.{key_of}
use Rattle.board_core.specs.declared.keys.Key.{Key}
use Rattle.path_tags.specs.Tag.{IsWithin}
use Rattle.pn_numbers.specs.declared.node.Node.{Node}
use Rattle.pn_numbers.specs.declared.node.Node.TheVariants.{Attacker, Defender}
use Rattle.shogi_rules.specs.Rules.{after}
use Rattle.std.proofs.lemmas.List.Elements.{All-append, All-cons, All-contains, All-nil, All-tail, All-weaker, Contains-append_cases}
use Rattle.board_laws.proofs.Keys.{same_key}
use Rattle.visit_log.proofs.SoundChildren.{of_found}
use Rattle.visit_log.specs.Children.{decides, deciding, note_list, notes_in, notes_under, notes_with, rule_at, rule_with}
use Rattle.visit_log.specs.Frame.{Task, FrameView}
use Rattle.visit_log.specs.Round.{IsMade, node_in}
use Rattle.visit_log.specs.Sound.{IsListed, IsNoteOf, IsSoundChild}
use Rattle.visit_log.specs.Visit.{path_at, path_with}
use Rattle.visit_log.specs.declared.parts.Child.{Child}

-- A tag of no key lies within each path.
no_tag : (tag path : List Key) → tag ≡ [] → IsWithin tag path
no_tag tag path none = λ key there. let h = (subst (λ (t : List Key). Contains t key) none there).1 in absurd (omega (arith, h))

-- Within no path but that of no key lies a tag that has one.
pub tag_empty : (tag : List Key) → IsWithin tag [] → tag ≡ []
tag_empty [] within = refl
tag_empty (key ∷ keys) within = let h = (within key (0, omega arith, refl)).1 in absurd (omega (arith, h))

-- What holds of each child's note holds of all of their notes.
all_notes : (P : Derivation → Type 0) (children : List Child) → All (λ child. (note : Derivation) → child.note ≡ Some note → P note) children
    → All P (notes_in children)
all_notes P [] all = All-nil P
all_notes P (child ∷ children) all =
    All-append P (note_list child.note) (notes_in children) (by_note child.note (all 0 child (omega arith)))
    (all_notes P children (All-tail (λ c. (note : Derivation) → c.note ≡ Some note → P note) child children all))
  where
    by_note : (o : Option Derivation) → ((note : Derivation) → o ≡ Some note → P note) → All P (note_list o)
    by_note None holds = All-nil P
    by_note (Some note) holds = All-cons P note [] (holds note refl) (All-nil P)

-- The one note of a child that has one.
only_note : (o : Option Derivation) (note : Derivation) → note_list o ≡ note ∷ [] → o ≡ Some note
only_note None note alone = absurd (cc)
only_note (Some one) note alone = ap Some (cc)

-- What joins the tags of notes that hold on the path with the position's key holds on the path
-- before it.
joined_within : (tag : List Key) (b : Board) (key : Key) (path : List Key) (notes : List Derivation) → key.0 ≡ key_of b → JoinsTags tag b notes
    → All (λ note. IsWithin (tag_of note) (path ++ key ∷ [])) notes → IsWithin tag path
joined_within tag b key path notes is joins within = λ k there.
    let from = (joins k).0 there in
    let one = from.0 in
    let reached : Contains (path ++ key ∷ []) k =
    All-contains (λ note. IsWithin (tag_of note) (path ++ key ∷ [])) notes one.0 within one.1 k one.2 in
    by_place k from.1 (Contains-append_cases path (key ∷ []) k reached)
  where
    by_place : (k : Key) → k.0 ≢ key_of b → Contains path k ⊎ Contains (key ∷ []) k → Contains path k
    by_place k other (inl before) = before
    by_place k other (inr last) =
        let same : key ≡ k = All-contains (λ q. key ≡ q) (key ∷ []) k (All-cons (λ q. key ≡ q) key [] refl (All-nil (λ q. key ≡ q))) last in
        absurd (other (ap (λ (q : Key). q.0) (sym same) ∙ is))

-- The tag of a note that meets the rule of its node, over notes that hold on the path, holds on the
-- path above.
tag_within : (task : Task) (node : Node) (b : Board) (key : Key) (path : List Key) (children : List Child) (s : Step) (one : Option Child)
    → key.0 ≡ key_of b → s.position ≡ b → All (IsSoundChild task b (path_with node key path)) children → deciding node children ≡ one
    → meets (rule_with node children one) s (notes_with children one) → IsWithin s.tag path
tag_within task Attacker b key path [] s None is about sound found met = no_tag s.tag path met.2
tag_within task Attacker b key path (child ∷ children) s None is about sound found met =
    joined_within s.tag s.position key path (notes_in (child ∷ children)) (is ∙ ap key_of (sym about)) met.1
    (all_notes (λ note. IsWithin (tag_of note) (path ++ key ∷ [])) (child ∷ children)
    (All-weaker (IsSoundChild task b (path ++ key ∷ [])) (λ c. (note : Derivation) → c.note ≡ Some note → IsWithin (tag_of note) (path ++ key ∷ []))
    (λ c known note noted. (known.note note noted).within) (child ∷ children) sound))
tag_within task Attacker b key path children s (Some child) is about sound found met = no_tag s.tag path met.2
tag_within task Defender b key path [] s None is about sound found met = no_tag s.tag path met.2
tag_within task Defender b key path (child ∷ children) s None is about sound found met = no_tag s.tag path met.1
tag_within task Defender b key path children s (Some child) is about sound found met = by_path child.on_path refl met
  where
    known : IsSoundChild task b path child
    known = of_found (IsSoundChild task b path) (decides Defender) children child sound found

    by_path : (on : Bool) → child.on_path ≡ on → meets (if on then EscapeRepeat child.by else EscapeBy child.by) s (note_list child.note)
        → IsWithin s.tag path
    by_path true on repeats =
        let alone = repeats.2 in
        let same : child.key ≡ alone.key =
        same_key child.key alone.key (known.key ∙ (ap (λ (a : Board). key_of (after a child.by)) (sym about) ∙ sym alone.is_key)) in
        let there : All (Contains path) (alone.key ∷ []) =
        All-cons (Contains path) alone.key [] (subst (Contains path) same (known.on_path on).there) (All-nil (Contains path)) in
        subst (λ (tag : List Key). IsWithin tag path) (sym alone.alone) (λ k at. All-contains (Contains path) (alone.key ∷ []) k there at)
    by_path false on escapes =
        let says = escapes.1.0 in
        subst (λ (tag : List Key). IsWithin tag path) (sym escapes.1.1)
        (known.note says.note (only_note child.note says.note says.alone)).within

-- The note that is made is about the visit's position, and holds on the path above it.
pub made_holds : (task : Task) (f : FrameView) (path : List Key) (note : Derivation) → IsListed task (path_at task f.place path) f → IsMade task f note
    → IsNoteOf task f.place.position path note
made_holds task f path (derived s under) listed_f made = record {
  valid = made.valid;
  about = made.about;
  same_attacker = made.same_attacker;
  within = tag_within task (node_in task f) f.place.position f.place.key path f.children s (deciding (node_in task f) f.children)
      listed_f.key made.about listed_f.children refl met;
}
  where
    met : meets (rule_at (node_in task f) f.children) s (notes_under (node_in task f) f.children)
    met = subst₂ (λ (r : Rule) (notes : List Derivation). meets r s notes) made.rule made.under made.valid.1.rule
