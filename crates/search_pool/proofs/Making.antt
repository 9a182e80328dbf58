-- The note that is made of others, by a rule and about a position: there is one.
use Rattle.std.proofs.Common.{◌≡◌, Bool, true, false, List, [], ◌∷◌, refl, sym, subst, ap, ap₂, ◌∙◌}
use Rattle.std.specs.Prelude.{Option, Some, None, if◌then◌else◌}
use Rattle.board_core.specs.declared.keys.Key.{Key}
use Rattle.board_core.specs.declared.moves.Move.{Move}
use Rattle.board_core.specs.Board.{Board}
use Rattle.shogi_rules.specs.Rules.{after}
use Rattle.path_tags.specs.Tag.{IsRising}
use Rattle.path_tags.specs.Laws.{TagsApart}
use Rattle.pn_numbers.specs.declared.node.Node.{Node}
use Rattle.pn_numbers.specs.declared.node.Node.TheVariants.{Attacker, Defender}
use Rattle.notes.specs.declared.rule.Rule.{Rule}
use Rattle.notes.specs.declared.rule.Rule.TheVariants.{MateEnd, MateAll, MateBy, EscapeEnd, EscapeBy, EscapeRepeat, EscapeAll, Carry, MateLeaf, EscapeLeaf}
use Rattle.notes.specs.Derivation.{Step, Derivation, Derivations, derived, none_under, one_under, derivations, height_by, listed, under_of, rule_of, attacker_of, position_of, tag_of, IsNoLeaf}
use Rattle.notes.specs.Valid.{IsStep, IsValid, IsKeyAlone, JoinsTags, meets}
use Rattle.visit_log.specs.declared.parts.Child.{Child}
use Rattle.visit_log.specs.Frame.{Task, FrameView}
use Rattle.visit_log.specs.Round.{IsMade, node_in}
use Rattle.visit_log.specs.Children.{deciding, rule_with}

-- 1. TAGS.

key_alone : (a b : List Key) (p : Board) → IsKeyAlone a p → IsKeyAlone b p → a ≡ b
key_alone a b p h k =
    let words = h.is_key ∙ sym k.is_key in
    let same : h.key ≡ k.key = λ i. record { 0 = words i } in
    h.alone ∙ (ap (λ (key : Key). key ∷ []) same ∙ sym k.alone)

one_of : (xs : List Derivation) (a b : Derivation) → xs ≡ a ∷ [] → xs ≡ b ∷ [] → a ≡ b
one_of xs a b h k = (let e : a ∷ [] ≡ b ∷ [] = sym h ∙ k in cc)

joined_once : TagsApart → (a b : List Key) (p : Board) (notes : List Derivation) → IsRising a → IsRising b → JoinsTags a p notes → JoinsTags b p notes → a ≡ b
joined_once apart a b p notes up too h k = apart a b up too (λ key. (λ c. (k key).1 ((h key).0 c), λ c. (h key).1 ((k key).0 c)))

-- Steps by one rule about one position, over the same notes, have one tag.
tag_once : TagsApart → (rule : Rule) (a b : List Key) (s t : Step) (notes : List Derivation) → s.tag ≡ a → t.tag ≡ b → s.position ≡ t.position → IsRising a → IsRising b
    → meets rule s notes → meets rule t notes → a ≡ b
tag_once apart MateEnd a b s t notes p q at up too h k = sym p ∙ (h.2 ∙ (sym k.2 ∙ q))
tag_once apart MateAll a b s t notes p q at up too h k = sym p ∙ (h.1 ∙ (sym k.1 ∙ q))
tag_once apart (MateBy check) a b s t notes p q at up too h k = sym p ∙ (h.2 ∙ (sym k.2 ∙ q))
tag_once apart EscapeEnd a b s t notes p q at up too h k = sym p ∙ (h.2 ∙ (sym k.2 ∙ q))
tag_once apart (EscapeBy evasion) a b s t notes p q at up too h k =
    let same = one_of notes h.1.0.note k.1.0.note h.1.0.alone k.1.0.alone in sym p ∙ (h.1.1 ∙ (ap tag_of same ∙ (sym k.1.1 ∙ q)))
tag_once apart (EscapeRepeat evasion) a b s t notes p q at up too h k =
    key_alone a b (after s.position evasion) (subst (λ (x : List Key). IsKeyAlone x (after s.position evasion)) p h.2)
    (subst (λ (x : List Key). IsKeyAlone x (after s.position evasion)) q (subst (λ (x : Board). IsKeyAlone t.tag (after x evasion)) (sym at) k.2))
tag_once apart EscapeAll a b s t notes p q at up too h k =
    joined_once apart a b s.position notes up too (subst (λ (x : List Key). JoinsTags x s.position notes) p h.1)
    (subst (λ (x : List Key). JoinsTags x s.position notes) q (subst (λ (x : Board). JoinsTags t.tag x notes) (sym at) k.1))
tag_once apart (Carry conclusion) a b s t notes p q at up too h k = sym p ∙ (h.1 ∙ (sym k.1 ∙ q))
tag_once apart (MateLeaf version rank) a b s t notes p q at up too h k = sym p ∙ (h.2 ∙ (sym k.2 ∙ q))
tag_once apart (EscapeLeaf version) a b s t notes p q at up too h k = sym p ∙ (h.2 ∙ (sym k.2 ∙ q))

-- 2. NOTES.

-- A search makes no leaf.
no_leaf_after : (on : Bool) (by : Move) → IsNoLeaf (if on then EscapeRepeat by else EscapeBy by)
no_leaf_after true by = tt
no_leaf_after false by = tt

no_leaf_with : (node : Node) (children : List Child) (one : Option Child) → IsNoLeaf (rule_with node children one)
no_leaf_with Attacker [] None = tt
no_leaf_with Attacker (child ∷ children) None = tt
no_leaf_with Defender [] None = tt
no_leaf_with Defender (child ∷ children) None = tt
no_leaf_with Attacker children (Some child) = tt
no_leaf_with Defender children (Some child) = no_leaf_after child.on_path child.by

relisted : (d : Derivations) → derivations (listed d) ≡ d
relisted none_under = refl
relisted (one_under note notes) = ap (one_under note) (relisted notes)

step_once : TagsApart → (s t : Step) (notes : List Derivation) → s.rule ≡ t.rule → s.attacker ≡ t.attacker → s.position ≡ t.position → IsNoLeaf t.rule
    → IsStep s notes → IsStep t notes → s ≡ t
step_once apart s t notes rule attacker position no_leaf h k =
    let tag : s.tag ≡ t.tag = tag_once apart t.rule s.tag t.tag s t notes refl refl position h.rising k.rising
    (subst (λ (r : Rule). meets r s notes) rule h.rule) k.rule in
    let height : s.height ≡ t.height = h.height ∙ (ap (λ (r : Rule). height_by r notes) rule ∙ sym k.height) in
    let beside : s.beside ≡ t.beside = h.alone (subst IsNoLeaf (sym rule) no_leaf) ∙ sym (k.alone no_leaf) in
    λ i. record { rule = rule i; attacker = attacker i; position = position i; tag = tag i; height = height i; beside = beside i }

note_once : TagsApart → (m n : Derivation) → rule_of m ≡ rule_of n → attacker_of m ≡ attacker_of n → position_of m ≡ position_of n → under_of m ≡ under_of n
    → IsNoLeaf (rule_of n) → IsValid m → IsValid n → m ≡ n
note_once apart (derived s d) (derived t e) rule attacker position under no_leaf h k =
    let notes : d ≡ e = sym (relisted d) ∙ (ap derivations under ∙ relisted e) in
    let step : s ≡ t = step_once apart s t (listed e) rule attacker position no_leaf (subst (IsStep s) under h.1) k.1 in
    ap₂ derived step notes

-- The note of a solved node is one.
pub made_once : TagsApart → (task : Task) (f : FrameView) (m n : Derivation) → IsMade task f m → IsMade task f n → m ≡ n
made_once apart task f m n h k =
    note_once apart m n (h.rule ∙ sym k.rule) (h.same_attacker ∙ sym k.same_attacker) (h.about ∙ sym k.about) (h.under ∙ sym k.under)
    (subst IsNoLeaf (sym k.rule) (no_leaf_with (node_in task f) f.children (deciding (node_in task f) f.children))) h.valid k.valid
