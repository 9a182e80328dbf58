-- What is known where a note is made: of one child that decides its node, of all where none does.
use Rattle.std.proofs.Common.{◌≡◌, ◌<◌, ◌||◌, ℕ, zero, suc, Bool, true, false, not, List, [], ◌∷◌, ◌++◌, Option, Some, None, length, map, refl, sym, ap, subst, ◌∙◌, arith}
use Rattle.std.specs.Prelude.{slice_get, All, Contains, is_some}
use Rattle.std.specs.List.{list_all, find}
use Rattle.std.proofs.lemmas.Bool.{false≢true, or_parts}
use Rattle.std.proofs.lemmas.Option.{none-some, same_Some, slice_get-map, slice_get-get_or}
use Rattle.std.proofs.lemmas.List.{length-map}
use Rattle.std.proofs.lemmas.List.Elements.{All-head, All-tail}
use Rattle.list_laws.proofs.Standing.{contained}
use Rattle.bit_boards.specs.declared.piece.Side.{Side}
use Rattle.bit_boards.specs.declared.piece.Side.TheVariants.{Black, White}
use Rattle.board_core.specs.declared.keys.Key.{Key}
use Rattle.board_core.specs.declared.moves.Move.{Move}
use Rattle.board_core.specs.Board.{Board}
use Rattle.shogi_rules.specs.Rules.{IsLegal, after}
use Rattle.shogi_rules.specs.Tsume.{IsCheck, IsEvasion}
use Rattle.pn_numbers.specs.declared.node.Node.{Node}
use Rattle.pn_numbers.specs.declared.node.Node.TheVariants.{Attacker, Defender}
use Rattle.notes.specs.Derivation.{Derivation, note_over, listed-derivations, conclusion_of, rule_of, attacker_of, position_of, under_of}
use Rattle.notes.specs.Valid.{IsValid, Says, SayEach, EndsInMate, EndsInEscape, MatesAfterAll, EscapesAfterAll}
use Rattle.notes.specs.declared.rule.Rule.{Rule}
use Rattle.notes.specs.declared.rule.Rule.TheVariants.{MateAll}
use Rattle.notes.specs.declared.rule.Conclusion.{Conclusion}
use Rattle.notes.specs.declared.rule.Conclusion.TheVariants.{Mate, Escape}
use Rattle.visit_log.specs.declared.parts.Child.{Child}
use Rattle.visit_log.specs.Frame.{Task, attacker_in, node_of, node_at}
use Rattle.visit_log.specs.Children.{AreMoves, move_to, has_note, is_mate, shows_mate, shows_escape, decides, deciding, is_solved, note_list, notes_in, rule_of_all}
use Rattle.visit_log.specs.Machine.{IsPlayed}
use Rattle.visit_log.specs.Sound.{IsSoundChild}
use Rattle.visit_frame.specs.Making.{IsNoteFor, IsKnown, against, Refutes, mover, AllSay}
use Rattle.visit_frame.proofs.Places.{find_none, list_all_each}

-- 1. ONE CHILD.

says_of : (task : Task) (path : List Key) (b : Board) (child : Child) (note : Derivation) (conclusion : Conclusion) → IsSoundChild task b path child
    → child.note ≡ Some note → conclusion_of note ≡ conclusion → Says conclusion (attacker_in task) (after b child.by) note
says_of task path b child note conclusion sound is concludes =
    let fact = sound.note note is in
    record { concludes = concludes; same_attacker = fact.same_attacker; about = fact.about }

-- a note of these parts is one for its rule
pub made_over : (rule : Rule) (attacker : Side) (b : Board) (tag : List Key) (height : ℕ) (under : List Derivation) (note : Derivation)
    → note ≡ note_over rule attacker b tag height under → IsValid note → IsNoteFor rule attacker b under note
made_over rule attacker b tag height under note e is_valid = record {
  valid = is_valid;
  its_rule = ap rule_of e;
  same_attacker = ap attacker_of e;
  about = ap position_of e;
  its_under = ap under_of e ∙ listed-derivations under;
}

-- 2. ALL CHILDREN.

not_mate : (c : Conclusion) → is_mate c ≡ false → c ≡ Escape
not_mate Mate h = absurd (false≢true (sym h))
not_mate Escape h = refl

not_escape : (c : Conclusion) → not (is_mate c) ≡ false → c ≡ Mate
not_escape Mate h = refl
not_escape Escape h = absurd (false≢true (sym h))

-- a note that doesn't decide its node serves the other side
undeciding : (node : Node) (child : Child) (note : Derivation) → child.note ≡ Some note → decides node child ≡ false → conclusion_of note ≡ against node
undeciding Attacker child note is fails = not_mate (conclusion_of note) (sym (ap shows_mate is) ∙ fails)
undeciding Defender child note is fails = not_escape (conclusion_of note) (sym (ap shows_escape is) ∙ (or_parts child.on_path (shows_escape child.note) fails).1)

some_note : (note : Option Derivation) → is_some note ≡ true → (n : Derivation) × (note ≡ Some n)
some_note None h = absurd (false≢true h)
some_note (Some n) h = (n, refl)

refutes : (task : Task) (path : List Key) (node : Node) (b : Board) (child : Child) → IsSoundChild task b path child → has_note child ≡ true → decides node child ≡ false
    → Refutes node (attacker_in task) b child
refutes task path node b child sound has fails =
    let found = some_note child.note has in record {
      note = found.0;
      has = found.1;
      says = says_of task path b child found.0 (against node) sound found.1 (undeciding node child found.0 found.1 fails);
    }

turn_of : (attacker side : Side) (node : Node) → node ≡ node_of attacker side → side ≡ mover node attacker
turn_of Black Black Attacker h = refl
turn_of Black White Attacker h = absurd (cc)
turn_of White Black Attacker h = absurd (cc)
turn_of White White Attacker h = refl
turn_of Black Black Defender h = absurd (cc)
turn_of Black White Defender h = refl
turn_of White Black Defender h = refl
turn_of White White Defender h = absurd (cc)

-- the side whose move it is at a known node
pub turn_at : (attacker : Side) (b : Board) (node : Node) → node ≡ node_at attacker b → b.side ≡ mover node attacker
turn_at attacker b node h = turn_of attacker b.side node h

unsolved_or : (found : Option Child) (all : Bool) → found ≡ None → (is_some found || all) ≡ true → all ≡ true
unsolved_or None all e h = h
unsolved_or (Some child) all e h = absurd (none-some child (sym e))

-- where no child decides a solved node, each is refuted
pub all_say : (task : Task) (path : List Key) (node : Node) (b : Board) (children : List Child) → IsKnown task path node b children → is_solved node children ≡ true
    → deciding node children ≡ None → AllSay node (attacker_in task) b children
all_say task path node b children known solved none = record {
  turn = turn_at (attacker_in task) b node known.is_node;
  moves = known.moves;
  refuted = λ k d inside.
      let at = slice_get-get_or children k d inside in
      refutes task path node b (Rattle.std.specs.Prelude.slice_index_or children k d) (known.sound k d inside)
      (list_all_each has_note children k (Rattle.std.specs.Prelude.slice_index_or children k d) (unsolved_or (deciding node children) (list_all has_note children) none solved) at)
      (find_none (decides node) children k (Rattle.std.specs.Prelude.slice_index_or children k d) none at);
}

notes_cons : (child : Child) (children : List Child) (note : Derivation) → child.note ≡ Some note → notes_in (child ∷ children) ≡ note ∷ notes_in children
notes_cons child children note is = ap (λ (o : Option Derivation). note_list o ++ notes_in children) is

as_many_notes : (node : Node) (attacker : Side) (b : Board) (children : List Child) → All (Refutes node attacker b) children → length (notes_in children) ≡ length children
as_many_notes node attacker b [] all = refl
as_many_notes node attacker b (child ∷ children) all =
    let one = All-head (Refutes node attacker b) child children all in
    ap length (notes_cons child children one.note one.has) ∙ ap suc (as_many_notes node attacker b children (All-tail (Refutes node attacker b) child children all))

each_says : (node : Node) (attacker : Side) (b : Board) (children : List Child) → All (Refutes node attacker b) children → (i : ℕ) (move : Move) (note : Derivation)
    → slice_get (map move_to children) i ≡ Some move → slice_get (notes_in children) i ≡ Some note → Says (against node) attacker (after b move) note
each_says node attacker b [] all i move note here there = absurd (none-some move here)
each_says node attacker b (child ∷ children) all zero move note here there =
    let one = All-head (Refutes node attacker b) child children all in
    let by : child.by ≡ move = same_Some child.by move here in
    let same : one.note ≡ note = same_Some one.note note (sym (ap (λ (l : List Derivation). slice_get l 0) (notes_cons child children one.note one.has)) ∙ there) in
    subst (λ (n : Derivation). Says (against node) attacker (after b move) n) same (subst (λ (m : Move). Says (against node) attacker (after b m) one.note) by one.says)
each_says node attacker b (child ∷ children) all (suc i) move note here there =
    let one = All-head (Refutes node attacker b) child children all in
    each_says node attacker b children (All-tail (Refutes node attacker b) child children all) i move note here
    (sym (ap (λ (l : List Derivation). slice_get l (suc i)) (notes_cons child children one.note one.has)) ∙ there)

say_each : (node : Node) (attacker : Side) (b : Board) (children : List Child) → All (Refutes node attacker b) children
    → SayEach (against node) attacker b (map move_to children) (notes_in children)
say_each node attacker b children all = record {
  as_many = as_many_notes node attacker b children all ∙ sym (length-map children move_to);
  each = each_says node attacker b children all;
}

some_moves : (children : List Child) → 0 < length children → 0 < length (map move_to children)
some_moves children some = subst (λ (n : ℕ). 0 < n) (sym (length-map children move_to)) some

-- the notes after all checks
pub escapes_after : (attacker : Side) (b : Board) (children : List Child) (notes : List Derivation) → AllSay Attacker attacker b children → notes ≡ notes_in children
    → 0 < length children → EscapesAfterAll attacker b notes
escapes_after attacker b children notes all is more =
    subst (EscapesAfterAll attacker b) (sym is) (record {
      checks = map move_to children;
      lists = all.moves;
      some = some_moves children more;
      escapes = say_each Attacker attacker b children all.refuted;
    })

-- the notes after all evasions
pub mates_after : (attacker : Side) (b : Board) (children : List Child) (notes : List Derivation) → AllSay Defender attacker b children → notes ≡ notes_in children
    → 0 < length children → MatesAfterAll attacker b notes
mates_after attacker b children notes all is more =
    subst (MatesAfterAll attacker b) (sym is) (record {
      evasions = map move_to children;
      lists = all.moves;
      some = some_moves children more;
      mates = say_each Defender attacker b children all.refuted;
    })

no_moves : (children : List Child) → length children ≡ 0 → (move : Move) → Contains (map move_to children) move → ⊥
no_moves children none move c = let inside = c.1 in let as_many = length-map children move_to in omega arith

-- an attacker's node without children
pub ends_in_escape : (attacker : Side) (b : Board) (children : List Child) → AllSay Attacker attacker b children → length children ≡ 0 → EndsInEscape attacker b
ends_in_escape attacker b children all none = record {
  turn = all.turn;
  no_check = λ check is. no_moves children none check (all.moves.complete check is);
}

-- a defender's node without children
pub ends_in_mate : (attacker : Side) (b : Board) (children : List Child) → IsPlayed attacker b → node_at attacker b ≡ Defender → AllSay Defender attacker b children → length children ≡ 0
    → EndsInMate attacker b
ends_in_mate attacker b children played node all none = record {
  turn = all.turn;
  in_check = played.checked node;
  no_evasion = λ evasion is. no_moves children none evasion (all.moves.complete evasion is);
}

node_by : (attacker side : Side) → side ≡ mover Defender attacker → node_of attacker side ≡ Defender
node_by Black Black h = absurd (cc)
node_by Black White h = refl
node_by White Black h = refl
node_by White White h = absurd (cc)

-- the defender is to move at his node
pub defends : (attacker : Side) (b : Board) → b.side ≡ mover Defender attacker → node_at attacker b ≡ Defender
defends attacker b h = node_by attacker b.side h

-- 3. MOVES.

-- a child's move is one of the node's
pub move_legal : (node : Node) (attacker : Side) (b : Board) (children : List Child) (i : ℕ) (child : Child) → AreMoves node attacker b (map move_to children)
    → slice_get children i ≡ Some child → IsLegal b child.by
move_legal Attacker attacker b children i child moves at =
    (moves.sound child.by (contained (map move_to children) i child.by (slice_get-map move_to children i ∙ ap (λ (o : Option Child). Rattle.std.specs.Prelude.option_map move_to o) at))).legal
move_legal Defender attacker b children i child moves at =
    (moves.sound child.by (contained (map move_to children) i child.by (slice_get-map move_to children i ∙ ap (λ (o : Option Child). Rattle.std.specs.Prelude.option_map move_to o) at))).legal

-- of the attacker's node, a check
pub move_check : (attacker : Side) (b : Board) (children : List Child) (i : ℕ) (child : Child) → AreMoves Attacker attacker b (map move_to children)
    → slice_get children i ≡ Some child → IsCheck attacker b child.by
move_check attacker b children i child moves at =
    moves.sound child.by (contained (map move_to children) i child.by (slice_get-map move_to children i ∙ ap (λ (o : Option Child). Rattle.std.specs.Prelude.option_map move_to o) at))

-- of the defender's, an evasion
pub move_evasion : (attacker : Side) (b : Board) (children : List Child) (i : ℕ) (child : Child) → AreMoves Defender attacker b (map move_to children)
    → slice_get children i ≡ Some child → IsEvasion attacker b child.by
move_evasion attacker b children i child moves at =
    moves.sound child.by (contained (map move_to children) i child.by (slice_get-map move_to children i ∙ ap (λ (o : Option Child). Rattle.std.specs.Prelude.option_map move_to o) at))

-- the rule of a defender's node with children
pub rule_mates : (children : List Child) → 0 < length children → MateAll ≡ rule_of_all Defender children
rule_mates [] h = absurd (omega arith)
rule_mates (child ∷ children) h = refl
