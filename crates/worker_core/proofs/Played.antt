-- The position of the child to which a visit goes down.
use Rattle.std.proofs.Common.{◌≡◌, ℕ, ◌<◌, List, [], ◌∷◌, map, refl, sym, ap, ◌∙◌, subst, Contains}
use Rattle.std.specs.Prelude.{Option, Some, None, IfSome, slice_get}
use Rattle.std.proofs.lemmas.Option.{same_Some}
use Rattle.bit_boards.specs.declared.piece.Side.{Side}
use Rattle.bit_boards.specs.declared.piece.Side.TheVariants.{Black, White}
use Rattle.bit_boards.specs.Kind.{other}
use Rattle.board_core.specs.declared.keys.Key.{Key}
use Rattle.board_core.specs.declared.moves.Move.{Move}
use Rattle.board_core.specs.Board.{Board, kings_of}
use Rattle.board_core.specs.Kept.{IsKept}
use Rattle.shogi_rules.specs.Rules.{IsInCheck, IsQuiet, IsLegal, after}
use Rattle.shogi_rules.specs.Tsume.{IsProblem}
use Rattle.pn_numbers.specs.declared.node.Node.{Node}
use Rattle.pn_numbers.specs.declared.node.Node.TheVariants.{Attacker, Defender}
use Rattle.visit_log.specs.declared.parts.Child.{Child}
use Rattle.visit_log.specs.Frame.{Task, FrameView, attacker_in, node_of, node_at}
use Rattle.visit_log.specs.Children.{AreMoves, move_to}
use Rattle.visit_log.specs.declared.parts.Stage.TheVariants.{Looking}
use Rattle.visit_log.specs.Machine.{State, Settles, GoesOn, at_stage, IsPlayed, path_of}
use Rattle.visit_log.specs.Sound.{IsListed, IsMoveTo, AreSound}
use Rattle.list_laws.proofs.Standing.{contained, contains_map}
use Rattle.worker_core.specs.Stack.{top_of, HasTop, HasOver}

-- A child's move is one of the moves.
moves_hold : (children : List Child) (place : ℕ) (child : Child) → slice_get children place ≡ Some child → Contains (map move_to children) child.by
moves_hold children place child there = contains_map move_to children child (contained children place child there)

-- So it is legal, and where the attacker is to move it is a check.
pub legal_of : (node : Node) (attacker : Side) (b : Board) (moves : List Move) (by : Move) → AreMoves node attacker b moves → Contains moves by → IsLegal b by
legal_of Attacker attacker b moves by are there = (are.sound by there).legal
legal_of Defender attacker b moves by are there = (are.sound by there).legal

pub child_legal : (task : Task) (path : List Key) (f : FrameView) (place : ℕ) (child : Child) (by : Move) → IsListed task path f
    → slice_get f.children place ≡ Some child → Some by ≡ Some child.by → IsLegal f.place.position by
child_legal task path f place child by listed there is =
    subst (IsLegal f.place.position) (sym (same_Some by child.by is))
    (legal_of (node_at (attacker_in task) f.place.position) (attacker_in task) f.place.position (map move_to f.children) child.by listed.moves (moves_hold f.children place child there))

check_of : (node : Node) (attacker : Side) (b : Board) (moves : List Move) (by : Move) → AreMoves node attacker b moves → Contains moves by
    → node ≡ Attacker → IsInCheck (after b by).cells (other attacker)
check_of Attacker attacker b moves by are there e = (are.sound by there).check
check_of Defender attacker b moves by are there e = absurd (cc)

-- Who is to move behind the defender's move, it isn't the defender.
turned : (a s : Side) → node_of a (other s) ≡ Defender → node_of a s ≡ Attacker
turned Black Black e = refl
turned Black White e = absurd (cc)
turned White Black e = absurd (cc)
turned White White e = refl

-- The position after the move is one as play leads to it.
pub child_played : (task : Task) (path : List Key) (f : FrameView) (place : ℕ) (child : Child) (by : Move) (next : Board) → IsListed task path f
    → slice_get f.children place ≡ Some child → Some by ≡ Some child.by → next ≡ after f.place.position by → next.side ≡ other f.place.position.side
    → IsQuiet next → ((side : Side) → kings_of next side ≡ kings_of f.place.position side) → IsKept next → IsPlayed (attacker_in task) next
child_played task path f place child by next listed there is after_is turn quiet kings kept = record {
  kept = kept;
  play = record { has_king = subst (λ (n : ℕ). 0 < n) (sym (kings (other (attacker_in task)))) listed.played.play.has_king; quiet = quiet };
  checked = λ defends.
      let at : node_of (attacker_in task) f.place.position.side ≡ Attacker =
      turned (attacker_in task) f.place.position.side (ap (node_of (attacker_in task)) (sym turn) ∙ defends) in
      let e : next ≡ after f.place.position child.by = after_is ∙ ap (after f.place.position) (same_Some by child.by is) in
      subst (λ (b : Board). IsInCheck b.cells (other (attacker_in task))) (sym e)
      (check_of (node_at (attacker_in task) f.place.position) (attacker_in task) f.place.position (map move_to f.children) child.by listed.moves (moves_hold f.children place child there) at);
}

not_itself : (s : Side) → node_of s s ≡ Defender → ⊥
not_itself Black e = absurd (cc)
not_itself White e = absurd (cc)

-- The problem's position is one as play leads to it.
pub problem_played : (b : Board) → IsKept b → IsProblem b → IsPlayed b.side b
problem_played b kept is = record {
  kept = kept;
  play = record { has_king = is.has_king; quiet = is.quiet };
  checked = λ defends. absurd (not_itself b.side defends);
}

-- The innermost of sound visits is listed.
pub top_listed : (task : Task) (frames : List FrameView) (f : FrameView) → AreSound task frames → Some f ≡ top_of frames
    → (path : List Key) × IsListed task path f
top_listed task [] f sound is = absurd (cc)
top_listed task (g ∷ gs) f sound is =
    let e : f ≡ g = same_Some f g is in
    subst (λ (z : FrameView). (path : List Key) × IsListed task path z) (sym e) (path_of task (g ∷ gs), sound.0.listed)

-- what the innermost visit looks at next
pub top_looks : (frames : List FrameView) (f : FrameView) (due : Option ℕ) → Some f ≡ top_of frames
    → IfSome due (λ place. (task : Task) → Settles task f (Looking place) f)
    → IfSome due (λ place. HasTop (λ g. (task : Task) → Settles task g (Looking place) g) frames)
top_looks frames f None is looks = tt
top_looks [] f (Some place) is looks = absurd (cc)
top_looks (g ∷ gs) f (Some place) is looks =
    subst (λ (z : FrameView). (task : Task) → Settles task z (Looking place) z) (same_Some f g is) looks

-- where a look comes next, the machine goes on so
pub looks_on : (s : State) (place : ℕ) (task : Task) (frames : List FrameView) → s.frames ≡ frames
    → HasTop (λ f. (task : Task) → Settles task f (Looking place) f) frames
    → HasOver (λ f fs. GoesOn task s f fs (at_stage s (Looking place) s.frames)) frames
looks_on s place task [] are looks = absurd looks
looks_on s place task (f ∷ fs) are looks =
    record { next = f; settles = looks task; is = ap (at_stage s (Looking place)) are }

pub top_child : (frames : List FrameView) (f : FrameView) (by : Move) → IsMoveTo frames (Some by) → Some f ≡ top_of frames
    → (child : Child) × (slice_get f.children f.chosen ≡ Some child) × (Some by ≡ Some child.by)
top_child [] f by to is = absurd (cc)
top_child (g ∷ gs) f by to is =
    let e : f ≡ g = same_Some f g is in
    subst (λ (z : FrameView). (child : Child) × (slice_get z.children z.chosen ≡ Some child) × (Some by ≡ Some child.by)) (sym e) to
