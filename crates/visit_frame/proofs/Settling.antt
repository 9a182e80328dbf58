-- What comes next in a visit, and what a look may tell, as the frame has it.
use Rattle.std.proofs.Common.{◌≡◌, ℕ, true, false, List, Some, inr, refl, sym}
use Rattle.std.specs.Prelude.{slice_get, IsSome, All}
use Rattle.std.proofs.lemmas.Bool.{false≢true}
use Rattle.board_core.specs.declared.keys.Key.{Key}
use Rattle.pn_numbers.specs.Numbers.{IsOpen}
use Rattle.notes.specs.declared.words.Seen.{Seen}
use Rattle.visit_log.specs.declared.parts.Child.{Child}
use Rattle.visit_log.specs.declared.parts.Look.{Look}
use Rattle.visit_log.specs.declared.parts.Look.TheVariants.{Due, Fresh, Stale}
use Rattle.visit_log.specs.Frame.{Task, attacker_in, FrameView}
use Rattle.visit_log.specs.Children.{is_due, is_fresh, child_is_due}
use Rattle.visit_log.specs.Round.{node_in, Selects, LooksNext, GoesDown, MayShow}
use Rattle.visit_log.specs.Sound.{IsSoundChild, IsListed}
use Rattle.visit_frame.specs.Telling.{MayTell}
use Rattle.visit_frame.proofs.Places.{there, all_at, find_none, position_none}
use Rattle.visit_frame.proofs.Refuted.{move_legal}

-- the children of a listed visit count with open numbers
pub opens_of : (task : Task) (path : List Key) (f : FrameView) → IsListed task path f → All (λ child. IsOpen child.numbers) f.children
opens_of task path f listed = λ k d inside. (listed.children k d inside).in_range

fresh_is : (look : Look) → is_fresh look ≡ true → look ≡ Fresh
fresh_is Due h = absurd (false≢true h)
fresh_is Fresh h = refl
fresh_is Stale h = absurd (false≢true h)

stale_is : (look : Look) → is_fresh look ≡ false → is_due look ≡ false → look ≡ Stale
stale_is Due h d = absurd (false≢true (sym d))
stale_is Fresh h d = absurd (false≢true (sym h))
stale_is Stale h d = refl

-- the selected child is visited, where this round has looked at it
pub goes_down : (task : Task) (path : List Key) (f : FrameView) (at next : ℕ) (child : Child) → IsListed task path f → slice_get f.children at ≡ Some child
    → Selects task f at next → is_fresh child.look ≡ true → GoesDown task f (record { place = at; child = child; second = next })
goes_down task path f at next child listed here selects fresh = record {
  there = here;
  selects = selects;
  fresh = fresh_is child.look fresh;
  in_range = (all_at (IsSoundChild task f.place.position path) f.children at child listed.children here).in_range;
}

-- and else looked at
pub looks_next : (task : Task) (f : FrameView) (at second : ℕ) (child : Child) → slice_get f.children at ≡ Some child
    → Selects task f at second → is_fresh child.look ≡ false → LooksNext task f at child
looks_next task f at second child here selects fails = record {
  there = here;
  next = inr (
    stale_is child.look fails (find_none child_is_due f.children at child (position_none child_is_due f.children selects.none_due) here),
    (second, selects),
  );
}

-- what may be told of a child
pub may_tell : (task : Task) (path : List Key) (f : FrameView) (place : ℕ) (seen : Seen) → IsListed task path f
    → ((child : Child) → slice_get f.children place ≡ Some child → MayShow (attacker_in task) child.key path seen) → IsSome (slice_get f.children place)
    → MayTell (attacker_in task) f.place.position f.children place seen
may_tell task path f place seen listed may here =
    let at = there f.children place here in record {
      child = at.0;
      there = at.1;
      legal = move_legal (node_in task f) (attacker_in task) f.place.position f.children place at.0 listed.moves at.1;
      key = (all_at (IsSoundChild task f.place.position path) f.children place at.0 listed.children at.1).key;
      path = path;
      may = may at.0 at.1;
    }
