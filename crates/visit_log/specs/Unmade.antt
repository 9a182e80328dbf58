-- A note that wasn't made, since it would have been too high: of which visit, from which notes, and
-- where this stands in the log.
use Rattle.std.specs.Prelude.{◌≡◌, ◌<◌, ◌+◌, ℕ, List, [], Contains}
use Rattle.notes.specs.Derivation.{Derivation, highest}
use Rattle.notes.specs.declared.words.Kept.{Kept}
use Rattle.notes.specs.declared.rule.Rule.{Rule}
use Rattle.notes.specs.declared.words.RoomAnswer.TheVariants.{Room}
use Rattle.visit_log.specs.Frame.{Task, Place, FrameView, root, opened}
use Rattle.visit_log.specs.Children.{rule_at, notes_under}
use Rattle.visit_log.specs.Round.{node_in, Solves, child_place}
use Rattle.visit_log.specs.Visit.{Exchange, Visit, Visited, Tail, Unmade, Under, known_after, entered, claimed, visit_on, IsVisit}

-- The visit ended since a note wasn't made: its own, or that of a visit under it with which it
-- winds up. So much was known in the one whose note it was, and this room was given for the note.
abbrev mutual
  pub IsUnmadeIn : Task → Place → Visit → FrameView → ℕ → Type 0
  IsUnmadeIn task p (Visited number kept children doings tail) f room =
      IsUnmadeBy task (known_after task (opened p kept children) doings) tail f room
  IsUnmadeIn task p visit f room = ⊥

  pub IsUnmadeBy : Task → FrameView → Tail → FrameView → ℕ → Type 0
  IsUnmadeBy task g (Unmade given end) f room = (f ≡ g) × (room ≡ given)
  IsUnmadeBy task g (Under choice visit) f room = IsUnmadeIn task (child_place task g choice) visit f room
  IsUnmadeBy task g tail f room = ⊥

-- What is known of a note that would have been too high. The visit in which it wasn't made had
-- entered its position, and all was known in it that solves it: by this rule the note would have
-- been made of these notes of its successors; the highest of them is so high that the note's
-- height, one more, would have been above 4,096; and room for it was claimed and given.
pub record IsTooHigh (task : Task) (unmade : FrameView → ℕ → Type 0) (log : List Exchange) : Type 0 where
  pub solved : FrameView
  pub room : ℕ
  pub is_unmade : unmade solved room
  pub solves : Solves task solved
  pub rule : Rule
  pub by : rule ≡ rule_at (node_in task solved) solved.children
  pub under : List Derivation
  pub made_of : under ≡ notes_under (node_in task solved) solved.children
  pub too_high : 4096 < highest under + 1
  pub kept : Kept
  pub enters : Contains log (entered solved.place kept)
  pub claims : Contains log (claimed (Room room))

-- The log is that of a visit of the problem's position that ended since this note would have been
-- too high.
pub record EndsTooHigh (task : Task) (log : List Exchange) : Type 0 where
  pub visit : Visit
  pub is_visit : IsVisit task [] (root task) visit
  pub writes : visit_on task [] (root task) visit ≡ log
  pub note : IsTooHigh task (λ f room. IsUnmadeIn task (root task) visit f room) log
