-- The visits of a worker that are going on.
use Rattle.std.specs.Prelude.{◌≡◌, ℕ, List, [], ◌∷◌, Option, Some, None, is_some, if◌then◌else◌, reverse}
use Rattle.board_core.specs.declared.keys.Key.{Key}
use Rattle.board_core.specs.Board.{Board}
use Rattle.visit_log.specs.Frame.{Task, FrameView, task_for}
use Rattle.visit_log.specs.Machine.{path_of}

-- Whose search it is, and its visits, the innermost first.
pub record StackView : Type 0 where
  pub task : Task
  pub frames : List FrameView

-- Some visits, the innermost last, in the search of a problem by the worker of this number.
abbrev pub stack_of : Board → ℕ → List FrameView → StackView
stack_of problem worker visits = record { task = task_for problem worker; frames = reverse visits }

-- The path is that of these visits, the innermost last, in such a search.
abbrev pub IsPathOf : List Key → Board → ℕ → List FrameView → Type 0
IsPathOf path problem worker visits = path ≡ path_of (task_for problem worker) (reverse visits)

-- The innermost visit; none where there is none.
abbrev pub top_of : List FrameView → Option FrameView
top_of [] = None
top_of (f ∷ fs) = Some f

-- There is an innermost visit, and it has the property.
abbrev pub HasTop : (FrameView → Type 0) → List FrameView → Type 0
HasTop P [] = ⊥
HasTop P (f ∷ fs) = P f

-- The innermost visit is changed so; the others stay.
abbrev pub ChangesTop : (FrameView → FrameView → Type 0) → List FrameView → List FrameView → Type 0
ChangesTop Changes [] after = ⊥
ChangesTop Changes (f ∷ fs) after = (g : FrameView) × Changes f g × (after ≡ g ∷ fs)

-- There is an innermost visit, and it has this to the others.
abbrev pub HasOver : (FrameView → List FrameView → Type 0) → List FrameView → Type 0
HasOver P [] = ⊥
HasOver P (f ∷ fs) = P f fs

-- The visits without the innermost, where that hasn't entered its position.
abbrev pub without_unentered : List FrameView → List FrameView
without_unentered [] = []
without_unentered (f ∷ fs) = if is_some f.kept then f ∷ fs else fs
