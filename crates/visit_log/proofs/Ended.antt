-- A worker asks for its end exactly where it has ended.
use Rattle.std.proofs.Common.{◌≡◌, List, [], ◌∷◌, refl, sym, subst}
use Rattle.std.specs.Prelude.{◌↔◌, Option, Some, None, slice_get}
use Rattle.visit_log.specs.declared.parts.Child.{Child}
use Rattle.visit_log.specs.declared.parts.Stage.{Stage}
use Rattle.visit_log.specs.declared.parts.Stage.TheVariants.{Polling, Drawing, Entering, Looking, Claiming, Leaving, Posting, Winding}
use Rattle.visit_log.specs.declared.words.WorkEnd.{WorkEnd}
use Rattle.visit_log.specs.declared.words.Request.{Request}
use Rattle.visit_log.specs.declared.words.Request.TheVariants.{Poll, Draw as Draws, Claim as Claims, Post, End}
use Rattle.visit_log.specs.Frame.{Task, FrameView}
use Rattle.visit_log.specs.Visit.{Exchange}
use Rattle.visit_log.specs.Machine.{start, asks_at, ask_look, end_at}
use Rattle.visit_log.specs.Run.{events}
use Rattle.visit_log.specs.Laws.{AsksItsEnd}
use Rattle.visit_log.proofs.Stands.{StandsAt, stands_after}

-- What is asked where nothing has ended is no End.
abbrev IsGoing : Request → Type 0
IsGoing (End end) = ⊥
IsGoing request = Unit {0}

-- So it is where the worker goes on.
goes_on : (request : Request) (end : WorkEnd) → IsGoing request → (request ≡ End end) ↔ (None ≡ Some end)
goes_on request end going = (λ is. absurd (subst IsGoing is going), λ is. absurd (cc))

-- It asks for its end exactly where it stands at it.
ends_at : (task : Task) (stage : Stage) (fs : List FrameView) (log : List Exchange) (end : WorkEnd) → StandsAt task stage fs log
    → (asks_at stage fs ≡ End end) ↔ (end_at stage fs ≡ Some end)
ends_at task (Polling entry) fs log end h = goes_on Poll end tt
ends_at task (Drawing entry) fs log end h = goes_on Draws end tt
ends_at task Entering [] log end h = absurd h
ends_at task Entering (f ∷ fs) log end h = goes_on _ end tt
ends_at task (Looking place) [] log end h = absurd h
ends_at task (Looking place) (f ∷ fs) log end (here, (child, looks)) =
    goes_on (ask_look (slice_get f.children place)) end (subst (λ (o : Option Child). IsGoing (ask_look o)) (sym looks.there) tt)
ends_at task Claiming fs log end h = goes_on Claims end tt
ends_at task (Leaving left) [] log end h = absurd h
ends_at task (Leaving left) (f ∷ fs) log end h = goes_on _ end tt
ends_at task (Posting None) fs log end h = absurd h
ends_at task (Posting (Some note)) fs log end h = goes_on (Post note) end tt
ends_at task (Winding reason) [] log end h = (λ is. cc, λ is. cc)
ends_at task (Winding reason) (f ∷ fs) log end h = goes_on _ end tt

-- A worker that a log leads to asks for its end exactly where it has ended so.
pub asks_end : AsksItsEnd
asks_end task happenings s end is runs =
    ends_at task s.stage s.frames (events happenings) end (stands_after task happenings (start task) s [] (refl, refl) runs)
