use Rattle.std.proofs.Common.{List, [], ◌∷◌, subst}
use Rattle.notes.specs.Derivation.{Derivation}
use Rattle.visit_log.specs.Frame.{Task, FrameView}
use Rattle.visit_log.specs.Round.{IsMade, IsRefusal}
use Rattle.visit_log.specs.declared.words.WorkEnd.TheVariants.{NoMemory}
use Rattle.visit_log.proofs.Offered.{made_low}
use Rattle.worker_core.specs.Machine.{CoreView}
use Rattle.worker_core.specs.Stack.{HasTop}
use Rattle.worker_core.proofs.machine.Core.made.Goals as goal

-- where a note is made, it isn't too high
top_low : (task : Task) (frames : List FrameView) (note : Derivation) → HasTop (λ f. IsMade task f note) frames → HasTop (λ f. IsRefusal task f NoMemory) frames
top_low task [] note made = made
top_low task (f ∷ fs) note made = made_low task f note made

pub returns-in_err-copy-clause-low : goal.returns-in_err-copy-clause-low
returns-in_err-copy-clause-low c = λ _.
    subst (λ (z : CoreView). HasTop (λ f. IsRefusal z.task f NoMemory) z.state.frames) c.self.view_is
    (top_low c.self.inside.stack.task c.self.inside.stack.frames c.in_ok-note.note c.in_ok-note.ensures.made)
