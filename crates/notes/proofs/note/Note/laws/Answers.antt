use Rattle.std.proofs.Common.{subst}
use Rattle.notes.specs.Valid.{IsValid}
use Rattle.notes.proofs.note.Note.laws.Goals as goal

pub returns-clause-true_note : goal.returns-clause-true_note
returns-clause-true_note c = c.note_laws.ensures c.args.self.now (subst IsValid c.self.view_is c.self.invariant.0)
