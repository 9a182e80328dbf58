-- What runs come to that read nothing.
use Rattle.std.proofs.Common.{◌≡◌, inl, inr, refl, subst, sym}
use Rattle.tsume_io.specs.Sink.{GrewBy, GrewByPrefix}
use Rattle.one_run.specs.declared.written.Written.{Written}
use Rattle.one_run.specs.declared.written.Written.TheVariants.{Whole, InPart, NoMemory}
use Rattle.one_run.specs.Outside.{Shown}
use Rattle.one_run.specs.Written.{HasWritten, IsStatedEnd, IsStatedRun, Statement}

-- an answer that is true, and was written so, was a run of the command
pub stated_run : {A : Type 0} (command : Statement A) (sink : Shown) (answer : A) (written : Written A) → command.IsTrue answer
    → HasWritten (command.text_of answer) sink answer written → IsStatedRun command sink written
stated_run {A} command sink answer (Whole told) is w = record {
  does = (
    subst (λ (a : A). command.IsTrue a) (sym w.0) is,
    subst (λ (a : A). GrewBy sink.told sink.told_after (command.text_of a)) (sym w.0) w.1,
    w.2,
  );
  complete = λ kept. inl (told, refl);
}
stated_run {A} command sink answer (InPart told) is w = record {
  does = (
    subst (λ (a : A). command.IsTrue a) (sym w.0) is,
    subst (λ (a : A). GrewByPrefix sink.told sink.told_after (command.text_of a)) (sym w.0) w.1,
    w.2,
  );
  complete = λ kept. absurd (kept w.2);
}
stated_run command sink answer NoMemory is w = record { does = w; complete = λ kept. inr refl }

-- an answer that was written whole is true
pub whole_is_true : {A : Type 0} (command : Statement A) (sink : Shown) (answer : A) (written : Written A) → IsStatedRun command sink written → written ≡ Whole answer
    → command.IsTrue answer
whole_is_true {A} command sink answer written run is = (subst (λ (w : Written A). IsStatedEnd command sink w) is run.does).0
