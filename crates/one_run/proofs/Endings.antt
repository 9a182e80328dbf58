-- What endings come to.
use Rattle.std.proofs.Common.{◌≡◌, ◌∙◌, ◌++◌, [], inl, inr, ℕ, List, Option, Some, None, arith, refl, subst, sym}
use Rattle.std.proofs.lemmas.List.{append-nil}
use Rattle.tsume_io.specs.Sink.{GrewBy, GrewByPrefix}
use Rattle.tsume_io.specs.Source.{Took, TookAll, TookAtMost}
use Rattle.one_run.specs.declared.ended.Ended.TheVariants.{Failed}
use Rattle.one_run.specs.declared.ended.Fault.TheVariants.{NoMemory}
use Rattle.one_run.specs.Command.{Meaning}
use Rattle.one_run.specs.declared.written.Written.{Written}
use Rattle.one_run.specs.declared.written.Written.TheVariants.{Whole, InPart}
use Rattle.one_run.specs.declared.written.Written.TheVariants as written
use Rattle.one_run.specs.Outside.{Shown, IsUntouched, NeverFailed}
use Rattle.one_run.specs.Run.{IsAllOrNone, IsReadWhole, IsRun}
use Rattle.one_run.specs.Stops.{Signals, AreUnused}
use Rattle.one_run.specs.Written.{HasWritten, ended_by}

-- what was taken is what was left
pub took_it : (left left_after : Option (List ℕ)) (input told : List ℕ) → left ≡ Some told → TookAll left left_after input → input ≡ told
took_it None left_after input told is took = absurd (cc)
took_it (Some before) None input told is took = absurd took
took_it (Some before) (Some after) input told is took = let same : before ≡ told = cc in took.0 ∙ same

-- where nothing was read, no more than any limit was taken
took_none : (limit : ℕ) (left left_after : Option (List ℕ)) → left_after ≡ left → TookAtMost limit left left_after
took_none limit left left_after same = subst (λ (l : Option (List ℕ)). TookAtMost limit left l) (sym same) (none left)
  where
    none : (left : Option (List ℕ)) → TookAtMost limit left left
    none None = ([], omega arith, tt)
    none (Some before) = ([], omega arith, refl)

-- all that was left was taken from its front
all_took : (left left_after : Option (List ℕ)) (input : List ℕ) → TookAll left left_after input → Took left left_after input
all_took None None input took = tt
all_took (Some before) (Some after) input took = sym took.0 ∙ sym (subst (λ (rest : List ℕ). input ++ rest ≡ input) (sym took.1) (append-nil input))
all_took None (Some after) input took = absurd took
all_took (Some before) None input took = absurd took

-- memory may be wanted after all was read, and no byte of it kept
pub wanted_more : (limit : ℕ) (source : Shown) (input : List ℕ) → IsReadWhole limit source input
    → TookAtMost limit source.told source.told_after × IsAllOrNone source []
wanted_more limit source input read = ((input, read.short, all_took source.told source.told_after input read.took), inl refl)

-- a run that wanted memory before it began keeps what it promises
pub unbegun_run : {A F : Type 0} (command : Meaning A F) (stops : Signals) (source sink : Shown) → AreUnused stops → IsUntouched source
    → IsUntouched sink → IsRun command stops source sink (Failed NoMemory [])
unbegun_run command stops source sink unused unread unwritten = record {
  does = ((took_none command.limit source.told source.told_after unread.told, inl refl), unwritten);
  used = inr unused;
  counted = (unread.faults, unwritten.faults);
  complete = λ posed sound kept. inr ([], refl);
}

-- a text that was read whole, and whose answer was written so, was a run of the command
pub written_run : {A F : Type 0} (command : Meaning A F) (stops : Signals) (source sink : Shown) (input : List ℕ) (answer : A) (written : Written A)
    → IsReadWhole command.limit source input → NeverFailed source → command.IsTrue stops input answer → command.Uses stops
    → HasWritten (command.text_of answer) sink answer written → IsRun command stops source sink (ended_by written)
written_run {A} command stops source sink input answer (Whole told) read kept is uses w = record {
  does = record {
    decided = record { input = input; read = read; true_of = subst (λ (a : A). command.IsTrue stops input a) (sym w.0) is };
    grew = subst (λ (a : A). GrewBy sink.told sink.told_after (command.text_of a)) (sym w.0) w.1;
  };
  used = uses;
  counted = (kept, w.2);
  complete = λ posed sound keeps. inl (told, refl);
}
written_run {A} command stops source sink input answer (InPart told) read kept is uses w = record {
  does = record {
    decided = record { input = input; read = read; true_of = subst (λ (a : A). command.IsTrue stops input a) (sym w.0) is };
    grew = subst (λ (a : A). GrewByPrefix sink.told sink.told_after (command.text_of a)) (sym w.0) w.1;
    rose = w.2;
  };
  used = uses;
  counted = kept;
  complete = λ posed sound keeps. absurd (keeps w.2);
}
written_run command stops source sink input answer written.NoMemory read kept is uses w = record {
  does = (wanted_more command.limit source input read, w);
  used = inl uses;
  counted = (kept, w.faults);
  complete = λ posed sound keeps. inr ([], refl);
}
