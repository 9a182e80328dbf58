-- What reading the words came to, for whoever runs what they ask for.
use Rattle.std.proofs.Common.{◌≡◌, ◌⊎◌, ◌∙◌, inl, inr, Option, Some, None, String, Global, Result, Ok, Err, ap, refl, subst, sym}
use Rattle.std.specs.Prelude.{IsOkAnd}
use Rattle.program_words.specs.Commands.{CommandView, command_view}
use Rattle.program_words.specs.declared.command.Asked.{Asked}
use Rattle.tsume_words.specs.declared.faults.WordFault.{WordFault}
use Rattle.tsume_words.specs.declared.faults.WordsEnd.{WordsEnd}
use Rattle.tsume_words.specs.declared.faults.WordsEnd.TheVariants as ends
use Rattle.one_run.specs.declared.written.Written.{Written}
use Rattle.one_run.specs.declared.written.Written.TheVariants.{NoMemory as WantsMore}
use Rattle.one_run.specs.Written.{IsWhole}
use Rattle.tsume_app.specs.declared.ended.Ended.TheVariants.{Help}
use Rattle.tsume_app.specs.Run.{GivesHelp, WantsMemory}

-- words that were taken failed no test
pub taken_not_failed : (r : Result Asked WordsEnd) (asked : Asked) (a b : WordsEnd) → r ≡ Ok asked → (r ≡ Err a) ⊎ (r ≡ Err b) → ⊥
taken_not_failed r asked a b is (inl e) = absurd (cc)
taken_not_failed r asked a b is (inr e) = absurd (cc)

-- and neither was a request for help
pub help_not_failed : (r : Result Asked WordsEnd) (text : String Global) (fault : WordFault) → r ≡ Err (ends.Help text)
    → (r ≡ Err (ends.Fault fault)) ⊎ (r ≡ Err ends.NoMemory) → ⊥
help_not_failed r text fault is (inl e) = absurd (cc)
help_not_failed r text fault is (inr e) = absurd (cc)

-- one test stops words
pub same_fault : (r : Result Asked WordsEnd) (f fault : WordFault) → r ≡ Err (ends.Fault f) → (r ≡ Err (ends.Fault fault)) ⊎ (r ≡ Err ends.NoMemory) → f ≡ fault
same_fault r f fault is (inl e) = cc
same_fault r f fault is (inr e) = absurd (cc)

-- words that ended in help, or were refused, ask for no command
pub nothing_asked : (o : Option CommandView) (r : Result Asked WordsEnd) (e : WordsEnd) → r ≡ Err e → (e ≡ ends.NoMemory → ⊥)
    → ((view : CommandView) → o ≡ Some view → IsOkAnd r (λ asked. command_view asked.command ≡ view) ⊎ (r ≡ Err ends.NoMemory)) → o ≡ None
nothing_asked None r e is other complete = refl
nothing_asked (Some view) r e is other complete = absurd (go (complete view refl))
  where
    go : IsOkAnd r (λ asked. command_view asked.command ≡ view) ⊎ (r ≡ Err ends.NoMemory) → ⊥
    go (inl taken) = subst (λ (x : Result Asked WordsEnd). IsOkAnd x (λ asked. command_view asked.command ≡ view)) is taken
    go (inr wants) = let same = sym is ∙ wants in other (cc)

pub help_is_no_want : (text : String Global) → ends.Help text ≡ ends.NoMemory → ⊥
help_is_no_want text is = cc

pub fault_is_no_want : (fault : WordFault) → ends.Fault fault ≡ ends.NoMemory → ⊥
fault_is_no_want fault is = cc

-- help that was written is given
pub help_of : (written : Written (String Global)) → IsWhole written ⊎ (written ≡ WantsMore) → GivesHelp (Help written) ⊎ WantsMemory (Help written)
help_of written (inl whole) = inl (whole.0, ap Help whole.1)
help_of written (inr wants) = inr (inr (ap Help wants))
