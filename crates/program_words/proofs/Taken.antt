-- What clap gives where it takes the words: what one of the commands wants of it.
use Rattle.std.proofs.Common.{◌≡◌, ◌∙◌, inl, inr, true, false, List, Option, Some, None, String, refl, sym, subst}
use Rattle.std.specs.Prelude.{IsSomeAnd}
use Rattle.std.specs.Global.{Global}
use Rattle.clap.specs.Faults.{is_simple_and_free}
use Rattle.clap.specs.Simple.{App, built, is_simple, subcommand_of}
use Rattle.clap.specs.Walk.{Row, Text}
use Rattle.clap.proofs.OnLiterals.{clap_on_literals}
use Rattle.search_limits.specs.Settings.{PowersHaveOneBit}
use Rattle.search_limits.specs.Sizes.{SettingsView}
use Rattle.tsume_words.specs.declared.faults.WordFault.{WordFault}
use Rattle.tsume_words.specs.declared.faults.WordFault.TheVariants.{Clap}
use Rattle.tsume_words.specs.Meaning.{HasTestLaws, IsTakenByClap, all_words}
use Rattle.tsume_words.proofs.Offered.{Each, GivesIfNamed, clash_laws, help_alone, search_test_laws, taken_gives}
use Rattle.program_words.specs.Commands.{clash_in, commands, numbers_of}
use Rattle.program_words.specs.Line.{tsume_line}
use Rattle.program_words.specs.Meaning.{FailFirstIfAny, are_sound_if_any, command_tests, number_tests}

-- what holds of the first, and of each behind it
infixr 4 ◌and◌
◌and◌ : {First Others : Type 0} → First → Others → First × Others
first and others = (first, others)

-- what a command line has to be for clap's meaning to say all of it, and for each command to be
-- given what it wants
pub record IsFit (line : App) : Type 0 where
  pub simple : is_simple_and_free line ≡ true
  pub alone : is_simple line ≡ true
  pub wants : (built line).top.subcommand_required ≡ true
  pub helps : (built line).top.disable_help_subcommand ≡ false
  pub each : Each (GivesIfNamed commands.IsGiven) (built line).subs

-- in the order of the help, whose own command is the last
pub fit : IsFit tsume_line
unfolding tsume_line Rattle.cmd_solve.specs.Line.solve_line Rattle.cmd_shortest.specs.Line.shortest_line Rattle.cmd_cook.specs.Line.cook_line Rattle.cmd_check.specs.Line.check_line Rattle.cmd_survey.specs.Line.survey_line Rattle.cmd_collection.specs.Line.collection_line Rattle.cmd_solution.specs.Line.solution_line Rattle.cmd_record.specs.Line.record_line Rattle.cmd_upgrade.specs.Line.upgrade_line Rattle.cmd_usi.specs.Line.usi_line clap_on_literals
fit = record {
  simple = refl;
  alone = refl;
  wants = refl;
  helps = refl;
  each = (λ word answers other words e. inl (refl, Rattle.cmd_solve.proofs.Offered.solve_is_given words e))
      and (λ word answers other words e. inr (inl (refl, Rattle.cmd_shortest.proofs.Offered.shortest_is_given words e)))
      and (λ word answers other words e. inr (inr (inl (refl, Rattle.cmd_cook.proofs.Offered.cook_is_given words e))))
      and (λ word answers other words e. inr (inr (inr (inl (refl, Rattle.cmd_check.proofs.Offered.check_is_given words e)))))
      and (λ word answers other words e. inr (inr (inr (inr (inl (refl, Rattle.cmd_survey.proofs.Offered.survey_is_given words e))))))
      and (λ word answers other words e. inr (inr (inr (inr (inr (inl (refl, Rattle.cmd_collection.proofs.Offered.collection_is_given words e)))))))
      and (λ word answers other words e. inr (inr (inr (inr (inr (inr (inl (refl, Rattle.cmd_solution.proofs.Offered.solution_is_given words e))))))))
      and (λ word answers other words e. inr (inr (inr (inr (inr (inr (inr (inl (refl, Rattle.cmd_record.proofs.Offered.record_is_given words e)))))))))
      and (λ word answers other words e. inr (inr (inr (inr (inr (inr (inr (inr (inl (refl, Rattle.cmd_upgrade.proofs.Offered.upgrade_is_given words e))))))))))
      and (λ word answers other words e. inr (inr (inr (inr (inr (inr (inr (inr (inr (inl (refl, Rattle.cmd_usi.proofs.Offered.usi_is_given words e)))))))))))
      and (λ word answers other words e. absurd (help_alone word answers other))
      and tt;
}

pub command_where_taken : (words : List Text) (o : Option (Text × List Row)) → IsTakenByClap tsume_line words
    → o ≡ subcommand_of tsume_line (all_words words) → IsSomeAnd o commands.IsGiven
command_where_taken words o taken is =
    let got = taken_gives commands.IsGiven tsume_line words fit.wants fit.helps fit.each taken in
    subst (λ (q : Option (Text × List Row)). IsSomeAnd q commands.IsGiven) (sym (is ∙ got.1)) got.2

-- the tests of numbers that may be given have the laws of tests
number_test_laws : PowersHaveOneBit → HasTestLaws number_tests
number_test_laws law = record {
  unsound = λ f view failed sound. unsound f (numbers_of view) failed sound;
  one = λ f g view s t. one f g (numbers_of view) s t;
  own = λ text view failed. own text (numbers_of view) failed;
}
  where
    unsound : (f : WordFault) (n : Option SettingsView) → FailFirstIfAny f n → are_sound_if_any n ≡ true → ⊥
    unsound f None failed sound = failed
    unsound f (Some n) failed sound = (search_test_laws law (λ (v : SettingsView). v)).unsound f n failed sound

    one : (f g : WordFault) (n : Option SettingsView) → FailFirstIfAny f n → FailFirstIfAny g n → g ≡ f
    one f g None s t = absurd s
    one f g (Some n) s t = (search_test_laws law (λ (v : SettingsView). v)).one f g n s t

    own : (text : String Global) (n : Option SettingsView) → FailFirstIfAny (Clap text) n → ⊥
    own text None failed = failed
    own text (Some n) failed = (search_test_laws law (λ (v : SettingsView). v)).own text n failed

-- so have all tests of what words ask for
pub command_test_laws : PowersHaveOneBit → HasTestLaws command_tests
command_test_laws law = clash_laws number_tests clash_in (number_test_laws law)
