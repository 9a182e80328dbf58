-- From what clap gives, and the tests after it, to what the reading of the words promises.
use Rattle.std.proofs.Common.{◌≡◌, ◌∙◌, ◌<◌, ◌⊎◌, ◌&&◌, inl, inr, Bool, true, false, List, [], ◌∷◌, Option, Some, None, Result, Ok, Err, String, refl, sym, ap, subst, arith, IfOk, IfErr, nat_le}
use Rattle.std.specs.Prelude.{IsOkAnd, IsSomeAnd, option_and_then, if◌then◌else◌}
use Rattle.std.specs.Global.{Global}
use Rattle.std.specs.Int.{IsPowerOfTwo, is_power_of_two}
use Rattle.std.proofs.lemmas.Bool.{leb-true}
use Rattle.clap.specs.Walk.{Row, Text}
use Rattle.search_limits.specs.Settings.{PowersHaveOneBit}
use Rattle.search_limits.specs.Sizes.{SettingsView}
use Rattle.clap.specs.Kinds.{IsAmong, Kinds}
use Rattle.clap.specs.declared.error.kind.ErrorKind.{ErrorKind}
use Rattle.clap.specs.Simple.{subcommand_of}
use Rattle.tsume_words.specs.Meaning.{Asks, CommandMeaning, FailFirst, HasTestLaws, IsClapsEnd, IsClashOf, IsEnd, IsHelp, IsOutcome, IsReading, IsRefused, FailsAt, IsTakenByClap, ProgramMeaning, Tests}
use Rattle.tsume_words.specs.Meaning.{all_words, are_sound, asked_by, clap_faults, file_by, given_by, if_sound, is_without, no_tests, search_tests, unless_faulty, without_clash}
use Rattle.search_limits.specs.declared.faults.Size.TheVariants.{Rows, Shards}
use Rattle.tsume_words.specs.declared.faults.WordFault.{WordFault}
use Rattle.tsume_words.specs.declared.faults.WordFault.TheVariants.{Clap, NotPowerOfTwo, MoreShardsThanRows, Clash}
use Rattle.tsume_words.specs.declared.faults.Clash.{Clash as ClashKind}
use Rattle.tsume_words.specs.declared.faults.WordsEnd.{WordsEnd}
use Rattle.tsume_words.specs.declared.faults.WordsEnd.TheVariants.{Help, Fault, NoMemory}

-- ---- the tests of commands

-- where there are no tests, they have their laws
pub no_test_laws : {View : Type 0} → HasTestLaws (no_tests {View = View})
no_test_laws = record { unsound = λ f v failed sound. failed; one = λ f g v a b. absurd a; own = λ text v failed. failed }

-- sound numbers pass each test
sound_parts : PowersHaveOneBit → (n : SettingsView) → are_sound n ≡ true → IsPowerOfTwo n.rows × IsPowerOfTwo n.shards × (n.rows < n.shards → ⊥)
sound_parts law n e = go (is_power_of_two n.rows) refl (is_power_of_two n.shards) refl (nat_le n.shards n.rows) refl e
  where
    go : (a : Bool) → is_power_of_two n.rows ≡ a → (b : Bool) → is_power_of_two n.shards ≡ b → (d : Bool) → nat_le n.shards n.rows ≡ d
        → (a && (b && d)) ≡ true → IsPowerOfTwo n.rows × IsPowerOfTwo n.shards × (n.rows < n.shards → ⊥)
    go true r true s true l e = ((law n.rows).0 r, (law n.shards).0 s, λ more. let le = leb-true n.shards n.rows l in omega arith)
    go true r true s false l e = absurd cc
    go true r false s d l e = absurd cc
    go false r b s d l e = absurd cc

unsound : PowersHaveOneBit → (f : WordFault) (n : SettingsView) → FailFirst f n → are_sound n ≡ true → ⊥
unsound law (NotPowerOfTwo Rows) n fails sound = fails (sound_parts law n sound).0
unsound law (NotPowerOfTwo Shards) n fails sound = fails.1 (sound_parts law n sound).1
unsound law MoreShardsThanRows n fails sound = (sound_parts law n sound).2 fails.2
unsound law (Clap text) n fails sound = fails
unsound law (Clash which) n fails sound = fails

-- only one test is the first to fail
one_first : (f g : WordFault) (n : SettingsView) → FailFirst f n → FailFirst g n → g ≡ f
one_first (Clap text) g n a b = absurd a
one_first f (Clap text) n a b = absurd b
one_first (Clash which) g n a b = absurd a
one_first f (Clash which) n a b = absurd b
one_first (NotPowerOfTwo Rows) (NotPowerOfTwo Rows) n a b = refl
one_first (NotPowerOfTwo Shards) (NotPowerOfTwo Shards) n a b = refl
one_first MoreShardsThanRows MoreShardsThanRows n a b = refl
one_first (NotPowerOfTwo Rows) (NotPowerOfTwo Shards) n a b = absurd (a b.0)
one_first (NotPowerOfTwo Rows) MoreShardsThanRows n a b = absurd (a b.0)
one_first (NotPowerOfTwo Shards) (NotPowerOfTwo Rows) n a b = absurd (b a.0)
one_first (NotPowerOfTwo Shards) MoreShardsThanRows n a b = absurd (a.1 b.1)
one_first MoreShardsThanRows (NotPowerOfTwo Rows) n a b = absurd (b a.0)
one_first MoreShardsThanRows (NotPowerOfTwo Shards) n a b = absurd (b.1 a.1)

-- the tests of a search have their laws
pub search_test_laws : {View : Type 0} → PowersHaveOneBit → (numbers : View → SettingsView) → HasTestLaws (search_tests numbers)
search_test_laws law numbers = record {
  unsound = λ f v failed sound. unsound law f (numbers v) failed sound;
  one = λ f g v a b. one_first f g (numbers v) a b;
  own = λ text v failed. failed;
}

-- a clash is one alone, and none where none was found
one_clash : (found : Option ClashKind) (f g : WordFault) → IsClashOf found f → IsClashOf found g → g ≡ f
one_clash found (Clash a) (Clash b) is its = ap Clash (same a b (sym its ∙ is))
  where
    same : (a b : ClashKind) → Some b ≡ Some a → b ≡ a
    same a b e = cc
one_clash found (Clap text) g is its = absurd is
one_clash found (NotPowerOfTwo size) g is its = absurd is
one_clash found MoreShardsThanRows g is its = absurd is
one_clash found f (Clap text) is its = absurd its
one_clash found f (NotPowerOfTwo size) is its = absurd its
one_clash found f MoreShardsThanRows is its = absurd its

found_clash : (found : Option ClashKind) (f : WordFault) → IsClashOf found f → is_without found ≡ true → ⊥
found_clash found (Clash which) is none = go (sym (ap is_without is) ∙ none)
  where
    go : false ≡ true → ⊥
    go e = absurd cc
found_clash found (Clap text) is none = is
found_clash found (NotPowerOfTwo size) is none = is
found_clash found MoreShardsThanRows is none = is

both_true : (a b : Bool) → (a && b) ≡ true → (a ≡ true) × (b ≡ true)
both_true true true e = (refl, refl)
both_true true false e = absurd cc
both_true false b e = absurd cc

-- tests keep their laws where one is put behind them that no two options clash
pub clash_laws : {View : Type 0} (tests : Tests View) (clash : View → Option ClashKind) → HasTestLaws tests → HasTestLaws (without_clash tests clash)
clash_laws {View = View} tests clash laws = record {
  unsound = unsound_here;
  one = one_here;
  own = own_here;
}
  where
    unsound_here : (f : WordFault) (v : View) → (without_clash tests clash).IsFirstFailed f v → (without_clash tests clash).is_sound v ≡ true → ⊥
    unsound_here f v (inl failed) sound = laws.unsound f v failed (both_true (tests.is_sound v) (is_without (clash v)) sound).0
    unsound_here f v (inr failed) sound = found_clash (clash v) f failed.1 (both_true (tests.is_sound v) (is_without (clash v)) sound).1

    one_here : (f g : WordFault) (v : View) → (without_clash tests clash).IsFirstFailed f v → (without_clash tests clash).IsFirstFailed g v → g ≡ f
    one_here f g v (inl a) (inl b) = laws.one f g v a b
    one_here f g v (inl a) (inr b) = absurd (laws.unsound f v a b.0)
    one_here f g v (inr a) (inl b) = absurd (laws.unsound g v b a.0)
    one_here f g v (inr a) (inr b) = one_clash (clash v) f g a.1 b.1

    own_here : (text : String Global) (v : View) → (without_clash tests clash).IsFirstFailed (Clap text) v → ⊥
    own_here text v (inl failed) = laws.own text v failed
    own_here text v (inr failed) = failed.1

-- ---- the reading of a program's words

module _ {View Answer : Type 0} (program : ProgramMeaning View) (view : Answer → View) (file : Answer → Option Text) where
  -- where clap takes the words it gives what `given_by` says
  pub given_where_taken : (words : List Text) (o : Option (Text × List Row)) (r : Result Answer WordsEnd) → IsTakenByClap program.line words
      → o ≡ subcommand_of program.line (all_words words) → IsSomeAnd (option_and_then program.named o) (λ asked. IsOutcome program.tests view asked r)
      → IsSomeAnd (given_by program words) (λ asked. IsOutcome program.tests view asked r)
  given_where_taken words o r taken is h =
      let all : given_by program words ≡ option_and_then program.named o =
      ap (λ k. unless_faulty k (option_and_then program.named (subcommand_of program.line (all_words words)))) taken
      ∙ ap (option_and_then program.named) (sym is) in
      subst (λ (w : Option View). IsSomeAnd w (λ asked. IsOutcome program.tests view asked r)) (sym all) h

  -- an error of clap's says that clap finds a fault
  fault_there : (kinds : Kinds) (k : ErrorKind) → IsAmong k kinds → kinds ≡ [] → ⊥
  fault_there [] k among e = among
  fault_there (x ∷ xs) k among e = absurd cc

  -- what a test refuses asks for nothing
  failed_none : HasTestLaws program.tests → (f : WordFault) (w v : View) → program.tests.IsFirstFailed f w → if_sound program.tests w ≡ Some v → ⊥
  failed_none laws f w v failed e = go (program.tests.is_sound w) refl e
    where
      go : (b : Bool) → program.tests.is_sound w ≡ b → (if b then Some w else None) ≡ Some v → ⊥
      go true is e = laws.unsound f w failed is
      go false is e = absurd cc

  -- want of memory keeps them
  promised_by_memory : (words : List Text) → IsReading program view file words (Err NoMemory)
  promised_by_memory words = record {
    command = tt;
    file = tt;
    ended = tt;
    help = λ asks. inr refl;
    failed = λ f h. inr refl;
    complete = λ w e. inr refl;
  }

  same_view : (a b : View) → Some a ≡ Some b → a ≡ b
  same_view a b e = cc

  -- words that clap takes ask for no help
  asks_nothing : (words : List Text) → IsTakenByClap program.line words → Asks program.line words → ⊥
  asks_nothing words taken asks = fault_there (clap_faults program.line words) asks.may.0 asks.may.1 taken

  -- an outcome for what clap gave keeps them
  pub promised_by_outcome : HasTestLaws program.tests → (words : List Text) (r : Result Answer WordsEnd) → IsTakenByClap program.line words
      → IsSomeAnd (given_by program words) (λ asked. IsOutcome program.tests view asked r) → IfOk r (λ answer. file answer ≡ file_by program words)
      → IsReading program view file words r
  promised_by_outcome laws words r taken h names = go (given_by program words) refl h
    where
      with : (w : View) (r : Result Answer WordsEnd) → given_by program words ≡ Some w → IsOutcome program.tests view w r
          → IfOk r (λ answer. file answer ≡ file_by program words) → IsReading program view file words r
      with w (Ok c) is a names =
          let sound : if_sound program.tests w ≡ Some w = ap (λ (b : Bool). if b then Some w else None) a.1 in
          let means : asked_by program words ≡ Some (view c) = ap (option_and_then (if_sound program.tests)) is ∙ (sound ∙ ap Some (sym a.0)) in
          record {
            command = means;
            file = names;
            ended = tt;
            help = λ asks. absurd (asks_nothing words taken asks);
            failed = λ f fails. absurd (failed_none laws f w w (subst (λ (o : Option View). IsSomeAnd o (program.tests.IsFirstFailed f)) is fails) sound);
            complete = λ v e. inl (same_view _ _ (sym means ∙ e));
          }
      with w (Err NoMemory) is a names = promised_by_memory words
      with w (Err (Help text)) is a names = absurd a
      with w (Err (Fault g)) is a names = record {
        command = tt;
        file = tt;
        help = λ asks. absurd (asks_nothing words taken asks);
        ended = refuses g a (subst (λ (o : Option View). IsSomeAnd o (program.tests.IsFirstFailed g)) (sym is) a);
        failed = λ f fails. inl (ap (λ x. Err (Fault x)) (laws.one f g w (subst (λ (o : Option View). IsSomeAnd o (program.tests.IsFirstFailed f)) is fails) a));
        complete = λ v e. absurd (failed_none laws g w v a (sym (ap (option_and_then (if_sound program.tests)) is) ∙ e));
      }
        where
          refuses : (g : WordFault) → program.tests.IsFirstFailed g w → FailsAt program words g → IsRefused program words g
          refuses (Clap text) by fails = absurd (laws.own text w by)
          refuses (NotPowerOfTwo size) by fails = fails
          refuses MoreShardsThanRows by fails = fails
          refuses (Clash which) by fails = fails

      go : (o : Option View) → given_by program words ≡ o → IsSomeAnd o (λ asked. IsOutcome program.tests view asked r) → IsReading program view file words r
      go None is h = absurd h
      go (Some w) is h = with w r is h names

  -- words that clap doesn't take ask for no command
  no_command : (words : List Text) (P : Option View → Type 0) → (IsTakenByClap program.line words → ⊥) → (P None → ⊥) → P (given_by program words) → ⊥
  no_command words P untaken bare p = go (clap_faults program.line words) refl p
    where
      go : (k : Kinds) → clap_faults program.line words ≡ k
          → P (unless_faulty k (option_and_then program.named (subcommand_of program.line (all_words words)))) → ⊥
      go [] is p = untaken is
      go (x ∷ xs) is p = bare p

  -- an end that clap's error became keeps them
  pub promised_by_clap : (words : List Text) (e : WordsEnd) (kind : ErrorKind) → IsClapsEnd kind e → (e ≡ NoMemory) ⊎ IsAmong kind (clap_faults program.line words)
      → IsReading program view file words (Err e)
  promised_by_clap words e kind claps (inl is) = subst (λ (x : WordsEnd). IsReading program view file words (Err x)) (sym is) (promised_by_memory words)
  promised_by_clap words NoMemory kind claps (inr among) = promised_by_memory words
  promised_by_clap words (Fault (NotPowerOfTwo size)) kind claps (inr among) = absurd claps
  promised_by_clap words (Fault MoreShardsThanRows) kind claps (inr among) = absurd claps
  promised_by_clap words (Fault (Clash which)) kind claps (inr among) = absurd claps
  promised_by_clap words (Fault (Clap text)) kind claps (inr among) = record {
    command = tt;
    file = tt;
    ended = (kind, among, claps);
    help = λ asks. absurd (asks.not_refused (kind, among, claps));
    failed = λ f fails. absurd (no_command words (λ o. IsSomeAnd o (program.tests.IsFirstFailed f)) (fault_there _ _ among) (λ x. x) fails);
    complete = λ v e. absurd (no_command words (λ o. option_and_then (if_sound program.tests) o ≡ Some v) (fault_there _ _ among) (λ x. absurd cc) e);
  }
  promised_by_clap words (Help text) kind claps (inr among) = record {
    command = tt;
    file = tt;
    ended = (kind, among, claps);
    help = λ asks. inl tt;
    failed = λ f fails. absurd (no_command words (λ o. IsSomeAnd o (program.tests.IsFirstFailed f)) (fault_there _ _ among) (λ x. x) fails);
    complete = λ v e. absurd (no_command words (λ o. option_and_then (if_sound program.tests) o ≡ Some v) (fault_there _ _ among) (λ x. absurd cc) e);
  }
