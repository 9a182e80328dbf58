-- What the words of `collection` ask for.
use Rattle.std.specs.Prelude.{ℕ, Bool, List, Option, codes}
use Rattle.clap.specs.Words.{Row}
use Rattle.tsume_words.specs.Given.{HasFlag, HasNumber, HasNumberIfAny, IsForSearch, file_of, is_flagged, number_if_given, number_of, settings_by}
use Rattle.tsume_words.specs.Meaning.{CommandMeaning, search_tests}
use Rattle.tsume_words.specs.declared.watch.TheConstants.{MOST_DEADLINE}
use Rattle.search_limits.specs.Sizes.{SettingsView}
use Rattle.cmd_collection.specs.declared.form.TheConstants.{MOST_FIRST, MOST_THREADS}
use Rattle.cmd_collection.specs.declared.form.CollectionForm.{CollectionForm}
use Rattle.cmd_collection.specs.Line.{collection_line}

-- How the problems of a collection are decided: whether the defender is given the rest of the
-- pieces, whether certificates are told, which number the first line has, whether remarks are told,
-- how many problems are decided side by side, where that is said, after how many milliseconds each
-- search gives up, if at all, and whether the user is told how many are decided.
pub record CollectionView : Type 0 where
  pub rest : Bool
  pub certificates : Bool
  pub first : ℕ
  pub remarks : Bool
  pub threads : Option ℕ
  pub deadline : Option ℕ
  pub progress : Bool

-- How the problems of a collection are decided, by its parts.
abbrev pub collection_in : CollectionForm → CollectionView
collection_in f = record {
  rest = f.rest;
  certificates = f.certificates;
  first = f.first;
  remarks = f.remarks;
  threads = f.threads;
  deadline = f.deadline;
  progress = f.progress;
}

-- What `collection` is asked: the numbers of each search, and how the problems are decided.
pub record CollectView : Type 0 where
  pub settings : SettingsView
  pub form : CollectionView

-- What clap gives for `collection`, each number in its range.
pub record IsForCollection (found : List Row) : Type 0 where
  pub numbers : IsForSearch found
  pub first : HasNumber (codes "first") 1 MOST_FIRST found
  pub threads : HasNumberIfAny (codes "threads") 1 MOST_THREADS found
  pub deadline : HasNumberIfAny (codes "deadline") 1 MOST_DEADLINE found
  pub rest : HasFlag (codes "rest") found
  pub certificates : HasFlag (codes "certificates") found
  pub remarks : HasFlag (codes "remarks") found
  pub progress : HasFlag (codes "progress") found

-- How the problems are decided, by what clap found for `collection`.
abbrev pub collection_of : List Row → CollectionView
collection_of found = record {
  rest = is_flagged (codes "rest") found;
  certificates = is_flagged (codes "certificates") found;
  first = number_of (codes "first") found;
  remarks = is_flagged (codes "remarks") found;
  threads = number_if_given (codes "threads") found;
  deadline = number_if_given (codes "deadline") found;
  progress = is_flagged (codes "progress") found;
}

-- What is asked for, by what clap found for `collection`. Each search has one worker.
abbrev pub collect_of : List Row → CollectView
collect_of found = record { settings = settings_by 1 found; form = collection_of found }

-- What the words of `collection` mean. The numbers of each search are tested.
abbrev pub collection_words : CommandMeaning CollectView
collection_words = record {
  line = collection_line;
  IsGiven = IsForCollection;
  given = collect_of;
  tests = search_tests (λ asked. asked.settings);
  file = file_of;
}
