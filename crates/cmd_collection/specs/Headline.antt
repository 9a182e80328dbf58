-- What `collection` promises in plain words.
use Rattle.std.specs.Prelude.{◌≡◌, ◌≤◌, ◌⊎◌, ℕ, List, Option, Some, length}
use Rattle.tsume_io.specs.Faults.{Rose}
use Rattle.one_run.specs.declared.ended.Ended.{Ended}
use Rattle.one_run.specs.declared.ended.Ended.TheVariants.{Answered}
use Rattle.one_run.specs.Outside.{Shown}
use Rattle.one_run.specs.Run.{IsAnswered, WantsMemory}
use Rattle.one_run.specs.Serial.{AreAllTold, IsSerialRun}
use Rattle.cmd_collection.specs.declared.asked.TheConstants.{MOST_COLLECTION_BYTES}
use Rattle.cmd_collection.specs.declared.asked.NoFault.{NoFault}
use Rattle.cmd_collection.specs.declared.counts.Counts.{Counts}
use Rattle.cmd_collection.specs.Meaning.{collection_meaning}
use Rattle.cmd_collection.specs.Reports.{MeansStopped}
use Rattle.cmd_collection.specs.Words.{CollectView}

-- All lines of a collection that hold a problem were decided, and the report of each was written in
-- their order, and the counts behind them.
abbrev pub IsCollected : CollectView → Shown → Shown → Counts → Type 0
IsCollected asked source sink counts = AreAllTold (collection_meaning asked) source sink counts

-- The bytes that the source has left are short enough; a collection may hold any.
pub record IsTextGiven (left : Option (List ℕ)) : Type 0 where
  pub input : List ℕ
  pub told : left ≡ Some input
  pub short : length input ≤ MOST_COLLECTION_BYTES

-- A run of `collection` kept all that it promises, clause by clause, for whoever hands it on.
pub record IsCollectionRun (asked : CollectView) (source sink : Shown) (ended : Ended Counts NoFault) : Type 0 where
  pub collected : (counts : Counts) → ended ≡ Answered counts → IsCollected asked source sink counts
  pub stopped : MeansStopped asked.settings asked.form
  pub run : IsSerialRun (collection_meaning asked) source sink ended
  pub complete : IsTextGiven source.told → ¬ Rose source.faults source.faults_after
      → ¬ Rose sink.faults sink.faults_after → IsAnswered ended ⊎ WantsMemory ended
