-- What `usi` promises, for whoever hands it on.
use Rattle.std.specs.Prelude.{◌≡◌, ◌⊎◌, All}
use Rattle.tsume_io.specs.Faults.{Rose}
use Rattle.one_run.specs.Outside.{Shown}
use Rattle.one_run.specs.Stops.{Signals}
use Rattle.cmd_usi.specs.Talk.{IsFitInput, IsTalked, IsTalkCounted, Shows}
use Rattle.cmd_usi.specs.declared.talked.TalkEnd.TheVariants.{Over, NoMemory}
use Rattle.cmd_usi.specs.declared.talked.Talked.{Talked}

-- A run of `usi` kept all that it promises, clause by clause.
pub record IsUsiRun (stops : Signals) (source sink : Shown) (talked : Talked) : Type 0 where
  pub replies : All Shows talked.replies.items
  pub does : IsTalked source sink stops talked
  pub counted : IsTalkCounted source sink talked.end
  pub complete : IsFitInput source.told → ¬ Rose source.faults source.faults_after → ¬ Rose sink.faults sink.faults_after
      → (talked.end ≡ Over) ⊎ (talked.end ≡ NoMemory)
