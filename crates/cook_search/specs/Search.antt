-- The searches that a cook report stands on.
use Rattle.std.specs.Prelude.{◌≡◌, ◌++◌, List, [], ◌∷◌}
use Rattle.board_core.specs.declared.moves.Move.{Move}
use Rattle.board_core.specs.Board.{Board}
use Rattle.shogi_rules.specs.Rules.{after}
use Rattle.shogi_rules.specs.Tsume.{IsCheck, IsEvasion}
use Rattle.mate_def.specs.Mate.{after_both}
use Rattle.search_gate.specs.Stop.{Signal}
use Rattle.search_limits.specs.Sizes.{SettingsView}
use Rattle.visit_log.specs.Run.{WorkerView}
use Rattle.search_pool.specs.declared.end.SearchEnd.{SearchEnd}
use Rattle.search_pool.specs.declared.end.SearchEnd.TheVariants.{Solved, Unknown}
use Rattle.search_crew.specs.End.{IsSearchEnd}

-- A search: behind which check and which evasion to it its position stands, and how it ended.
pub record Searched : Type 0 where
  pub check : Move
  pub evasion : Move
  pub end : SearchEnd

-- It was made for a problem with these settings, and the stops told this before and after: its
-- moves are a check and an evasion to it, and so a search of the position behind them ends.
pub record IsMade (p : Board) (s : SettingsView) (told told_after : List Signal) (one : Searched) : Type 0 where
  pub check : IsCheck p.side p one.check
  pub evasion : IsEvasion p.side (after p one.check) one.evasion
  pub ended : IsSearchEnd (after_both p one.check one.evasion) s told told_after one.end

-- They were made one after the other: each found the stops as the one before it left them.
abbrev pub AreMade : Board → SettingsView → List Signal → List Signal → List Searched → Type 0
AreMade p s told told_after [] = told_after ≡ told
AreMade p s told told_after (one ∷ others) = (between : List Signal) × IsMade p s told between one × AreMade p s between told_after others

-- The workers of a search that gave up.
abbrev pub crews_in : SearchEnd → List (List WorkerView)
crews_in (Solved note) = []
crews_in (Unknown cause crew) = crew ∷ []

-- The workers of the searches that gave up, one search after the other.
abbrev pub crews_of : List Searched → List (List WorkerView)
crews_of [] = []
crews_of (one ∷ others) = crews_in one.end ++ crews_of others
