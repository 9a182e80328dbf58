-- By which searches the reports along a line were found.
use Rattle.std.specs.Prelude.{◌≡◌, ◌+◌, ◌++◌, ℕ, List, [], ◌∷◌}
use Rattle.board_core.specs.declared.moves.Move.{Move}
use Rattle.board_core.specs.Board.{Board}
use Rattle.search_gate.specs.Stop.{Signal}
use Rattle.search_limits.specs.Sizes.{SettingsView}
use Rattle.visit_log.specs.Run.{WorkerView}
use Rattle.cook_search.specs.Found.{IsReportFound}
use Rattle.cook_line.specs.declared.stage.Stage.{Stage}
use Rattle.cook_line.specs.Turns.{position_at}

-- The stages of a line from this turn on were found one after the other: each report by searches of
-- its position, which found the stops as those before them left them. The workers of the searches
-- that gave up stand one search after the other.
abbrev pub AreFoundFrom : Board → List Move → SettingsView → ℕ → List Signal → List Signal → List Stage → List (List WorkerView) → Type 0
AreFoundFrom p moves s turn told told_after [] crews = (told_after ≡ told) × (crews ≡ [])
AreFoundFrom p moves s turn told told_after (stage ∷ stages) crews =
    (between : List Signal) × (own : List (List WorkerView)) × (others : List (List WorkerView))
    × IsReportFound (position_at p moves turn) s told between stage.report own
    × AreFoundFrom p moves s (turn + 1) between told_after stages others
    × (crews ≡ own ++ others)

-- The stages of a line were found so, from its first turn on.
abbrev pub AreFound : Board → List Move → SettingsView → List Signal → List Signal → List Stage → List (List WorkerView) → Type 0
AreFound p moves s told told_after stages crews = AreFoundFrom p moves s 0 told told_after stages crews
