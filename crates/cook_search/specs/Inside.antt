-- What the private functions of this crate say of one another; no public clause cites these.
use Rattle.std.specs.Prelude.{◌≡◌, ◌<◌, ◌++◌, ℕ, List, Option, Some, None, Contains, map, slice_get, take}
use Rattle.board_core.specs.declared.moves.Move.{Move}
use Rattle.board_core.specs.Board.{Board}
use Rattle.board_core.specs.Order.{Lists}
use Rattle.shogi_rules.specs.Rules.{after}
use Rattle.shogi_rules.specs.Tsume.{IsEvasion}
use Rattle.cert_text.specs.Certificate.{Mating}
use Rattle.cert_text.specs.declared.certificate.Certificate.TheVariants as certificates
use Rattle.search_gate.specs.Stop.{Signal}
use Rattle.search_limits.specs.Sizes.{SettingsView}
use Rattle.visit_log.specs.Run.{WorkerView}
use Rattle.search_pool.specs.declared.end.SearchEnd.{SearchEnd}
use Rattle.search_crew.specs.End.{IsSearchEnd}
use Rattle.cook_report.specs.declared.report.Line.{Line}
use Rattle.cook_report.specs.Report.{check_of}
use Rattle.cook_report.specs.Valid.{IsLineOf}
use Rattle.cook_report.specs.Shown.{IsKeptLine}
use Rattle.cook_search.specs.Search.{AreMade, Searched, crews_in, crews_of}
use Rattle.cook_search.specs.Found.{AreOfSearches, IsMateFound, IsNoEscape, IsOfNote, IsToldBy, IsUndecided, StaysOpen}
use Rattle.cook_search.specs.declared.deciding.Finding.{Finding}
use Rattle.cook_search.specs.declared.deciding.Finding.TheVariants.{Mate, Escape, Open}
use Rattle.cook_search.specs.declared.lines.FirstOpen.{FirstOpen}

-- What a search that ended so shows of its position.
abbrev pub IsFinding : Board → SearchEnd → Finding → Type 0
IsFinding position end (Mate c) = IsOfNote position end (certificates.Mate c)
IsFinding position end (Escape c) = IsOfNote position end (certificates.Escape c)
IsFinding position end (Open cause) = IsUndecided position end cause

-- A position was searched, and this was found of it.
pub record IsDecided (position : Board) (s : SettingsView) (told told_after : List Signal) (crews crews_after : List (List WorkerView)) (finding : Finding) : Type 0 where
  pub end : SearchEnd
  pub ended : IsSearchEnd position s told told_after end
  pub found : IsFinding position end finding
  pub brought : crews_after ≡ crews ++ crews_in end

-- The evasion at a place of the list is the first that stays open: each before it was found to lead
-- to a mate.
pub record IsFirstOpen (p : Board) (searches : List Searched) (check : Move) (evasions : List Move) (count : ℕ) (first : FirstOpen) : Type 0 where
  pub place : ℕ
  pub inside : place < count
  pub there : slice_get evasions place ≡ Some first.evasion
  pub stays : StaysOpen p searches check first.evasion first.cause
  pub sooner : (before : ℕ) (other : Move) → before < place → slice_get evasions before ≡ Some other → IsMateFound p searches check other

-- So far no evasion stays open, and the certificates are those of the mates behind these; or this
-- is the first that does.
abbrev pub IsOpenSoFar : Board → List Searched → Move → List Move → ℕ → List Mating → Option FirstOpen → Type 0
IsOpenSoFar p searches check evasions count mates None =
    AreOfSearches p searches check (take count evasions) mates
    × ((place : ℕ) (evasion : Move) → place < count → slice_get evasions place ≡ Some evasion → IsMateFound p searches check evasion)
IsOpenSoFar p searches check evasions count mates (Some first) = IsFirstOpen p searches check evasions count first

-- How far the evasions to a check are walked, by which searches.
pub record IsWalked (p : Board) (s : SettingsView) (told told_after : List Signal) (crews crews_after : List (List WorkerView)) (check : Move) (evasions : List Move) (count : ℕ) (mates : List Mating) (first : Option FirstOpen) : Type 0 where
  pub searches : List Searched
  pub made : AreMade p s told told_after searches
  pub brought : crews_after ≡ crews ++ crews_of searches
  pub walked : (place : ℕ) (evasion : Move) → place < count → slice_get evasions place ≡ Some evasion → IsNoEscape p searches check evasion
  pub open_so_far : IsOpenSoFar p searches check evasions count mates first

-- The list has all evasions to the check, and the certificates are those of the mates behind them.
pub record AreShown (p : Board) (searches : List Searched) (check : Move) (evasions : List Move) (mates : List Mating) : Type 0 where
  pub all : Lists (IsEvasion p.side (after p check)) evasions
  pub of_searches : AreOfSearches p searches check evasions mates

-- The line is true of a check that mates, and tells what came out of the searches.
pub record IsMated (p : Board) (searches : List Searched) (check : Move) (line : Line) : Type 0 where
  pub of_check : check_of line ≡ check
  pub true_of : IsLineOf p line
  pub kept : IsKeptLine line
  pub told_by : IsToldBy p searches line

-- How far the checks of a problem are told of, by which searches.
pub record AreTold (p : Board) (s : SettingsView) (told told_after : List Signal) (checks : List Move) (count : ℕ) (lines : List Line) (crews : List (List WorkerView)) : Type 0 where
  pub searches : List Searched
  pub made : AreMade p s told told_after searches
  pub brought : crews ≡ crews_of searches
  pub of_checks : map check_of lines ≡ take count checks
  pub true_of : (line : Line) → Contains lines line → IsLineOf p line
  pub kept : (line : Line) → Contains lines line → IsKeptLine line
  pub told_by : (line : Line) → Contains lines line → IsToldBy p searches line
