-- What a report tells by its searches, and why a check stays open.
use Rattle.std.specs.Prelude.{◌≡◌, ◌<◌, ◌≤◌, ◌↔◌, ◌⊎◌, ◌++◌, List, [], ◌∷◌, Contains, length}
use Rattle.board_core.specs.declared.moves.Move.{Move}
use Rattle.board_core.specs.Board.{Board}
use Rattle.board_core.specs.Order.{Lists, order_of}
use Rattle.shogi_rules.specs.Rules.{after}
use Rattle.shogi_rules.specs.Tsume.{IsEvasion}
use Rattle.mate_def.specs.Mate.{after_both, IsMate}
use Rattle.mate_facts.specs.declared.entry.MateEntry.{MateEntry}
use Rattle.notes.specs.Derivation.{Derivation, conclusion_of, version_in}
use Rattle.cert_text.specs.Certificate.{Escaping, Mating, mate_form}
use Rattle.cert_text.specs.declared.certificate.Certificate.{Certificate}
use Rattle.cert_text.specs.declared.certificate.Certificate.TheVariants as certificates
use Rattle.cert_text.specs.declared.limits.TheConstants.{MOST_ENTRIES}
use Rattle.cert_text.specs.Kinds.{claim_of, version_of}
use Rattle.cert_text.specs.Reading.{AreGood, IsReadable}
use Rattle.cert_check.specs.Valid.{IsValid}
use Rattle.cert_extract.specs.Extracted.{ComesFrom, HasMoreThan as WalksMoreThan, claim_by}
use Rattle.search_gate.specs.Stop.{Signal}
use Rattle.search_limits.specs.Sizes.{SettingsView}
use Rattle.search_limits.specs.declared.cause.Cause.{Cause}
use Rattle.search_limits.specs.declared.cause.Cause.TheVariants.{Entries}
use Rattle.visit_log.specs.Run.{WorkerView}
use Rattle.search_pool.specs.declared.end.SearchEnd.{SearchEnd}
use Rattle.search_pool.specs.declared.end.SearchEnd.TheVariants.{Solved, Unknown as GaveUp}
use Rattle.cook_report.specs.declared.report.Line.{Line}
use Rattle.cook_report.specs.declared.report.Line.TheVariants.{Mate, Escape, Unknown}
use Rattle.cook_report.specs.Report.{check_of}
use Rattle.cook_report.specs.Valid.{IsLineOf, ValidReport}
use Rattle.cook_report.specs.Shown.{IsKeptLine}
use Rattle.cook_report.specs.Joined.{HaveMoreThan, IsJoined, IsJoinedVersion, entries_in}
use Rattle.cook_search.specs.Search.{AreMade, Searched, crews_of}

-- 1. WHAT A SEARCH SHOWS.

-- The certificate is that of the note with which a search of the position ended: it claims what the
-- note concludes, is of the version that the note's tree has, lists what comes from that tree, is
-- valid for the position and can be read.
pub record IsOfNote (position : Board) (end : SearchEnd) (c : Certificate) : Type 0 where
  pub note : Derivation
  pub solved : end ≡ Solved note
  pub claim : claim_of c ≡ claim_by (conclusion_of note)
  pub version : version_of c ≡ version_in note
  pub from : ComesFrom note c
  pub valid : IsValid c position
  pub readable : IsReadable c

-- A search left its position undecided, for this cause: it gave up for it; or it found a note whose
-- certificate would have more entries than are read.
abbrev pub IsUndecided : Board → SearchEnd → Cause → Type 0
IsUndecided position (GaveUp its_cause crew) cause = cause ≡ its_cause
IsUndecided position (Solved note) cause = (cause ≡ Entries MOST_ENTRIES) × WalksMoreThan MOST_ENTRIES position note

-- One of the searches was of the position behind the check and the evasion, and the certificate is
-- that of its note.
pub record IsOfSearch (p : Board) (searches : List Searched) (check evasion : Move) (c : Certificate) : Type 0 where
  pub end : SearchEnd
  pub searched : Contains searches (record { check = check; evasion = evasion; end = end })
  pub of_note : IsOfNote (after_both p check evasion) end c

-- One of the searches was of the position behind the check and the evasion, and left it undecided.
pub record StaysOpen (p : Board) (searches : List Searched) (check evasion : Move) (cause : Cause) : Type 0 where
  pub end : SearchEnd
  pub searched : Contains searches (record { check = check; evasion = evasion; end = end })
  pub undecided : IsUndecided (after_both p check evasion) end cause

-- The certificates are those of mates, each behind the check and the evasion at its place, by one
-- of the searches.
abbrev pub AreOfSearches : Board → List Searched → Move → List Move → List Mating → Type 0
AreOfSearches p searches check [] [] = Unit {0}
AreOfSearches p searches check [] (c ∷ mates) = ⊥
AreOfSearches p searches check (evasion ∷ evasions) [] = ⊥
AreOfSearches p searches check (evasion ∷ evasions) (c ∷ mates) =
    IsOfSearch p searches check evasion (certificates.Mate c) × AreOfSearches p searches check evasions mates

-- The position behind the check and the evasion to it is a mate.
abbrev pub MatesBehind : Board → Move → Move → Type 0
MatesBehind p check evasion = IsMate p.side (after_both p check evasion)

-- It was found to be one, by one of the searches.
pub record IsMateFound (p : Board) (searches : List Searched) (check evasion : Move) : Type 0 where
  pub certificate : Mating
  pub of_search : IsOfSearch p searches check evasion (certificates.Mate certificate)
  pub mate : MatesBehind p check evasion

-- It was found to be one, or it is undecided.
abbrev pub IsNoEscape : Board → List Searched → Move → Move → Type 0
IsNoEscape p searches check evasion = IsMateFound p searches check evasion ⊎ ((cause : Cause) × StaysOpen p searches check evasion cause)

-- 2. WHAT IS TOLD OF A CHECK BY SEARCHES.

-- The certificates are those of the mates behind all evasions to the check, in their order.
pub record AreOfAll (p : Board) (searches : List Searched) (check : Move) (certificates : List Mating) : Type 0 where
  pub evasions : List Move
  pub all : Lists (IsEvasion p.side (after p check)) evasions
  pub of_searches : AreOfSearches p searches check evasions certificates

-- What is listed of a check that mates is what these certificates list when they are joined, in the
-- version of that; and no more than is read.
pub record IsJoinedOf (p : Board) (searches : List Searched) (check : Move) (c : Mating) : Type 0 where
  pub certificates : List Mating
  pub of_all : AreOfAll p searches check certificates
  pub version : IsJoinedVersion certificates c.version
  pub entries : (entry : MateEntry) → Contains c.entries entry ↔ IsJoined certificates entry
  pub good : AreGood (mate_form c.problem) c.entries
  pub few : length c.entries ≤ MOST_ENTRIES

-- The evasion is the first to the check that was found to lead to no mate, with this certificate.
pub record IsFirstEscape (p : Board) (searches : List Searched) (check evasion : Move) (c : Escaping) : Type 0 where
  pub of_search : IsOfSearch p searches check evasion (certificates.Escape c)
  pub sooner : (other : Move) → IsEvasion p.side (after p check) other → order_of other < order_of evasion → IsNoEscape p searches check other

-- The check is open from this evasion on: of the positions behind its evasions this one's is the
-- first that is undecided. Each before it was found to be a mate, and each behind it was, or is
-- undecided too.
pub record IsOpenFrom (p : Board) (searches : List Searched) (check evasion : Move) (cause : Cause) : Type 0 where
  pub evades : IsEvasion p.side (after p check) evasion
  pub stays : StaysOpen p searches check evasion cause
  pub sooner : (other : Move) → IsEvasion p.side (after p check) other → order_of other < order_of evasion → IsMateFound p searches check other
  pub others : (other : Move) → IsEvasion p.side (after p check) other → IsNoEscape p searches check other

-- The position behind each evasion to the check was found to be a mate, but the certificates of
-- these list more positions together than are read. (The evasion is any one.)
pub record ListsTooMany (p : Board) (searches : List Searched) (check evasion : Move) (cause : Cause) : Type 0 where
  pub is_cause : cause ≡ Entries MOST_ENTRIES
  pub evades : IsEvasion p.side (after p check) evasion
  pub certificates : List Mating
  pub of_all : AreOfAll p searches check certificates
  pub more : HaveMoreThan MOST_ENTRIES (entries_in certificates)

-- A line tells of its check what came out of the searches: their mates joined; the first evasion
-- that leads to none; or that it is unknown, since it is open or its mates list too many positions.
abbrev pub IsToldBy : Board → List Searched → Line → Type 0
IsToldBy p searches (Mate check c) = IsJoinedOf p searches check c
IsToldBy p searches (Escape check evasion c) = IsFirstEscape p searches check evasion c
IsToldBy p searches (Unknown check evasion cause) =
    IsOpenFrom p searches check evasion cause ⊎ ListsTooMany p searches check evasion cause

-- What is told of a check. Searches were made, each of which found the stops as the one before it
-- left them; the workers of those that gave up stand behind others. The line is of the check and
-- says what is so, the positions that it lists are kept ones, and it tells what came out.
pub record IsLineFound (p : Board) (s : SettingsView) (told told_after : List Signal) (crews crews_after : List (List WorkerView)) (check : Move) (line : Line) : Type 0 where
  pub searches : List Searched
  pub made : AreMade p s told told_after searches
  pub brought : crews_after ≡ crews ++ crews_of searches
  pub of_check : check_of line ≡ check
  pub true_of : IsLineOf p line
  pub kept : IsKeptLine line
  pub told_by : IsToldBy p searches line

-- What is told of a problem. Searches were made, each of which found the stops as the one before it
-- left them, and these are the workers of those that gave up. The report is valid, the positions
-- that it lists are kept ones, and each line tells what came out of the searches.
pub record IsReportFound (p : Board) (s : SettingsView) (told told_after : List Signal) (lines : List Line) (crews : List (List WorkerView)) : Type 0 where
  pub searches : List Searched
  pub made : AreMade p s told told_after searches
  pub brought : crews ≡ crews_of searches
  pub valid : ValidReport p lines
  pub kept : (line : Line) → Contains lines line → IsKeptLine line
  pub told_by : (line : Line) → Contains lines line → IsToldBy p searches line
