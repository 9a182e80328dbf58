-- How the problems of a collection are counted, and what is printed of it.
use Rattle.std.specs.Prelude.{◌≡◌, ◌+◌, ◌==◌, Bool, true, false, ℕ, List, ◌++◌, codes, count_by, if◌then◌else◌}
use Rattle.std.specs.Fmt.{decimal}
use Rattle.cert_text.specs.Entries.{line}
use Rattle.app_texts.specs.declared.answer.Solution.TheVariants.{Mate, NoMate, Unknown}
use Rattle.cmd_collection.specs.declared.counts.Counts.{Counts}
use Rattle.cmd_collection.specs.declared.report.Report.{Report}
use Rattle.cmd_collection.specs.declared.report.Report.TheVariants.{Solved, Fault}

-- The line tells a mate.
abbrev pub tells_mate : Report → Bool
tells_mate (Solved (Mate c moves)) = true
tells_mate (Solved (NoMate c)) = false
tells_mate (Solved (Unknown cause crew)) = false
tells_mate (Fault fault) = false

-- The line tells that there is no mate.
abbrev pub tells_no_mate : Report → Bool
tells_no_mate (Solved (Mate c moves)) = false
tells_no_mate (Solved (NoMate c)) = true
tells_no_mate (Solved (Unknown cause crew)) = false
tells_no_mate (Fault fault) = false

-- The line tells that neither was found.
abbrev pub tells_unknown : Report → Bool
tells_unknown (Solved (Mate c moves)) = false
tells_unknown (Solved (NoMate c)) = false
tells_unknown (Solved (Unknown cause crew)) = true
tells_unknown (Fault fault) = false

-- The line tells a fault.
abbrev pub tells_fault : Report → Bool
tells_fault (Solved (Mate c moves)) = false
tells_fault (Solved (NoMate c)) = false
tells_fault (Solved (Unknown cause crew)) = false
tells_fault (Fault fault) = true

-- The counts of these reports.
pub record AreCountsOf (reports : List Report) (counts : Counts) : Type 0 where
  pub mates : counts.mates ≡ count_by tells_mate reports
  pub no_mates : counts.no_mates ≡ count_by tells_no_mate reports
  pub unknowns : counts.unknowns ≡ count_by tells_unknown reports
  pub faults : counts.faults ≡ count_by tells_fault reports

-- One more report is counted: each count is one higher where the report tells it, and stays where
-- it doesn't.
pub record IsCounted (report : Report) (old new : Counts) : Type 0 where
  pub mates : new.mates ≡ old.mates + (if tells_mate report then 1 else 0)
  pub no_mates : new.no_mates ≡ old.no_mates + (if tells_no_mate report then 1 else 0)
  pub unknowns : new.unknowns ≡ old.unknowns + (if tells_unknown report then 1 else 0)
  pub faults : new.faults ≡ old.faults + (if tells_fault report then 1 else 0)

-- All problems that were counted: the sum of the counts.
abbrev pub problems_of : Counts → ℕ
problems_of counts = counts.mates + counts.no_mates + counts.unknowns + counts.faults

-- The last line of a collection: how many problems there were, and how many ended in which way.
abbrev pub counts_text : Counts → List ℕ
counts_text counts = line ((codes "problems " ++ decimal (problems_of counts))
    ++ (codes " mate " ++ decimal counts.mates)
    ++ (codes " nomate " ++ decimal counts.no_mates)
    ++ (codes " unknown " ++ decimal counts.unknowns)
    ++ (codes " fault " ++ decimal counts.faults))

-- The status for a collection: 3 where a line is no problem; else 1 where a search gave up; else 0.
abbrev pub counts_status : Counts → ℕ
counts_status counts = if 0 == counts.faults then (if 0 == counts.unknowns then 0 else 1) else 3
