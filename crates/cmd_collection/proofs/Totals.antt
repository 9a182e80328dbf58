-- Each report is counted once, so the counts of reports add up to how many there are.
use Rattle.std.proofs.Common.{◌≡◌, ◌+◌, List, [], ◌∷◌, refl, arith, cond, count_by, length}
use Rattle.std.proofs.lemmas.List.Sums.{sum_by-cons}
use Rattle.cmd_collection.specs.Counts.{AreCountsOf, problems_of, tells_fault, tells_mate, tells_no_mate, tells_unknown}
use Rattle.app_texts.specs.declared.answer.Solution.TheVariants.{Mate, NoMate, Unknown}
use Rattle.cmd_collection.specs.declared.counts.Counts.{Counts}
use Rattle.cmd_collection.specs.declared.report.Report.{Report}
use Rattle.cmd_collection.specs.declared.report.Report.TheVariants.{Solved, Fault}

-- a report tells one of the four
tells_one : (r : Report) → cond (tells_mate r) 1 0 + cond (tells_no_mate r) 1 0 + cond (tells_unknown r) 1 0 + cond (tells_fault r) 1 0 ≡ 1
tells_one (Solved (Mate c moves)) = refl
tells_one (Solved (NoMate c)) = refl
tells_one (Solved (Unknown cause crew)) = refl
tells_one (Fault fault) = refl

counted_once : (reports : List Report)
    → count_by tells_mate reports + count_by tells_no_mate reports + count_by tells_unknown reports + count_by tells_fault reports ≡ length reports
counted_once [] = refl
counted_once (r ∷ rest) =
    let mates = sum_by-cons (λ x. cond (tells_mate x) 1 0) r rest in
    let no_mates = sum_by-cons (λ x. cond (tells_no_mate x) 1 0) r rest in
    let unknowns = sum_by-cons (λ x. cond (tells_unknown x) 1 0) r rest in
    let faults = sum_by-cons (λ x. cond (tells_fault x) 1 0) r rest in
    omega (arith, mates, no_mates, unknowns, faults, tells_one r, counted_once rest)

-- so their sum is how many reports there are
pub problems_are : (reports : List Report) (counts : Counts) → AreCountsOf reports counts → problems_of counts ≡ length reports
problems_are reports counts are =
    let mates = are.mates in
    let no_mates = are.no_mates in
    let unknowns = are.unknowns in
    let faults = are.faults in
    omega (arith, mates, no_mates, unknowns, faults, counted_once reports)
