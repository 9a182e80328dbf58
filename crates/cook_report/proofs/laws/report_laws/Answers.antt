use Rattle.list_laws.proofs.Standing.{contains_map}
use Rattle.cook_report.specs.Report.{check_of}
use Rattle.cook_report.proofs.Showing.{line_shows, lines_show, escape_kept}
use Rattle.cook_report.proofs.laws.report_laws.Goals as goal

pub returns-clause-shows : goal.returns-clause-shows
returns-clause-shows c p lines kept all valid =
    lines_show p lines valid.checks
    (λ line there.
    line_shows c.listing_laws.ensures.ranks c.rank_grows.ensures c.valid_is_accepted.ensures.shows p kept line (all line there)
    (valid.checks.sound (check_of line) (contains_map check_of lines line there)) (valid.each line there))

pub returns-clause-kept : goal.returns-clause-kept
returns-clause-kept c certificate can b there = escape_kept certificate.problem certificate.entries can.good.fit b there
