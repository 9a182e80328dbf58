-- What is written is read, numbers rise, none that is listed is skipped, and there are no more than
-- bytes.
use Rattle.std.proofs.Common.{sym, ap, ◌∙◌, arith}
use Rattle.std.specs.Str.Lines.{lines}
use Rattle.problem_lines.specs.Lines.{problems_among}
use Rattle.problem_lines.proofs.Listed.{problems_among-rise, problems_among-hold, problems_among-whole, increasing}
use Rattle.problem_lines.proofs.Lacking.{lines-feedless}
use Rattle.problem_lines.proofs.Written.{lines-text_of}
use Rattle.problem_lines.proofs.Few.{lines-few, problems_among-few}
use Rattle.problem_lines.proofs.lines.Lines.new.Goals as goal

pub returns-clause-written : goal.returns-clause-written
returns-clause-written c = λ ended last are none text. ap (λ t. problems_among c.args.first (lines t)) (sym text) ∙ ap (problems_among c.args.first) (lines-text_of ended last are none)

pub returns-clause-rising : goal.returns-clause-rising
returns-clause-rising c = increasing c.args.first (problems_among c.args.first (lines c.args.text.now)) (problems_among-rise c.args.first (lines c.args.text.now))

pub returns-clause-problems : goal.returns-clause-problems
returns-clause-problems c = problems_among-hold c.args.first (lines c.args.text.now) (lines-feedless c.args.text.now)

pub returns-clause-whole : goal.returns-clause-whole
returns-clause-whole c = problems_among-whole c.args.first (lines c.args.text.now)

pub returns-clause-few : goal.returns-clause-few
returns-clause-few c =
    let all = lines c.args.text.now in
    omega (arith, lines-few c.args.text.now, problems_among-few c.args.first all)
