use Rattle.std.proofs.Common.{sym, ◌∙◌}
use Rattle.path_tags.proofs.Joining.{tail_rises, less_first, greater_first, equal_first, only_theirs}
use Rattle.path_tags.proofs.merge.first_of.Goals as goal

pub returns-in_default-clause-first : goal.returns-in_default-clause-first
returns-in_default-clause-first c =
    only_theirs c.args.ours.now c.args.theirs.now c.in_ok-their.field-0-0.now c.in_ok-their.their_rest.now c.in_default.ensures.cases c.in_ok-their.ensures.cases.0
    c.requires.theirs

pub returns-in_default-clause-theirs_rise : goal.returns-in_default-clause-theirs_rise
returns-in_default-clause-theirs_rise c =
    tail_rises c.args.theirs.now c.in_ok-their.field-0-0.now c.in_ok-their.their_rest.now c.in_ok-their.ensures.cases.0 c.requires.theirs

pub returns-in_default-split_first-clause-ours_rise : goal.returns-in_default-split_first-clause-ours_rise
returns-in_default-split_first-clause-ours_rise c =
    tail_rises c.args.ours.now c.in-Some.field-0-0.now c.in-Some.our_rest.now c.in-Some.ensures.cases.0 c.requires.ours

pub returns-in-Less-clause-first : goal.returns-in-Less-clause-first
returns-in-Less-clause-first c =
    less_first c.args.ours.now c.args.theirs.now c.in-Some.field-0-0.now c.in-Some-split_first.field-0-0.now c.in-Some.our_rest.now
    c.in-Some-split_first.their_rest.now c.in-Some.ensures.cases.0 c.in-Some-split_first.ensures.cases.0 c.requires.theirs (sym c.cmp.ensures ∙ c.in-Less.is)

pub returns-in-Less-clause-ours_rise : goal.returns-in-Less-clause-ours_rise
returns-in-Less-clause-ours_rise c =
    tail_rises c.args.ours.now c.in-Some.field-0-0.now c.in-Some.our_rest.now c.in-Some.ensures.cases.0 c.requires.ours

pub returns-in-Greater-clause-first : goal.returns-in-Greater-clause-first
returns-in-Greater-clause-first c =
    greater_first c.args.ours.now c.args.theirs.now c.in-Some.field-0-0.now c.in-Some-split_first.field-0-0.now c.in-Some.our_rest.now
    c.in-Some-split_first.their_rest.now c.in-Some.ensures.cases.0 c.in-Some-split_first.ensures.cases.0 c.requires.ours c.requires.theirs
    (sym c.cmp.ensures ∙ c.in-Greater.is)

pub returns-in-Greater-clause-theirs_rise : goal.returns-in-Greater-clause-theirs_rise
returns-in-Greater-clause-theirs_rise c =
    tail_rises c.args.theirs.now c.in-Some-split_first.field-0-0.now c.in-Some-split_first.their_rest.now c.in-Some-split_first.ensures.cases.0
    c.requires.theirs

pub returns-in-Equal-clause-first : goal.returns-in-Equal-clause-first
returns-in-Equal-clause-first c =
    equal_first c.args.ours.now c.args.theirs.now c.in-Some.field-0-0.now c.in-Some-split_first.field-0-0.now c.in-Some.our_rest.now
    c.in-Some-split_first.their_rest.now c.in-Some.ensures.cases.0 c.in-Some-split_first.ensures.cases.0 c.requires.theirs (sym c.cmp.ensures ∙ c.in-Equal.is)

pub returns-in-Equal-clause-ours_rise : goal.returns-in-Equal-clause-ours_rise
returns-in-Equal-clause-ours_rise c =
    tail_rises c.args.ours.now c.in-Some.field-0-0.now c.in-Some.our_rest.now c.in-Some.ensures.cases.0 c.requires.ours

pub returns-in-Equal-clause-theirs_rise : goal.returns-in-Equal-clause-theirs_rise
returns-in-Equal-clause-theirs_rise c =
    tail_rises c.args.theirs.now c.in-Some-split_first.field-0-0.now c.in-Some-split_first.their_rest.now c.in-Some-split_first.ensures.cases.0
    c.requires.theirs
