use Rattle.std.proofs.Common.{◌≡◌, ◌++◌, ◌+◌, length}
use Rattle.path_tags.specs.Tag.{IsRising, joined_without}
use Rattle.path_tags.proofs.tag.Tag.add_without.Given as goal

-- what is joined so far and what is left to be joined are the whole, and what is left of each list
-- rises
abbrev pub invariant-loop-first : goal.invariant-loop-first
invariant-loop-first l = (l.keys.items ++ joined_without l.key l.ours l.theirs ≡ joined_without l.key l.fn.self l.other)
    × IsRising l.ours × IsRising l.theirs

abbrev pub decreases-loop-first : goal.decreases-loop-first
decreases-loop-first l = length l.ours + length l.theirs
