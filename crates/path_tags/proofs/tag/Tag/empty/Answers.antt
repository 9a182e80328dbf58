use Rattle.std.proofs.Common.{sym, subst}
use Rattle.path_tags.specs.Tag.{IsRising}
use Rattle.path_tags.proofs.Rising.{rises_none}
use Rattle.path_tags.proofs.tag.Tag.empty.Goals as goal

pub invariant_of-result : goal.invariant_of-result
invariant_of-result c = subst IsRising (sym c.new.ensures.items) rises_none
