use Rattle.std.proofs.Common.{List, inr, sym, subst}
use Rattle.board_core.specs.declared.keys.Key.{Key}
use Rattle.path_tags.specs.Tag.{IsWithin}
use Rattle.table_shard.proofs.facts.first.Goals as goal

pub returns : goal.returns
returns c = λ notes behind. inr (
  λ within.
      let holds = c.within.ensures.1 (subst (λ (tag : List Key). IsWithin tag c.args.path.now) (sym c.tag.ensures) within) in
      let not = c.if-within.false in cc,
  behind,
)
