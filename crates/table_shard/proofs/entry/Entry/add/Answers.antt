use Rattle.std.proofs.Common.{sym, subst}
use Rattle.std.specs.Prelude.{All}
use Rattle.table_shard.specs.Entry.{EntryView, IsAbout, IsFactAbout}
use Rattle.table_shard.specs.Facts.{notes_of}
use Rattle.table_shard.specs.declared.facts.Facts.{Facts}
use Rattle.table_shard.proofs.Noted.{about_noted}
use Rattle.table_shard.proofs.entry.Entry.add.Goals as goal

pub invariant_of-self-2 : goal.invariant_of-self-2
invariant_of-self-2 c = (
  c.self.invariant.0,
  c.with.ensures.facts,
  about_noted c.self.inside.key (notes_of c.replace-facts.result) (notes_of c.with.result) c.args.note
      (subst (λ (f : Facts). All (IsFactAbout c.self.inside.key) (notes_of f)) (sym c.replace-facts.ensures.value) c.self.invariant.2)
      (subst (λ (h : EntryView). IsAbout h.key c.args.note) (sym c.self.view_is) c.requires, c.laws.ensures.valid)
      c.with.ensures.notes,
)
