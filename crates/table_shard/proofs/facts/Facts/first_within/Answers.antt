use Rattle.std.proofs.Common.{[], ◌∷◌, sym, subst, refl}
use Rattle.std.specs.Option.{option_copied}
use Rattle.table_shard.specs.Entry.{IsFirstWithin}
use Rattle.table_shard.specs.Facts.{notes_of}
use Rattle.table_shard.specs.declared.facts.Facts.{Facts}
use Rattle.table_shard.proofs.facts.Facts.first_within.Goals as goal

pub returns-in-Two : goal.returns-in-Two
returns-in-Two c =
    subst (λ (f : Facts). IsFirstWithin c.args.path.now (notes_of f) (option_copied c.first-in-Two-2.result)) (sym c.in-Two.is)
    (c.first-in-Two-2.ensures (c.in-Two.b ∷ []) (c.first-in-Two.ensures [] refl))

pub returns-in-Three : goal.returns-in-Three
returns-in-Three c =
    subst (λ (f : Facts). IsFirstWithin c.args.path.now (notes_of f) (option_copied c.first-in-Three-3.result)) (sym c.in-Three.is)
    (c.first-in-Three-3.ensures (c.in-Three.b ∷ c.in-Three.c ∷ []) (c.first-in-Three-2.ensures (c.in-Three.c ∷ []) (c.first-in-Three.ensures [] refl)))

pub returns-in-Four : goal.returns-in-Four
returns-in-Four c =
    subst (λ (f : Facts). IsFirstWithin c.args.path.now (notes_of f) (option_copied c.first-in-Four-4.result)) (sym c.in-Four.is)
    (c.first-in-Four-4.ensures (c.in-Four.b ∷ c.in-Four.c ∷ c.in-Four.d ∷ []) (c.first-in-Four-3.ensures (c.in-Four.c ∷ c.in-Four.d ∷ [])
    (c.first-in-Four-2.ensures (c.in-Four.d ∷ []) (c.first-in-Four.ensures [] refl))))
