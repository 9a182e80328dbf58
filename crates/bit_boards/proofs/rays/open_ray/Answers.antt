use Rattle.std.proofs.Common.{◌≡◌, ℕ, ◌<◌, ◌^◌, ◌&&◌, ◌↔◌, nat_lt, sym, ap, subst, ◌∙◌}
use Rattle.std.proofs.lemmas.Bool.{and_parts, and_from, ltb-true, lt-ltb}
use Rattle.bit_boards.specs.declared.mask.Mask.{Mask}
use Rattle.bit_boards.specs.declared.direction.Direction.{Direction}
use Rattle.bit_boards.specs.Mask.{holds, Holds}
use Rattle.bit_boards.specs.Direction.{LiesToward}
use Rattle.bit_boards.proofs.Bits.{set}
use Rattle.bit_boards.proofs.Masked.{bits_where, bits_where-at, bits_where-lt}
use Rattle.bit_boards.proofs.Ahead.{ahead, ahead_is, ahead_by, apart}
use Rattle.bit_boards.proofs.Looked.{ray_is}
use Rattle.bit_boards.proofs.rays.open_ray.Goals as goal

holds_ahead : (mask : Mask) (d : Direction) (from to : ℕ) → mask.bits ≡ bits_where (ahead d from) → Holds mask to ↔ LiesToward d from to
unfolding holds
holds_ahead mask d from to e =
    let at : set mask.bits to ≡ (nat_lt to 81 && ahead d from to) = ap (λ x. set x to) e ∙ bits_where-at (ahead d from) to in (
      (λ has. let parts = and_parts _ _ (sym at ∙ has) in (ltb-true _ _ parts.0, apart from to, ahead_is d from to parts.1)),
      (λ lies. at ∙ and_from _ _ (lt-ltb _ _ lies.0) (ahead_by d from lies.1 to lies.2)),
    )

pub invariant_of-result : goal.invariant_of-result
invariant_of-result c = record {
  on_board = subst (λ n. n < 2 ^ 81) (sym (ray_is c.args.direction c.place.result c.args.from.number c.place.ensures c.args.from.on_board))
      (bits_where-lt (ahead c.args.direction c.args.from.number));
}

pub returns : goal.returns
returns c to = holds_ahead _ c.args.direction c.args.from.number to
    (ray_is c.args.direction c.place.result c.args.from.number c.place.ensures c.args.from.on_board)
