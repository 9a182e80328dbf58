use Rattle.std.proofs.Common.{◌≡◌, ℕ, ◌<◌, ◌-◌, ◌&&◌, sym, subst, ◌∙◌, ◌↔◌}
use Rattle.std.proofs.lemmas.Bool.{and_parts, and_from, both_ways}
use Rattle.bit_boards.specs.declared.direction.Direction.{Direction}
use Rattle.bit_boards.specs.declared.mask.Mask.{Mask}
use Rattle.bit_boards.specs.Mask.{holds, Holds}
use Rattle.bit_boards.specs.Movement.{IsBetween}
use Rattle.bit_boards.specs.Direction.{LiesToward, opposite}
use Rattle.bit_boards.proofs.Ahead.{nearer, between_by, between_within, behind, meet, line_of}
use Rattle.bit_boards.proofs.rays.between.Goals as goal

both_rays : (to from met : Mask) (d e : Direction) (a b s : ℕ) → a < 81 → LiesToward d a b → e ≡ opposite d
    → (Holds to s ↔ LiesToward d a s) → (Holds from s ↔ LiesToward e b s) → holds met s ≡ (holds to s && holds from s)
    → Holds met s ↔ IsBetween a s b
both_rays to from met d e a b s ha lies back there here both = (
  (λ has.
      let parts = and_parts _ _ (sym both ∙ has) in
      let x = there.0 parts.0 in
      let P : Direction → Type 0 = λ f. LiesToward f b s in
      let y = subst P back (here.0 parts.1) in
      between_by d a lies.1 b x.1 s lies.2 x.2 (meet d a lies.1 b x.1 y.1 s lies.2 x.2 y.2)),
  (λ is.
      let n = nearer d a lies.1 b s lies.2 is in
      let within = between_within a s b ha lies.0 is in
      let P : Direction → Type 0 = λ f. LiesToward f b s in
      let y = subst P (sym back) (within, lies.1 - n.steps, behind d a lies.1 b n.steps s lies.2 n.ahead n.nearer) in
      both ∙ and_from _ _ (there.1 (within, n.steps, n.ahead)) (here.1 y)),
)

pub returns-in-Some : goal.returns-in-Some
returns-in-Some c s = both_rays c.open_ray.result c.open_ray-in-Some.result c.and.result c.in-Some.direction c.opposite.result c.args.a.number c.args.b.number s
    c.args.a.on_board c.in-Some.ensures.toward c.opposite.ensures (c.open_ray.ensures s) (c.open_ray-in-Some.ensures s) (c.and.ensures s)

pub returns-in-None : goal.returns-in-None
returns-in-None c s = (
  (λ has. absurd (both_ways _ (c.empty.ensures s) has)),
  (λ is. let l = line_of c.args.a.number s c.args.b.number is in absurd (c.in-None.ensures.none l.direction (c.args.b.on_board, l.steps, l.ahead))),
)
