use Rattle.std.proofs.Common.{◌↔◌, ◌∙◌, sym, subst}
use Rattle.std.proofs.lemmas.Bool.{and_parts, and_from}
use Rattle.bit_boards.specs.declared.direction.Direction.{Direction}
use Rattle.bit_boards.specs.declared.piece.Side.{Side}
use Rattle.bit_boards.specs.Mask.{Holds}
use Rattle.bit_boards.specs.Direction.{LiesToward}
use Rattle.attack_lines.specs.Parts.{ahead_of}
use Rattle.attack_lines.proofs.Sights.{lance_slid, bishop_slid, rook_slid}
use Rattle.attack_lines.proofs.sight.Sight.slid_from.Goals as goal

pub returns-in-Lance-false : goal.returns-in-Lance-false
returns-in-Lance-false c cells sight from =
    let to = c.args.self.square.number in
    let P : Direction → Type 0 = λ d. Holds c.open_ray.result from ↔ LiesToward d to from in
    let Q : Side → Type 0 = λ s. Holds c.open_ray.result from ↔ LiesToward (ahead_of s) to from in
    let back = subst Q c.other.ensures (subst P c.ahead.ensures (c.open_ray.ensures from)) in
    let seen = sight.straight from in
    let both = c.and.ensures from in
    let slid = lance_slid cells c.args.piece c.in-Lance-false.is-0 c.in-Lance-false.is-1 from to c.args.self.square.on_board in (
      (λ has. let parts = and_parts _ _ (sym both ∙ has) in slid.0 (seen.0 parts.0, back.0 parts.1)),
      (λ is. let parts = slid.1 is in both ∙ and_from _ _ (seen.1 parts.0) (back.1 parts.1)),
    )

pub returns-in-Bishop-default : goal.returns-in-Bishop-default
returns-in-Bishop-default c cells sight from =
    let seen = sight.diagonal from in
    let slid = bishop_slid cells c.args.piece c.in-Bishop-default.is-0 from c.args.self.square.number c.args.self.square.on_board in
    ((λ has. slid.0 (seen.0 has)), (λ is. seen.1 (slid.1 is)))

pub returns-in-Rook-default : goal.returns-in-Rook-default
returns-in-Rook-default c cells sight from =
    let seen = sight.straight from in
    let slid = rook_slid cells c.args.piece c.in-Rook-default.is-0 from c.args.self.square.number c.args.self.square.on_board in
    ((λ has. slid.0 (seen.0 has)), (λ is. seen.1 (slid.1 is)))
