use Rattle.std.proofs.Common.{◌↔◌, subst}
use Rattle.bit_boards.specs.declared.direction.Direction.{Direction}
use Rattle.bit_boards.specs.Mask.{Holds}
use Rattle.attack_lines.specs.Lines.{IsSeenOver}
use Rattle.attack_lines.proofs.Sights.{lance_slides, bishop_slides, rook_slides}
use Rattle.attack_lines.proofs.reach.slides.Goals as goal

pub returns-in-Lance-false : goal.returns-in-Lance-false
returns-in-Lance-false c cells are to =
    let from = c.args.from.number in
    let P : Direction → Type 0 = λ d. Holds c.seen.result to ↔ IsSeenOver cells d from to in
    let seen = subst P c.ahead.ensures (c.seen.ensures cells are to) in
    let slid = lance_slides cells c.args.piece c.in-Lance-false.is-0 c.in-Lance-false.is-1 from to in
    ((λ has. slid.0 (seen.0 has)), (λ is. seen.1 (slid.1 is)))

pub returns-in-Bishop-default : goal.returns-in-Bishop-default
returns-in-Bishop-default c cells are to =
    let seen = c.diagonal.ensures cells are to in
    let slid = bishop_slides cells c.args.piece c.in-Bishop-default.is-0 c.args.from.number to in
    ((λ has. slid.0 (seen.0 has)), (λ is. seen.1 (slid.1 is)))

pub returns-in-Rook-default : goal.returns-in-Rook-default
returns-in-Rook-default c cells are to =
    let seen = c.straight.ensures cells are to in
    let slid = rook_slides cells c.args.piece c.in-Rook-default.is-0 c.args.from.number to in
    ((λ has. slid.0 (seen.0 has)), (λ is. seen.1 (slid.1 is)))
