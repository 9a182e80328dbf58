use Rattle.std.proofs.Common.{◌&&◌, ◌||◌, ap, ◌∙◌}
use Rattle.std.proofs.lemmas.Bool.{lt-ltb}
use Rattle.bit_boards.specs.Mask.{holds}
use Rattle.bit_boards.specs.Movement.{share_line, are_near}
use Rattle.board_core.specs.Board.{piece_at}
use Rattle.board_core.specs.Sets.{is_slider}
use Rattle.shogi_rules.proofs.Nearby.{candidate}
use Rattle.shogi_rules.proofs.checking.candidates.Goals as goal

pub returns : goal.returns
returns c = λ from low attack.
    let cell = piece_at c.args.position.now.cells from in
    let on = lt-ltb from 81 low in
    let near = c.around.ensures from ∙ ap (λ b. b && are_near c.args.to.number from) on in
    let line = c.lines.ensures from ∙ ap (λ b. b && share_line c.args.to.number from) on in
    let sliding = c.and-sliding.ensures from ∙ (ap (λ b. b && holds c.sliders.result from) line ∙ ap (λ b. share_line c.args.to.number from && b) (c.sliders.ensures from)) in
    let one = c.or.ensures from ∙ (ap (λ b. b || holds c.and-sliding.result from) near ∙ ap (λ b. are_near c.args.to.number from || b) sliding) in
    let all = c.and.ensures from ∙ (ap (λ b. b && holds c.occupied.result from) one
    ∙ ap (λ b. (are_near c.args.to.number from || (share_line c.args.to.number from && is_slider cell)) && b) (c.occupied.ensures from)) in
    all ∙ candidate c.mask_laws.ensures.steps c.mask_laws.ensures.slides c.args.side from c.args.to.number low c.args.to.on_board cell attack
