use Rattle.std.proofs.Common.{◌<◌, sym, ◌∙◌}
use Rattle.bit_boards.proofs.Ahead.{rise, fall}
use Rattle.bit_boards.proofs.Seen.{Looks, Orders, seen, unseen}
use Rattle.bit_boards.proofs.rays.ray.Goals as goal

pub returns-then-rises : goal.returns-then-rises
returns-then-rises c to =
    let d = c.args.direction in
    let from = c.args.from.number in
    let order : Orders d from (λ s t. s < t) = λ j m k b h i. rise d from j m k b (sym c.rises.ensures ∙ c.if-rises.true) h i in
    let looks : Looks c.args.occupied c.open_ray-ahead.result c.and-met.result d from =
    record { opens = c.open_ray-ahead.ensures; meets = c.and-met.ensures; on_board = c.args.from.on_board } in
    let cut = c.up_to_first.ensures to in (
      (λ has. let parts = cut.0 has in seen _ _ _ d from to _ order looks parts.0 parts.1),
      (λ is. cut.1 ((looks.opens to).1 is.toward, unseen _ _ _ d from to _ order looks is)),
    )

pub returns-else-rises : goal.returns-else-rises
returns-else-rises c to =
    let d = c.args.direction in
    let from = c.args.from.number in
    let order : Orders d from (λ s t. t < s) = λ j m k b h i. fall d from j m k b (sym c.rises.ensures ∙ c.if-rises.false) h i in
    let looks : Looks c.args.occupied c.open_ray-ahead.result c.and-met.result d from =
    record { opens = c.open_ray-ahead.ensures; meets = c.and-met.ensures; on_board = c.args.from.on_board } in
    let cut = c.down_to_last.ensures to in (
      (λ has. let parts = cut.0 has in seen _ _ _ d from to _ order looks parts.0 parts.1),
      (λ is. cut.1 ((looks.opens to).1 is.toward, unseen _ _ _ d from to _ order looks is)),
    )
