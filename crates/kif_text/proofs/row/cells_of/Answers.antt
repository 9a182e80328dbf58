use Rattle.std.proofs.Common.{◌≡◌, ◌+◌, ◌*◌, ◌∙◌, ap, sym, refl, arith, drop}
use Rattle.std.proofs.lemmas.List.{length-set}
use Rattle.std.specs.Str.{chars}
use Rattle.kif_text.proofs.Rows.{next_cell, cells_more, next_cells, bad_cell, open_row, closed_row}
use Rattle.kif_text.proofs.row.cells_of.Goals as goal

pub returns-in_default : goal.returns-in_default
returns-in_default c =
    let k = c.loop-place.invariant in
    (c.loop-place.place + 1, bad_cell (chars c.args.row.now) (chars c.loop-place.rest.now) c.loop-place.place c.loop-place.cells c.loop-place-test.true k.2 k.3 c.in_default.ensures.split, refl)

pub loop-place-preserved : goal.loop-place-preserved
loop-place-preserved c =
    let k = c.loop-place.invariant in
    let s = c.in-Some.ensures.split in (
      c.in-Some.ensures.text,
      length-set c.loop-place.cells c.loop-place.place c.in-Some.cell ∙ k.1,
      next_cells (chars c.args.row.now) (chars c.loop-place.rest.now) (chars c.in-Some.behind.now) c.loop-place.place k.2 s.1,
      cells_more (chars c.args.row.now) c.loop-place.cells c.loop-place.place c.in-Some.cell (omega arith) (next_cell (chars c.args.row.now) (chars c.loop-place.rest.now) c.loop-place.place k.2 ∙ s.0) k.3,
    )

pub returns-then-is_closed : goal.returns-then-is_closed
returns-then-is_closed c =
    let k = c.loop-place.invariant in
    let nine : c.loop-place.place ≡ 9 = omega arith in
    closed_row (chars c.args.row.now) (chars c.loop-place.rest.now) c.loop-place.cells (k.2 ∙ ap (λ n. drop (2 * n) (chars c.args.row.now)) nine) (λ n lt. k.3 n (omega arith)) (sym c.is_closed.ensures ∙ c.if-is_closed.true)

pub returns-else-is_closed : goal.returns-else-is_closed
returns-else-is_closed c =
    let k = c.loop-place.invariant in
    let nine : c.loop-place.place ≡ 9 = omega arith in
    (10, open_row (chars c.args.row.now) (chars c.loop-place.rest.now) c.loop-place.cells (k.2 ∙ ap (λ n. drop (2 * n) (chars c.args.row.now)) nine) (λ n lt. k.3 n (omega arith)) (sym c.is_closed.ensures ∙ c.if-is_closed.false), refl)
