use Rattle.evasions.proofs.Evading.{drops_exact}
use Rattle.evasions.proofs.Counts.{more_drop_squares}
use Rattle.list_laws.proofs.Adding.{placed}
use Rattle.evasions.proofs.counting.drop_squares.Goals as goal

pub loop-kind-preserved : goal.loop-kind-preserved
loop-kind-preserved c =
    let b = c.args.position.now in
    more_drop_squares b c.value_laws.ensures.places c.loop-kind.kind-index _ (placed _ c.loop-kind.kind-index c.loop-kind-test.true)
    c.loop-kind.squares c.drops.result c.or-squares.result c.or-squares.ensures
    (drops_exact b _ c.full.result c.drops.result c.full.ensures c.drops.ensures) c.loop-kind.invariant
