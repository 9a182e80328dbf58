use Rattle.std.proofs.Common.{◌-◌, arith, subst, sym}
use Rattle.mate_def.specs.Mate.{CanEvadeTo}
use Rattle.cert_text.specs.declared.certificate.Certificate.TheVariants as certificates
use Rattle.shortest_lists.specs.Line.{Lasts}
use Rattle.shortest_lists.proofs.Lines.{borne_at, some_lasts, begins, some_left, listed_at, quiet_at, goes_on}
use Rattle.shortest_lists.proofs.line.line_of.Goals as goal

pub loop-moves-init : goal.loop-moves-init
loop-moves-init c =
    begins c.args.certificate.now c.args.bound.now.entries c.args.problem.now.position c.args.rank c.new-moves.result.items c.new-moves.ensures.items
    c.requires.rank c.requires.bound

pub move_at-check-requires-clause-listed : goal.move_at-check-requires-clause-listed
move_at-check-requires-clause-listed c =
    listed_at c.args.certificate.now c.loop-moves.position c.loop-moves.left c.loop-moves.invariant.lasts.ranked

pub apply-checked-requires-clause-quiet : goal.apply-checked-requires-clause-quiet
apply-checked-requires-clause-quiet c =
    quiet_at c.args.certificate.now c.laws.ensures.kept c.loop-moves.position c.loop-moves.left c.loop-moves.invariant.lasts.ranked

pub apply-checked-requires-clause-legal : goal.apply-checked-requires-clause-legal
apply-checked-requires-clause-legal c =
    (borne_at c.entry_laws.ensures.apart c.args.certificate.now c.args.problem.now.position c.loop-moves.position c.loop-moves.left
    c.move_at-check.result c.requires.valid c.requires.version c.laws.ensures.apart c.loop-moves.invariant.lasts.ranked c.move_at-check.ensures.is_move).is_check.legal

pub first_lasting-requires-clause-some : goal.first_lasting-requires-clause-some
first_lasting-requires-clause-some c =
    let certificate = c.args.certificate.now in
    let bounds = c.args.bound.now.entries in
    let p = c.args.problem.now.position in
    let on = c.loop-moves.invariant in
    let least = some_left certificate bounds c.loop-moves.left c.loop-moves.position on.lasts in
    subst (CanEvadeTo p.side (Lasts certificate bounds (c.loop-moves.left - 1))) (sym c.apply-checked.ensures.position)
    (some_lasts c.entry_laws.ensures.apart c.rank_grows.ensures certificate bounds p c.loop-moves.position (c.args.rank - 1) c.loop-moves.left
    c.move_at-check.result c.requires.valid c.requires.version c.laws.ensures.apart
    (c.valid_is_accepted.ensures.shows (certificates.Mate certificate) p c.in_ok-places_of.ensures.places.kept c.laws-2.ensures c.requires.valid) c.requires.bound
    (c.valid_bound_is_accepted.ensures.shows bounds p (c.args.rank - 1) c.requires.bound) (omega (arith, least)) on.lasts
    c.move_at-check.ensures.is_move)

pub loop-moves-preserved : goal.loop-moves-preserved
loop-moves-preserved c =
    let certificate = c.args.certificate.now in
    let bounds = c.args.bound.now.entries in
    let on = c.loop-moves.invariant in
    let least = some_left certificate bounds c.loop-moves.left c.loop-moves.position on.lasts in
    goes_on certificate bounds c.args.problem.now.position c.args.rank c.loop-moves.moves.items c.push.new.self.items c.push-in-loop-moves.new.self.items
    c.loop-moves.left c.loop-moves.position c.apply-checked.result c.apply-position.result c.move_at-check.result c.in_ok-evasion.evasion on
    c.move_at-check.ensures.is_move (omega (arith, least)) c.apply-checked.ensures.position c.apply-position.ensures.position c.in_ok-evasion.ensures
    c.in_ok-push.ensures.items c.in_ok-push-2.ensures.items c.move_at-check.ensures.text c.apply-position.ensures.has_text
