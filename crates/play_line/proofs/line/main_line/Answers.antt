use Rattle.std.proofs.Common.{sym, subst}
use Rattle.std.specs.Prelude.{Option}
use Rattle.bit_boards.specs.declared.piece.Side.{Side}
use Rattle.board_core.specs.declared.moves.Move.{Move}
use Rattle.board_core.specs.Board.{Board}
use Rattle.hand_dominance.specs.BorneOut.{CoversListed}
use Rattle.dominance_places.specs.Found.{IsLeastCovered}
use Rattle.play_line.specs.Line.{IsDefence}
use Rattle.play_line.proofs.Following.{serves, move_at, ends, mates_there, goes_on, covers_listed, rank_falls}
use Rattle.play_line.proofs.line.main_line.Goals as goal

pub apply-checked-requires-clause-legal : goal.apply-checked-requires-clause-legal
apply-checked-requires-clause-legal c =
    let out = serves c.listing_laws.ensures.above c.args.certificate.now c.args.problem.now.position c.loop-moves.position c.entries-entries.result.now c.loop-moves.place c.index-entries-place.result c.requires
    c.entries-entries.ensures.entries c.loop-moves.invariant.0.found c.index-entries-place.is c.laws.ensures c.laws-in-loop-moves.ensures in
    out.check.legal

pub defence-requires-clause-version : goal.defence-requires-clause-version
defence-requires-clause-version c = c.loop-moves.invariant.1.version

pub defence-requires-clause-places : goal.defence-requires-clause-places
defence-requires-clause-places c = c.loop-moves.invariant.1.stand

pub defence-requires-clause-covers : goal.defence-requires-clause-covers
defence-requires-clause-covers c =
    let out = serves c.listing_laws.ensures.above c.args.certificate.now c.args.problem.now.position c.loop-moves.position c.entries-entries.result.now c.loop-moves.place c.index-entries-place.result c.requires
    c.entries-entries.ensures.entries c.loop-moves.invariant.0.found c.index-entries-place.is c.laws.ensures c.laws-in-loop-moves.ensures in
    covers_listed c.args.certificate.now c.args.problem.now.position c.loop-moves.position c.apply-checked.result c.index-entries-place.result out c.apply-checked.ensures.position

pub returns-in-None-clause-line : goal.returns-in-None-clause-line
returns-in-None-clause-line c =
    let none = subst (λ (o : Option Move). IsDefence c.args.certificate.now c.args.problem.now.position.side c.apply-checked.result o) c.in-None.is c.in_ok-defence.ensures in
    ends c.args.certificate.now c.args.problem.now.position c.loop-moves.position c.apply-checked.result c.loop-moves.place c.loop-moves.moves.items c.push.new.self.items c.index-entries-place.result.by
    c.apply-checked.ensures.position none c.in_ok-push.ensures.items c.loop-moves.invariant.0
    (move_at c.args.certificate.now c.args.problem.now.position.side c.loop-moves.position c.entries-entries.result.now c.loop-moves.place c.index-entries-place.result c.entries-entries.ensures.entries
    c.loop-moves.invariant.0.found c.index-entries-place.is)

pub returns-in-None-clause-mates : goal.returns-in-None-clause-mates
returns-in-None-clause-mates c =
    let none = subst (λ (o : Option Move). IsDefence c.args.certificate.now c.args.problem.now.position.side c.apply-checked.result o) c.in-None.is c.in_ok-defence.ensures in
    let out = serves c.listing_laws.ensures.above c.args.certificate.now c.args.problem.now.position c.loop-moves.position c.entries-entries.result.now c.loop-moves.place c.index-entries-place.result c.requires
    c.entries-entries.ensures.entries c.loop-moves.invariant.0.found c.index-entries-place.is c.laws.ensures c.laws-in-loop-moves.ensures in
    mates_there c.args.certificate.now c.args.problem.now.position c.loop-moves.position c.apply-checked.result c.loop-moves.place c.loop-moves.moves.items c.push.new.self.items c.index-entries-place.result.by
    c.apply-checked.ensures.position none c.in_ok-push.ensures.items c.loop-moves.invariant.0 out.check

pub place_of-requires-in-Some-clause-version : goal.place_of-requires-in-Some-clause-version
place_of-requires-in-Some-clause-version c = c.loop-moves.invariant.1.version

pub place_of-requires-in-Some-clause-places : goal.place_of-requires-in-Some-clause-places
place_of-requires-in-Some-clause-places c = c.loop-moves.invariant.1.stand

pub place_of-requires-in-Some-clause-covers : goal.place_of-requires-in-Some-clause-covers
place_of-requires-in-Some-clause-covers c =
    let best = subst (λ (o : Option Move). IsDefence c.args.certificate.now c.args.problem.now.position.side c.apply-checked.result o) c.in-Some.is c.in_ok-defence.ensures in
    let out = serves c.listing_laws.ensures.above c.args.certificate.now c.args.problem.now.position c.loop-moves.position c.entries-entries.result.now c.loop-moves.place c.index-entries-place.result c.requires
    c.entries-entries.ensures.entries c.loop-moves.invariant.0.found c.index-entries-place.is c.laws.ensures c.laws-in-loop-moves.ensures in
    subst (λ (side : Side). CoversListed c.args.certificate.now.version c.args.certificate.now.entries side c.apply-position.result) (sym c.attacker-attacker.ensures)
    (subst (λ (b : Board). CoversListed c.args.certificate.now.version c.args.certificate.now.entries c.args.problem.now.position.side b) (sym c.apply-position.ensures.position)
    (covers_listed c.args.certificate.now c.args.problem.now.position c.loop-moves.position c.apply-checked.result c.index-entries-place.result out c.apply-checked.ensures.position c.in-Some.evasion best.is_evasion))

pub loop-moves-smaller : goal.loop-moves-smaller
loop-moves-smaller c =
    let best = subst (λ (o : Option Move). IsDefence c.args.certificate.now c.args.problem.now.position.side c.apply-checked.result o) c.in-Some.is c.in_ok-defence.ensures in
    let out = serves c.listing_laws.ensures.above c.args.certificate.now c.args.problem.now.position c.loop-moves.position c.entries-entries.result.now c.loop-moves.place c.index-entries-place.result c.requires
    c.entries-entries.ensures.entries c.loop-moves.invariant.0.found c.index-entries-place.is c.laws.ensures c.laws-in-loop-moves.ensures in
    let new = subst (λ (side : Side). IsLeastCovered c.args.certificate.now.version c.args.certificate.now.entries side c.apply-position.result c.in_ok-place-in-Some.place)
    c.attacker-attacker.ensures c.in_ok-place-in-Some.ensures in
    rank_falls c.args.certificate.now c.args.problem.now.position c.loop-moves.position c.apply-checked.result c.apply-position.result c.entries-entries.result.now c.loop-moves.place c.in_ok-place-in-Some.place
    c.index-entries-place.result c.in-Some.evasion c.entries-entries.ensures.entries c.loop-moves.invariant.0.found c.index-entries-place.is out c.apply-checked.ensures.position
    c.apply-position.ensures.position best.is_evasion new

pub loop-moves-preserved : goal.loop-moves-preserved
loop-moves-preserved c =
    let best = subst (λ (o : Option Move). IsDefence c.args.certificate.now c.args.problem.now.position.side c.apply-checked.result o) c.in-Some.is c.in_ok-defence.ensures in
    let out = serves c.listing_laws.ensures.above c.args.certificate.now c.args.problem.now.position c.loop-moves.position c.entries-entries.result.now c.loop-moves.place c.index-entries-place.result c.requires
    c.entries-entries.ensures.entries c.loop-moves.invariant.0.found c.index-entries-place.is c.laws.ensures c.laws-in-loop-moves.ensures in
    let new = subst (λ (side : Side). IsLeastCovered c.args.certificate.now.version c.args.certificate.now.entries side c.apply-position.result c.in_ok-place-in-Some.place)
    c.attacker-attacker.ensures c.in_ok-place-in-Some.ensures in (
      goes_on c.args.certificate.now c.args.problem.now.position c.loop-moves.position c.apply-checked.result c.apply-position.result c.loop-moves.place c.in_ok-place-in-Some.place
          c.loop-moves.moves.items c.push.new.self.items c.push-in-Some.new.self.items c.index-entries-place.result.by c.in-Some.evasion
          c.apply-checked.ensures.position c.apply-position.ensures.position c.apply-position.ensures.quiet
          (move_at c.args.certificate.now c.args.problem.now.position.side c.loop-moves.position c.entries-entries.result.now c.loop-moves.place c.index-entries-place.result c.entries-entries.ensures.entries
          c.loop-moves.invariant.0.found c.index-entries-place.is)
          out.check best new c.in_ok-push.ensures.items c.in_ok-push-in-Some.ensures.items c.apply-checked.ensures.has_text c.apply-position.ensures.has_text
          c.loop-moves.invariant.0,
      c.loop-moves.invariant.1,
    )
