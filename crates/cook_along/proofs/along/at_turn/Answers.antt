use Rattle.std.proofs.Common.{◌*◌, ◌-◌, length, arith, refl}
use Rattle.std.proofs.lemmas.Option.{slice_get_read}
use Rattle.cook_along.proofs.Turning.{check_before, evades_own, evasion_before, next_turn, this_turn}
use Rattle.cook_along.proofs.along.at_turn.Goals as goal

pub behind-requires-clause-evasion : goal.behind-requires-clause-evasion
behind-requires-clause-evasion c =
    let moves = c.args.moves.now in
    let turn = c.args.turn in
    let within = c.requires.within in
    let check = slice_get_read moves (length moves) (2 * turn - 2) c.index-moves-turn.result refl (omega (arith, within)) c.index-moves-turn.is in
    let evasion = slice_get_read moves (length moves) (2 * turn - 1) c.index-moves-turn-2.result refl (omega (arith, within)) c.index-moves-turn-2.is in
    evades_own c.requires.before.0 moves (turn - 1) c.args.before.now.position c.requires.before.1 c.index-moves-turn.result
    (check_before moves turn c.index-moves-turn.result check) c.index-moves-turn-2.result
    (evasion_before moves turn c.index-moves-turn-2.result c.if-turn-eq0.false evasion)

pub returns : goal.returns
returns c p at =
    let moves = c.args.moves.now in
    let turn = c.args.turn in
    let within = c.requires.within in
    let check = slice_get_read moves (length moves) (2 * turn - 2) c.index-moves-turn.result refl (omega (arith, within)) c.index-moves-turn.is in
    let evasion = slice_get_read moves (length moves) (2 * turn - 1) c.index-moves-turn-2.result refl (omega (arith, within)) c.index-moves-turn-2.is in
    this_turn p moves turn _ c.behind.result.position c.if-turn-eq0.false
    (next_turn p moves (turn - 1) c.args.before.now.position at c.index-moves-turn.result (check_before moves turn c.index-moves-turn.result check)
    c.index-moves-turn-2.result (evasion_before moves turn c.index-moves-turn-2.result c.if-turn-eq0.false evasion))
    c.behind.ensures
