use Rattle.world_play.proofs.Entered.{steps_keep}
use Rattle.world_play.proofs.Keeping.{event_keeps, plays_hold}
use Rattle.world_play.proofs.laws.step_laws.Goals as goal

pub returns-clause-steps : goal.returns-clause-steps
returns-clause-steps c = steps_keep

pub returns-clause-kept : goal.returns-clause-kept
returns-clause-kept c =
    let s = c.sound_laws.ensures in
    let n = c.count_laws.ensures in
    event_keeps (record {
      sound = s.reached;
      asks_sound = s.asks;
      slots = n.slots;
      sizes = n.sizes;
      own = n.own;
      starving = n.starving;
      visits = n.visits;
      counted = c.turn_laws.ensures;
    })

pub returns-clause-plays : goal.returns-clause-plays
returns-clause-plays c =
    let s = c.sound_laws.ensures in
    let n = c.count_laws.ensures in
    plays_hold (record {
      sound = s.reached;
      asks_sound = s.asks;
      slots = n.slots;
      sizes = n.sizes;
      own = n.own;
      starving = n.starving;
      visits = n.visits;
      counted = c.turn_laws.ensures;
    })
