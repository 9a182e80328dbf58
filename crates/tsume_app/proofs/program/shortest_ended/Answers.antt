use Rattle.tsume_app.proofs.program.shortest_ended.Goals as goal

pub returns : goal.returns
returns g c = record {
  found = c.shortest.ensures.found;
  none_within = c.shortest.ensures.none_within;
  gave_up = c.shortest.ensures.gave_up;
  own_found = c.shortest.ensures.own_found;
  own_none = c.shortest.ensures.own_none;
  does = c.shortest.ensures.ended;
  used = c.shortest.ensures.used;
  counted = c.shortest.ensures.counted;
  complete = c.shortest.ensures.complete;
}
