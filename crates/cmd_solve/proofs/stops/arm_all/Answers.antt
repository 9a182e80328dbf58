use Rattle.std.proofs.Common.{◌∙◌, ap, length, map, sym}
use Rattle.std.proofs.lemmas.List.{length-map}
use Rattle.search_gate.specs.Stop.{Signal, armed_with}
use Rattle.search_crew.proofs.Offered.{all_of}
use Rattle.cmd_solve.proofs.Armed.{told_armed}
use Rattle.cmd_solve.proofs.stops.arm_all.Goals as goal

pub returns : goal.returns
returns g c =
    let tell = g.T.Stop.signal in
    let deadline = c.args.after_ms in
    let armed_all = c.arm_each.new.stops in
    let value = c.deref_mut.ensures.value in
    let same = sym (length-map armed_all tell) ∙ (ap length c.arm_each.ensures ∙ length-map c.deref_mut.result.now (λ (stop : g.row.T.Denot). armed_with (tell stop) deadline)) in
    let whole = all_of c.args.stops.now.len armed_all c.args.stops.now.items (same ∙ c.deref_mut.ensures.len) (sym (ap length value) ∙ c.deref_mut.ensures.len) in
    ap (map tell) whole ∙ (c.arm_each.ensures ∙ (told_armed deadline tell c.deref_mut.result.now
    ∙ ap (λ l. map (λ (s : Signal). armed_with s deadline) (map tell l)) value))
