use Rattle.std.proofs.Common.{ap, List, Option, map, subst, sym, ◌∙◌}
use Rattle.one_run.specs.Outside.{shown}
use Rattle.one_run.specs.Stops.{signals}
use Rattle.usi_serve.specs.declared.reply.Reply.{Reply}
use Rattle.cmd_usi.specs.Inside.{IsTurn, IsTurnCounted, talk_view}
use Rattle.cmd_usi.specs.Talk.{EndedSo}
use Rattle.cmd_usi.specs.declared.talked.TalkEnd.{TalkEnd}
use Rattle.cmd_usi.proofs.Ends.{counted_so, ended_so, went_on}
use Rattle.cmd_usi.proofs.running.talk.Goals as goal

-- The last turn.
pub returns-in-Some : goal.returns-in-Some
returns-in-Some g c =
    let tell = g.T.Stop.signal in
    let left = g.S.Source.left in
    let kept = g.K.Sink.kept in
    let faults = g.S.Source.faults in
    let lost = g.K.Sink.faults in
    let l = c.loop-end in
    let n = c.turn.new in
    let source = shown left faults c.args.source.now n.source in
    let sink = shown kept lost c.args.sink.now n.sink in
    let stops = signals tell c.args.stops.now.items n.stops.items in
    let turn = subst (λ (o : Option TalkEnd). IsTurn (talk_view l.talk) (talk_view n.self) (shown left faults l.source n.source) (shown kept lost l.sink n.sink) (signals tell l.stops.items n.stops.items) o)
    c.in-Some.is c.turn.ensures.turn in
    let counted = subst (λ (o : Option TalkEnd). IsTurnCounted (shown left faults l.source n.source) (shown kept lost l.sink n.sink) o) c.in-Some.is c.turn.ensures.counted in
    record {
      ended = subst (λ (r : List Reply). EndedSo c.in-Some.end source sink stops r) (sym (ap (λ v. v.items) c.into_replies-replies.ensures))
          (ended_so c.in-Some.end (talk_view l.talk) (talk_view n.self) (left c.args.source.now) (left l.source) (left n.source) (kept c.args.sink.now) (kept l.sink) (kept n.sink)
          (faults c.args.source.now) (faults l.source) (faults n.source) (lost c.args.sink.now) (lost l.sink) (lost n.sink)
          (map tell c.args.stops.now.items) (map tell l.stops.items) (map tell n.stops.items) l.invariant.come l.invariant.read l.invariant.written turn);
      counted = counted_so c.in-Some.end (left c.args.source.now) (left l.source) (left n.source) (kept c.args.sink.now) (kept l.sink) (kept n.sink)
          (faults c.args.source.now) (faults l.source) (faults n.source) (lost c.args.sink.now) (lost l.sink) (lost n.sink) l.invariant.read l.invariant.written counted;
    }

-- A turn that isn't the last.
pub loop-end-preserved : goal.loop-end-preserved
loop-end-preserved g c =
    let tell = g.T.Stop.signal in
    let left = g.S.Source.left in
    let kept = g.K.Sink.kept in
    let faults = g.S.Source.faults in
    let lost = g.K.Sink.faults in
    let l = c.loop-end in
    let n = c.turn.new in
    let turn = subst (λ (o : Option TalkEnd). IsTurn (talk_view l.talk) (talk_view n.self) (shown left faults l.source n.source) (shown kept lost l.sink n.sink) (signals tell l.stops.items n.stops.items) o)
    c.in-None.is c.turn.ensures.turn in
    let counted = subst (λ (o : Option TalkEnd). IsTurnCounted (shown left faults l.source n.source) (shown kept lost l.sink n.sink) o) c.in-None.is c.turn.ensures.counted in
    record {
      come = went_on c.session_laws.ensures.further (talk_view l.talk) (talk_view n.self) (left c.args.source.now) (left l.source) (left n.source) (kept c.args.sink.now) (kept l.sink) (kept n.sink)
          (faults l.source) (faults n.source) (lost l.sink) (lost n.sink)
          (map tell c.args.stops.now.items) (map tell l.stops.items) (map tell n.stops.items) l.invariant.come turn;
      read = counted.0 ∙ l.invariant.read;
      written = counted.1 ∙ l.invariant.written;
      as_many = c.turn.ensures.same ∙ l.invariant.as_many;
    }
