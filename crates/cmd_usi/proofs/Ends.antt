-- How a session ends whose last turn did this.
use Rattle.std.proofs.Common.{◌≡◌, List, [], ◌++◌, ℕ, Option, None, Some, refl, sym, ◌∙◌, ap, append-nil, subst, inl, inr}
use Rattle.search_gate.specs.Stop.{Signal}
use Rattle.tsume_io.specs.Faults.{Rose}
use Rattle.tsume_io.specs.Sink.{GrewBy}
use Rattle.input_lines.specs.Lines.{place_of}
use Rattle.usi_session.specs.Sessions.{ActView, Ends, IsAct}
use Rattle.usi_serve.specs.Served.{IsDone, IsServedInPart}
use Rattle.usi_serve.specs.declared.reply.Reply.{Reply}
use Rattle.cmd_usi.specs.Inside.{TalkView, IsTurn, IsTurnCounted}
use Rattle.cmd_usi.specs.Talk.{HasCome, EndedSo, IsTalkCounted}
use Rattle.cmd_usi.specs.declared.talked.TalkEnd.{TalkEnd}
use Rattle.cmd_usi.specs.declared.talked.TalkEnd.TheVariants.{Over, TooLong, Read, Write, NoMemory}
use Rattle.usi_session.specs.Laws.{OneLineMore}
use Rattle.cmd_usi.proofs.Course.{come_more, come_still}

-- a sink grew by nothing
grew_none : (before after : Option (List ℕ)) (text : List ℕ) → text ≡ [] → GrewBy before after text → after ≡ before
grew_none None None text none grew = refl
grew_none None (Some after) text none grew = absurd grew
grew_none (Some before) None text none grew = absurd grew
grew_none (Some before) (Some after) text none grew = ap (λ l. Some l) (grew ∙ ap (λ l. before ++ l) none ∙ append-nil before)

-- the act that ends a session writes nothing, and uses no stop
done_end : (act : ActView) (now last : List Signal) (text : List ℕ) (replies : List Reply) → act ≡ Ends
    → IsDone act (record { before = now; after = last }) text replies → (text ≡ []) × (replies ≡ []) × (last ≡ now)
done_end act now last text replies is done = subst (λ (a : ActView). IsDone a (record { before = now; after = last }) text replies) is done

pub ended_so : (end : TalkEnd) (before after : TalkView) (told told_now told_last kept kept_now kept_last : Option (List ℕ))
    → (faults faults_now faults_last lost lost_now lost_last : ℕ) (first now last : List Signal)
    → HasCome (record { told = told; place = place_of before.lines told_now; kept = kept; kept_after = kept_now; stops = record { before = first; after = now } }) before.session before.replies
    → faults_now ≡ faults → lost_now ≡ lost
    → IsTurn before after (record { told = told_now; told_after = told_last; faults = faults_now; faults_after = faults_last })
    (record { told = kept_now; told_after = kept_last; faults = lost_now; faults_after = lost_last }) (record { before = now; after = last }) (Some end)
    → EndedSo end (record { told = told; told_after = told_last; faults = faults; faults_after = faults_last })
    (record { told = kept; told_after = kept_last; faults = lost; faults_after = lost_last }) (record { before = first; after = last }) after.replies
ended_so Over before after told told_now told_last kept kept_now kept_last faults faults_now faults_last lost lost_now lost_last first now last come same_faults same_lost (inl (over, idle)) = record {
  place = place_of before.lines told_now;
  session = before.session;
  has_come = come_still _ before.session before.replies after.replies kept_last last come idle.unwritten.told idle.unused idle.replies;
  over = inl over;
}
ended_so Over before after told told_now told_last kept kept_now kept_last faults faults_now faults_last lost lost_now lost_last first now last come same_faults same_lost (inr served) =
    let s = served.is_served in
    let done = done_end s.act now last s.text [] s.told s.done in
    record {
      place = place_of before.lines told_now;
      session = before.session;
      has_come = come_still _ before.session before.replies after.replies kept_last last come
          (grew_none kept_now kept_last s.text done.0 s.grew) done.2 (served.replies ∙ append-nil before.replies);
      over = inr (record {
        line = served.line;
        next = place_of after.lines told_last;
        given = served.given;
        after = after.session;
        ends = subst (λ (a : ActView). IsAct before.session served.line a after.session) s.told s.is_act;
      });
    }
ended_so TooLong before after told told_now told_last kept kept_now kept_last faults faults_now faults_last lost lost_now lost_last first now last come same_faults same_lost (too_long, idle) = record {
  place = place_of before.lines told_now;
  session = before.session;
  has_come = come_still _ before.session before.replies after.replies kept_last last come idle.unwritten.told idle.unused idle.replies;
  too_long = too_long;
}
ended_so Read before after told told_now told_last kept kept_now kept_last faults faults_now faults_last lost lost_now lost_last first now last come same_faults same_lost (rose, idle) = record {
  place = place_of before.lines told_now;
  session = before.session;
  has_come = come_still _ before.session before.replies after.replies kept_last last come idle.unwritten.told idle.unused idle.replies;
  rose = subst (λ (n : ℕ). Rose n faults_last) same_faults rose;
}
ended_so Write before after told told_now told_last kept kept_now kept_last faults faults_now faults_last lost lost_now lost_last first now last come same_faults same_lost part = record {
  place = place_of before.lines told_now;
  session = before.session;
  kept = kept_now;
  signals = now;
  has_come = come_still _ before.session before.replies after.replies kept_now now come refl refl part.replies;
  line = part.line;
  next = place_of after.lines told_last;
  given = part.given;
  after = after.session;
  in_part = subst (λ (n : ℕ). IsServedInPart before.session part.line after.session (record { before = now; after = last })
      (record { told = kept_now; told_after = kept_last; faults = n; faults_after = lost_last })) same_lost part.in_part;
}
ended_so NoMemory before after told told_now told_last kept kept_now kept_last faults faults_now faults_last lost lost_now lost_last first now last come same_faults same_lost wanted = record {
  place = place_of before.lines told_now;
  session = before.session;
  signals = now;
  has_come = come_still _ before.session before.replies after.replies kept_last now come wanted.unwritten.told refl wanted.replies;
  stops_used = elim wanted.stops_used [
    | inl unused ↦ inl unused
    | inr (line, given, used) ↦ inr (record { line = line; next = place_of after.lines told_last; given = given; used = used })
  ];
}

-- the session goes on behind a turn
pub went_on : OneLineMore → (before after : TalkView) (told told_now told_last kept kept_now kept_last : Option (List ℕ))
    → (faults_now faults_last lost_now lost_last : ℕ) (first now last : List Signal)
    → HasCome (record { told = told; place = place_of before.lines told_now; kept = kept; kept_after = kept_now; stops = record { before = first; after = now } }) before.session before.replies
    → IsTurn before after (record { told = told_now; told_after = told_last; faults = faults_now; faults_after = faults_last })
    (record { told = kept_now; told_after = kept_last; faults = lost_now; faults_after = lost_last }) (record { before = now; after = last }) None
    → HasCome (record { told = told; place = place_of after.lines told_last; kept = kept; kept_after = kept_last; stops = record { before = first; after = last } }) after.session after.replies
went_on more before after told told_now told_last kept kept_now kept_last faults_now faults_last lost_now lost_last first now last come (served, other, was) =
    subst (λ (r : List Reply). HasCome (record { told = told; place = place_of after.lines told_last; kept = kept; kept_after = kept_last; stops = record { before = first; after = last } }) after.session r)
    (sym was.replies)
    (come_more more (record { told = told; place = place_of before.lines told_now; kept = kept; kept_after = kept_now; stops = record { before = first; after = now } })
    before.session after.session before.replies (place_of after.lines told_last) was.line kept_last last lost_now lost_last served come was.given was.is_served other)

-- what the counts of faults tell at the end, where none had risen before
pub counted_so : (end : TalkEnd) (told told_now told_last kept kept_now kept_last : Option (List ℕ)) (faults faults_now faults_last lost lost_now lost_last : ℕ)
    → faults_now ≡ faults → lost_now ≡ lost
    → IsTurnCounted (record { told = told_now; told_after = told_last; faults = faults_now; faults_after = faults_last })
    (record { told = kept_now; told_after = kept_last; faults = lost_now; faults_after = lost_last }) (Some end)
    → IsTalkCounted (record { told = told; told_after = told_last; faults = faults; faults_after = faults_last })
    (record { told = kept; told_after = kept_last; faults = lost; faults_after = lost_last }) end
counted_so Over told told_now told_last kept kept_now kept_last faults faults_now faults_last lost lost_now lost_last read written (source, sink) = (source ∙ read, sink ∙ written)
counted_so TooLong told told_now told_last kept kept_now kept_last faults faults_now faults_last lost lost_now lost_last read written (source, sink) = (source ∙ read, sink ∙ written)
counted_so Read told told_now told_last kept kept_now kept_last faults faults_now faults_last lost lost_now lost_last read written sink = sink ∙ written
counted_so Write told told_now told_last kept kept_now kept_last faults faults_now faults_last lost lost_now lost_last read written source = source ∙ read
counted_so NoMemory told told_now told_last kept kept_now kept_last faults faults_now faults_last lost lost_now lost_last read written (source, sink) = (source ∙ read, sink ∙ written)
