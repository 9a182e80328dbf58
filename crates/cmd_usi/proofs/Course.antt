-- How far a session has come.
use Rattle.std.proofs.Common.{◌≡◌, List, [], ◌∷◌, ◌++◌, ℕ, Option, refl, sym, subst}
use Rattle.std.specs.Prelude.{◌≢◌}
use Rattle.search_gate.specs.Stop.{Signal}
use Rattle.tsume_io.specs.Sink.{GrewBy}
use Rattle.tsume_io.proofs.Offered.{GrewBy-nil, GrewBy-append}
use Rattle.input_lines.specs.Lines.{Place, IsLineGiven, first_lines, place_of}
use Rattle.input_lines.proofs.Offered.{line_more, at_beginning}
use Rattle.usi_session.specs.Sessions.{SessionView, ActView, Ends, first_session}
use Rattle.usi_session.specs.Laws.{GoesOn, OneLineMore}
use Rattle.usi_serve.specs.Served.{AreDone, IsServed, TellsEnd, replies_of}
use Rattle.usi_serve.specs.declared.reply.Reply.{Reply}
use Rattle.usi_serve.specs.declared.serving.Served.{Served}
use Rattle.usi_serve.specs.declared.serving.Served.TheVariants.{Next, Replied, Quit}
use Rattle.usi_serve.proofs.Offered.{act_more}
use Rattle.cmd_usi.specs.Talk.{Course, HasCome}

-- before the first line
pub at_start : (told kept : Option (List ℕ)) (signals : List Signal)
    → HasCome (record { told = told; place = place_of first_lines told; kept = kept; kept_after = kept; stops = record { before = signals; after = signals } }) first_session []
at_start told kept signals = record {
  lines = [];
  given = at_beginning told;
  acts = [];
  does = (refl, refl);
  goes_on = tt;
  text = [];
  done = (refl, refl, refl);
  grew = GrewBy-nil kept;
}

-- one act more that doesn't end the session
goes_on_more : (acts : List ActView) (act : ActView) → GoesOn acts → act ≢ Ends → GoesOn (acts ++ act ∷ [])
goes_on_more [] act all other = (other, tt)
goes_on_more (first ∷ acts) act (one, all) other = (one, goes_on_more acts act all other)

-- what came of a line that doesn't end the session
not_ended : (act : ActView) (served : Served) → served ≢ Quit → TellsEnd act served → act ≢ Ends
not_ended act Next other told = told
not_ended act (Replied reply) other told = told
not_ended act Quit other told = absurd (other refl)

-- one line more was served
pub come_more : OneLineMore → (course : Course) (session after : SessionView) (replies : List Reply) (next : Place) (line : List ℕ) (kept : Option (List ℕ)) (signals : List Signal) (faults faults_after : ℕ) (served : Served)
    → HasCome course session replies → IsLineGiven course.place next line
    → IsServed session line after (record { before = course.stops.after; after = signals }) (record { told = course.kept_after; told_after = kept; faults = faults; faults_after = faults_after }) served
    → served ≢ Quit
    → HasCome (record { told = course.told; place = next; kept = course.kept; kept_after = kept; stops = record { before = course.stops.before; after = signals } }) after (replies ++ replies_of served)
come_more more course session after replies next line kept signals faults faults_after served come given is other = record {
  lines = come.lines ++ line ∷ [];
  given = line_more _ course.place next come.lines line come.given given;
  acts = come.acts ++ is.act ∷ [];
  does = more first_session session after come.lines line come.acts is.act come.does come.goes_on is.is_act;
  goes_on = goes_on_more come.acts is.act come.goes_on (not_ended is.act served other is.told);
  text = come.text ++ is.text;
  done = act_more come.acts is.act course.stops.before course.stops.after signals come.text is.text replies (replies_of served) come.done is.done;
  grew = GrewBy-append course.kept course.kept_after kept come.text is.text come.grew is.grew;
}

-- nothing more was done
pub come_still : (course : Course) (session : SessionView) (replies others : List Reply) (kept : Option (List ℕ)) (signals : List Signal)
    → HasCome course session replies → kept ≡ course.kept_after → signals ≡ course.stops.after → others ≡ replies
    → HasCome (record { told = course.told; place = course.place; kept = course.kept; kept_after = kept; stops = record { before = course.stops.before; after = signals } }) session others
come_still course session replies others kept signals come same_kept same_signals same_replies = record {
  lines = come.lines;
  given = come.given;
  acts = come.acts;
  does = come.does;
  goes_on = come.goes_on;
  text = come.text;
  done = subst (λ (s : List Signal). AreDone come.acts course.stops.before come.text others s) (sym same_signals)
      (subst (λ (r : List Reply). AreDone come.acts course.stops.before come.text r course.stops.after) (sym same_replies) come.done);
  grew = subst (λ (k : Option (List ℕ)). GrewBy course.kept k come.text) (sym same_kept) come.grew;
}
