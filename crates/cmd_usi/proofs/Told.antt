-- What replies show, and which inputs are served to their end.
use Rattle.std.proofs.Common.{◌≡◌, ◌⊎◌, ◌+◌, List, [], ◌∷◌, ◌++◌, ℕ, Option, None, Some, refl, sym, ◌∙◌, ap, arith, length, length-append, append_assoc, subst, inl, inr}
use Rattle.std.specs.Prelude.{◌≢◌, All}
use Rattle.std.proofs.lemmas.List.Elements.{All-append, All-cons, All-nil}
use Rattle.board_core.specs.Board.{Board}
use Rattle.search_gate.specs.Stop.{Signal}
use Rattle.search_limits.specs.Sizes.{SettingsView}
use Rattle.tsume_io.specs.Faults.{Rose}
use Rattle.tsume_io.specs.Source.{Took}
use Rattle.app_texts.specs.declared.answer.Solution.{Solution}
use Rattle.app_texts.specs.declared.answer.Solution.TheVariants.{Mate, NoMate, Unknown}
use Rattle.one_run.specs.Outside.{Shown}
use Rattle.one_run.specs.Stops.{Signals}
use Rattle.cmd_solve.specs.Answer.{IsTrueOf}
use Rattle.input_lines.specs.Lines.{HasNoFeed, Place, AreLinesGiven, IsTooLong, beginning}
use Rattle.usi_session.specs.Sessions.{ActView, Says, Solves, Ends, DoesNothing}
use Rattle.usi_serve.specs.Reply.{IsReplyTo}
use Rattle.usi_serve.specs.Served.{IsDone, AreDone}
use Rattle.usi_serve.specs.declared.reply.Reply.{Reply}
use Rattle.cmd_usi.specs.Talk.{EndedSo, IsFitInput, Shows, ShowsOf}
use Rattle.cmd_usi.specs.declared.talked.TalkEnd.{TalkEnd}
use Rattle.cmd_usi.specs.declared.talked.TalkEnd.TheVariants.{Over, TooLong, Read, Write, NoMemory}

-- 1. WHAT REPLIES SHOW.

shows_of : (p : Board) (s : SettingsView) (stops : Signals) (solution : Solution) → IsTrueOf p s stops solution → ShowsOf p solution
shows_of p s stops (Mate c moves) is = is.verdict.shown.1
shows_of p s stops (NoMate c) is = is.verdict.shown.1
shows_of p s stops (Unknown cause crew) is = tt

reply_shows : (p : Board) (s : SettingsView) (millis : Option ℕ) (stops : Signals) (reply : Reply) → IsReplyTo p s millis stops reply → Shows reply
reply_shows p s millis stops reply is = subst (λ (q : Board). ShowsOf q reply.solution) (sym is.problem) (shows_of p s _ reply.solution is.true_of)

none_shows : (replies : List Reply) → replies ≡ [] → All Shows replies
none_shows replies none = subst (All Shows) (sym none) (All-nil Shows)

act_shows : (act : ActView) (stops : Signals) (text : List ℕ) (replies : List Reply) → IsDone act stops text replies → All Shows replies
act_shows (Says said) stops text replies done = none_shows replies done.1
act_shows (Solves problem settings millis) stops text replies (reply, is_one, is_text, is) =
    subst (All Shows) (sym is_one) (All-cons Shows reply [] (reply_shows problem settings millis stops reply is) (All-nil Shows))
act_shows Ends stops text replies done = none_shows replies done.1
act_shows DoesNothing stops text replies done = none_shows replies done.1

pub acts_show : (acts : List ActView) (before : List Signal) (text : List ℕ) (replies : List Reply) (after : List Signal) → AreDone acts before text replies after → All Shows replies
acts_show [] before text replies after done = none_shows replies done.1
acts_show (act ∷ acts) before text replies after (said, others, own, rest, between, is_text, is_replies, one, more) =
    subst (All Shows) (sym is_replies) (All-append Shows own rest (act_shows act _ said own one) (acts_show acts between others rest after more))

-- the replies of a session, however it ended
pub replies_show : (end : TalkEnd) (source sink : Shown) (stops : Signals) (replies : List Reply) → EndedSo end source sink stops replies → All Shows replies
replies_show Over source sink stops replies ended = acts_show _ _ _ replies _ ended.has_come.done
replies_show TooLong source sink stops replies ended = acts_show _ _ _ replies _ ended.has_come.done
replies_show Read source sink stops replies ended = acts_show _ _ _ replies _ ended.has_come.done
replies_show Write source sink stops replies ended = acts_show _ _ _ replies _ ended.has_come.done
replies_show NoMemory source sink stops replies ended = acts_show _ _ _ replies _ ended.has_come.done

-- 2. WHICH INPUTS ARE SERVED TO THEIR END.

-- what is to come behind bytes that were taken
taken_from : (input : List ℕ) (after : Option (List ℕ)) (bytes : List ℕ) → Took (Some input) after bytes → (rest : List ℕ) × (after ≡ Some rest) × (input ≡ bytes ++ rest)
taken_from input None bytes took = absurd took
taken_from input (Some rest) bytes took = (rest, refl, took)

-- what is to come behind lines, and how many bytes were given
pub record Behind (given : ℕ) (input : List ℕ) (place : Place) : Type 0 where
  pub front : List ℕ
  pub rest : List ℕ
  pub parted : input ≡ front ++ rest
  pub to_come : place.to_come ≡ Some rest
  pub counted : place.given ≡ given + length front

behind : (before after : Place) (lines : List (List ℕ)) (input : List ℕ) → before.to_come ≡ Some input → AreLinesGiven before lines after → Behind before.given input after
behind before after [] input is same = record {
  front = [];
  rest = input;
  parted = refl;
  to_come = ap (λ (p : Place). p.to_come) same ∙ is;
  counted = omega (arith, ap (λ (p : Place). p.given) same);
}
behind before after (line ∷ lines) input is (between, given, more) =
    let next = taken_from input between.to_come given.bytes (subst (λ (o : Option (List ℕ)). Took o between.to_come given.bytes) is given.gave.took) in
    let others = behind between after lines next.0 next.1 more in
    record {
      front = given.bytes ++ others.front;
      rest = others.rest;
      parted = next.2 ∙ ap (λ l. given.bytes ++ l) others.parted ∙ sym (append_assoc given.bytes others.front others.rest);
      to_come = others.to_come;
      counted = omega (arith, others.counted, given.gave.counted, length-append given.bytes others.front);
    }

-- one byte more that is no line feed
no_feed_more : (line : List ℕ) (byte : ℕ) → HasNoFeed line → byte ≢ 10 → HasNoFeed (line ++ byte ∷ [])
no_feed_more [] byte all other = (other, tt)
no_feed_more (first ∷ line) byte (one, all) other = (one, no_feed_more line byte all other)

-- an input that isn't too long has no line that is
pub not_too_long : (told : Option (List ℕ)) (lines : List (List ℕ)) (place : Place) → IsFitInput told → AreLinesGiven (beginning told) lines place → ¬ IsTooLong place
not_too_long told lines place fit given long =
    let b = behind (beginning told) place lines fit.input fit.is_told given in
    let one = taken_from b.rest long.between.to_come long.line (subst (λ (o : Option (List ℕ)). Took o long.between.to_come long.line) b.to_come long.gave.took) in
    let two = taken_from one.0 long.more.after (long.more.byte ∷ []) (subst (λ (o : Option (List ℕ)). Took o long.more.after (long.more.byte ∷ [])) one.1 long.more.took) in
    let cut = long.line ++ long.more.byte ∷ [] in
    let parted : b.rest ≡ cut ++ two.0 = one.2 ∙ (ap (λ l. long.line ++ l) two.2 ∙ sym (append_assoc long.line (long.more.byte ∷ []) two.0)) in
    let all : fit.input ≡ b.front ++ cut ++ two.0 = b.parted ∙ (ap (λ l. b.front ++ l) parted ∙ sym (append_assoc b.front cut two.0)) in
    let line = length-append long.line (long.more.byte ∷ []) in
    let front = length-append b.front cut in
    let whole = length-append (b.front ++ cut) two.0 in
    elim long.full [
      | inl (full, other) ↦ let within = fit.lines b.front cut two.0 all (no_feed_more long.line long.more.byte long.no_feed other) in
          absurd (omega (arith, within, full, line))
      | inr full ↦ absurd (omega (arith, fit.within, full, b.counted, long.gave.counted, line, front, whole, ap length all))
    ]

-- a session ends, over an input that isn't too long, where the outside didn't fail
pub ends_well : (end : TalkEnd) (source sink : Shown) (stops : Signals) (replies : List Reply) → EndedSo end source sink stops replies
    → IsFitInput source.told → ¬ Rose source.faults source.faults_after → ¬ Rose sink.faults sink.faults_after → (end ≡ Over) ⊎ (end ≡ NoMemory)
ends_well Over source sink stops replies ended fit read written = inl refl
ends_well TooLong source sink stops replies ended fit read written =
    absurd (not_too_long source.told ended.has_come.lines ended.place fit ended.has_come.given ended.too_long)
ends_well Read source sink stops replies ended fit read written = absurd (read ended.rose)
ends_well Write source sink stops replies ended fit read written = absurd (written ended.in_part.rose)
ends_well NoMemory source sink stops replies ended fit read written = inr refl
