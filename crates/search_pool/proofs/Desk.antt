-- What a step does to the desk.
use Rattle.std.proofs.Common.{◌≡◌, ◌⊎◌, inl, inr, List, [], ◌∷◌, ◌++◌, arith, refl, sym, ap, ◌∙◌, subst, Bool, true, false}
use Rattle.std.specs.Prelude.{Option, Some, None, IsSome}
use Rattle.std.proofs.lemmas.List.Elements.{Contains-push_cases}
use Rattle.std.proofs.lemmas.Bool.{false≢true}
use Rattle.board_core.specs.declared.keys.Key.{Key}
use Rattle.notes.specs.declared.words.Draw.TheVariants.{Go, Done, Spent as AllDrawn}
use Rattle.notes.specs.declared.words.RoomAnswer.TheVariants.{Room, NoRoom as Full}
use Rattle.visit_log.specs.declared.words.Request.{Request}
use Rattle.visit_log.specs.declared.words.Request.TheVariants.{Poll, Draw as Draws, Claim as Claims, Look, Enter, Leave, Post, End}
use Rattle.visit_log.specs.declared.words.Reply.{Reply}
use Rattle.visit_log.specs.declared.words.Reply.TheVariants.{Poll as Polled, Draw as Drew, Claim as Claimed, Look as Looked, Enter as Entered, Leave as LeftIt, Post as PostedIt}
use Rattle.visit_log.specs.Visit.{Exchange}
use Rattle.notes.specs.Derivation.{Derivation}
use Rattle.unit_desk.specs.Desk.{DeskView, first_posted}
use Rattle.unit_desk.proofs.Offered.{first_is}
use Rattle.lone_port.specs.Lone.{LonePortView, Turns, opened}
use Rattle.search_pool.specs.Inside.{says_spent, says_full, says_posted, WasSaid, IsToldDesk}

-- What a step does to a desk: its limits stay; what was used up stays so, and what is posted; and
-- what the answer says is so.
pub record DeskMoves (before : DeskView) (says : Exchange) (after : DeskView) : Type 0 where
  pub expansions : after.expansions ≡ before.expansions
  pub room : after.room ≡ before.room
  pub spent : (before.drawn ≡ before.expansions) ⊎ (says_spent says ≡ true) → after.drawn ≡ after.expansions
  pub full : (before.claimed ≡ before.room) ⊎ (says_full says ≡ true) → after.claimed ≡ after.room
  pub posted : IsSome before.posted ⊎ (says_posted says ≡ true) → IsSome after.posted
  pub is_said : IsSome after.posted → IsSome before.posted ⊎ (says_posted says ≡ true)
  pub still : IsSome before.posted → after.posted ≡ before.posted

-- Nothing happens to the desk, and nothing of it is said.
stays : (d : DeskView) (says : Exchange) → says_spent says ≡ false → says_full says ≡ false → says_posted says ≡ false → DeskMoves d says d
stays d says one two three = record {
  expansions = refl;
  room = refl;
  spent = λ h. elim h as (λ _. d.drawn ≡ d.expansions) [ inl e ↦ e | inr e ↦ absurd (false≢true (sym one ∙ e)) ];
  full = λ h. elim h as (λ _. d.claimed ≡ d.room) [ inl e ↦ e | inr e ↦ absurd (false≢true (sym two ∙ e)) ];
  posted = λ h. elim h as (λ _. IsSome d.posted) [ inl e ↦ e | inr e ↦ absurd (false≢true (sym three ∙ e)) ];
  is_said = λ k. inl k;
  still = λ k. refl;
}

stays_at : (before after : LonePortView) (says : Exchange) → after.desk ≡ before.desk → says_spent says ≡ false → says_full says ≡ false → says_posted says ≡ false
    → DeskMoves before.desk says after.desk
stays_at before after says e one two three = subst (λ (d : DeskView). DeskMoves before.desk says d) (sym e) (stays before.desk says one two three)

first_stays : (posted : Option Derivation) (note : Derivation) → IsSome posted → first_posted posted note ≡ posted
first_stays None note some = absurd (cc)
first_stays (Some first) note some = refl

moves : (before : LonePortView) (path : List Key) (q : Request) (a : Option Reply) (after : LonePortView) → Turns before path q a after → DeskMoves before.desk (q, a) after.desk
moves before path Poll None after h = absurd h
moves before path Poll (Some (Polled stop)) after h = stays_at before after (Poll, Some (Polled stop)) (ap (λ (p : LonePortView). p.desk) h.1) refl refl refl
moves before path Poll (Some (Drew (Go number))) after h = absurd h
moves before path Poll (Some (Drew Done)) after h = absurd h
moves before path Poll (Some (Drew AllDrawn)) after h = absurd h
moves before path Poll (Some (Claimed (Room room))) after h = absurd h
moves before path Poll (Some (Claimed Full)) after h = absurd h
moves before path Poll (Some (Looked seen)) after h = absurd h
moves before path Poll (Some (Entered kept_in)) after h = absurd h
moves before path Poll (Some LeftIt) after h = absurd h
moves before path Poll (Some PostedIt) after h = absurd h
moves before path Draws None after h = absurd h
moves before path Draws (Some (Polled stop)) after h = absurd h
moves before path Draws (Some (Drew (Go number))) after h =
    subst (λ (d : DeskView). DeskMoves before.desk (Draws, Some (Drew (Go number))) d) (sym h.0.3)
    (record {
      expansions = refl;
      room = refl;
      spent = λ k. elim k as (λ _. number ≡ before.desk.expansions) [ inl e ↦ absurd (let low = h.0.1 in omega (arith, low, e)) | inr e ↦ absurd (false≢true e) ];
      full = λ k. elim k as (λ _. before.desk.claimed ≡ before.desk.room) [ inl e ↦ e | inr e ↦ absurd (false≢true e) ];
      posted = λ k. elim k as (λ _. IsSome before.desk.posted) [ inl e ↦ e | inr e ↦ absurd (false≢true e) ];
      is_said = λ k. inl k;
      still = λ k. refl;
    })
moves before path Draws (Some (Drew Done)) after h =
    subst (λ (d : DeskView). DeskMoves before.desk (Draws, Some (Drew Done)) d) (sym h.0.1)
    (record {
      expansions = refl;
      room = refl;
      spent = λ k. elim k as (λ _. before.desk.drawn ≡ before.desk.expansions) [ inl e ↦ e | inr e ↦ absurd (false≢true e) ];
      full = λ k. elim k as (λ _. before.desk.claimed ≡ before.desk.room) [ inl e ↦ e | inr e ↦ absurd (false≢true e) ];
      posted = λ k. h.0.0;
      is_said = λ k. inl k;
      still = λ k. refl;
    })
moves before path Draws (Some (Drew AllDrawn)) after h =
    subst (λ (d : DeskView). DeskMoves before.desk (Draws, Some (Drew AllDrawn)) d) (sym h.0.2)
    (record {
      expansions = refl;
      room = refl;
      spent = λ k. h.0.1;
      full = λ k. elim k as (λ _. before.desk.claimed ≡ before.desk.room) [ inl e ↦ e | inr e ↦ absurd (false≢true e) ];
      posted = λ k. elim k as (λ _. IsSome before.desk.posted) [ inl e ↦ e | inr e ↦ absurd (false≢true e) ];
      is_said = λ k. inl k;
      still = λ k. refl;
    })
moves before path Draws (Some (Claimed (Room room))) after h = absurd h
moves before path Draws (Some (Claimed Full)) after h = absurd h
moves before path Draws (Some (Looked seen)) after h = absurd h
moves before path Draws (Some (Entered kept_in)) after h = absurd h
moves before path Draws (Some LeftIt) after h = absurd h
moves before path Draws (Some PostedIt) after h = absurd h
moves before path Claims None after h = absurd h
moves before path Claims (Some (Polled stop)) after h = absurd h
moves before path Claims (Some (Drew (Go number))) after h = absurd h
moves before path Claims (Some (Drew Done)) after h = absurd h
moves before path Claims (Some (Drew AllDrawn)) after h = absurd h
moves before path Claims (Some (Claimed (Room room))) after h =
    subst (λ (d : DeskView). DeskMoves before.desk (Claims, Some (Claimed (Room room))) d) (sym h.0.2)
    (record {
      expansions = refl;
      room = refl;
      spent = λ k. elim k as (λ _. before.desk.drawn ≡ before.desk.expansions) [ inl e ↦ e | inr e ↦ absurd (false≢true e) ];
      full = λ k. elim k as (λ _. room ≡ before.desk.room) [ inl e ↦ absurd (let low = h.0.0 in omega (arith, low, e)) | inr e ↦ absurd (false≢true e) ];
      posted = λ k. elim k as (λ _. IsSome before.desk.posted) [ inl e ↦ e | inr e ↦ absurd (false≢true e) ];
      is_said = λ k. inl k;
      still = λ k. refl;
    })
moves before path Claims (Some (Claimed Full)) after h =
    subst (λ (d : DeskView). DeskMoves before.desk (Claims, Some (Claimed Full)) d) (sym h.0.1)
    (record {
      expansions = refl;
      room = refl;
      spent = λ k. elim k as (λ _. before.desk.drawn ≡ before.desk.expansions) [ inl e ↦ e | inr e ↦ absurd (false≢true e) ];
      full = λ k. h.0.0;
      posted = λ k. elim k as (λ _. IsSome before.desk.posted) [ inl e ↦ e | inr e ↦ absurd (false≢true e) ];
      is_said = λ k. inl k;
      still = λ k. refl;
    })
moves before path Claims (Some (Looked seen)) after h = absurd h
moves before path Claims (Some (Entered kept_in)) after h = absurd h
moves before path Claims (Some LeftIt) after h = absurd h
moves before path Claims (Some PostedIt) after h = absurd h
moves before path (Look key) None after h = stays_at before after ((Look key), None) (ap (λ (p : LonePortView). p.desk) h) refl refl refl
moves before path (Look key) (Some (Polled stop)) after h = absurd h
moves before path (Look key) (Some (Drew (Go number))) after h = absurd h
moves before path (Look key) (Some (Drew Done)) after h = absurd h
moves before path (Look key) (Some (Drew AllDrawn)) after h = absurd h
moves before path (Look key) (Some (Claimed (Room room))) after h = absurd h
moves before path (Look key) (Some (Claimed Full)) after h = absurd h
moves before path (Look key) (Some (Looked seen)) after h = stays_at before after ((Look key), Some (Looked seen)) (ap (λ (p : LonePortView). p.desk) h.1) refl refl refl
moves before path (Look key) (Some (Entered kept_in)) after h = absurd h
moves before path (Look key) (Some LeftIt) after h = absurd h
moves before path (Look key) (Some PostedIt) after h = absurd h
moves before path (Enter key numbers) None after h = absurd h
moves before path (Enter key numbers) (Some (Polled stop)) after h = absurd h
moves before path (Enter key numbers) (Some (Drew (Go number))) after h = absurd h
moves before path (Enter key numbers) (Some (Drew Done)) after h = absurd h
moves before path (Enter key numbers) (Some (Drew AllDrawn)) after h = absurd h
moves before path (Enter key numbers) (Some (Claimed (Room room))) after h = absurd h
moves before path (Enter key numbers) (Some (Claimed Full)) after h = absurd h
moves before path (Enter key numbers) (Some (Looked seen)) after h = absurd h
moves before path (Enter key numbers) (Some (Entered kept_in)) after h = stays_at before after ((Enter key numbers), Some (Entered kept_in)) (ap (λ (p : LonePortView). p.desk) h.1) refl refl refl
moves before path (Enter key numbers) (Some LeftIt) after h = absurd h
moves before path (Enter key numbers) (Some PostedIt) after h = absurd h
moves before path (Leave kept key update) None after h = absurd h
moves before path (Leave kept key update) (Some (Polled stop)) after h = absurd h
moves before path (Leave kept key update) (Some (Drew (Go number))) after h = absurd h
moves before path (Leave kept key update) (Some (Drew Done)) after h = absurd h
moves before path (Leave kept key update) (Some (Drew AllDrawn)) after h = absurd h
moves before path (Leave kept key update) (Some (Claimed (Room room))) after h = absurd h
moves before path (Leave kept key update) (Some (Claimed Full)) after h = absurd h
moves before path (Leave kept key update) (Some (Looked seen)) after h = absurd h
moves before path (Leave kept key update) (Some (Entered kept_in)) after h = absurd h
moves before path (Leave kept key update) (Some LeftIt) after h = stays_at before after ((Leave kept key update), Some LeftIt) (ap (λ (p : LonePortView). p.desk) h.1) refl refl refl
moves before path (Leave kept key update) (Some PostedIt) after h = absurd h
moves before path (Post note) None after h = absurd h
moves before path (Post note) (Some (Polled stop)) after h = absurd h
moves before path (Post note) (Some (Drew (Go number))) after h = absurd h
moves before path (Post note) (Some (Drew Done)) after h = absurd h
moves before path (Post note) (Some (Drew AllDrawn)) after h = absurd h
moves before path (Post note) (Some (Claimed (Room room))) after h = absurd h
moves before path (Post note) (Some (Claimed Full)) after h = absurd h
moves before path (Post note) (Some (Looked seen)) after h = absurd h
moves before path (Post note) (Some (Entered kept_in)) after h = absurd h
moves before path (Post note) (Some LeftIt) after h = absurd h
moves before path (Post note) (Some PostedIt) after h =
    subst (λ (d : DeskView). DeskMoves before.desk ((Post note), Some PostedIt) d) (sym (ap (λ (p : LonePortView). p.desk) h))
    (record {
      expansions = refl;
      room = refl;
      spent = λ k. elim k as (λ _. before.desk.drawn ≡ before.desk.expansions) [ inl e ↦ e | inr e ↦ absurd (false≢true e) ];
      full = λ k. elim k as (λ _. before.desk.claimed ≡ before.desk.room) [ inl e ↦ e | inr e ↦ absurd (false≢true e) ];
      posted = λ k. first_is before.desk.posted note;
      is_said = λ k. inr refl;
      still = first_stays before.desk.posted note;
    })
moves before path (End end) None after h = absurd h
moves before path (End end) (Some (Polled stop)) after h = absurd h
moves before path (End end) (Some (Drew (Go number))) after h = absurd h
moves before path (End end) (Some (Drew Done)) after h = absurd h
moves before path (End end) (Some (Drew AllDrawn)) after h = absurd h
moves before path (End end) (Some (Claimed (Room room))) after h = absurd h
moves before path (End end) (Some (Claimed Full)) after h = absurd h
moves before path (End end) (Some (Looked seen)) after h = absurd h
moves before path (End end) (Some (Entered kept_in)) after h = absurd h
moves before path (End end) (Some LeftIt) after h = absurd h
moves before path (End end) (Some PostedIt) after h = absurd h

-- So what was said of the desk holds behind another step.
pub told_on : (log : List Exchange) (x : Exchange) (before after : LonePortView) (stops : Bool) (path : List Key) → IsToldDesk log before.desk
    → Turns (opened before stops) path x.0 x.1 after → IsToldDesk (log ++ x ∷ []) after.desk
told_on log x before after stops path told turns =
    let m = moves (opened before stops) path x.0 x.1 after turns in
    record {
      spent = λ w. m.spent (by_log says_spent log x w (before.desk.drawn ≡ before.desk.expansions) told.spent);
      full = λ w. m.full (by_log says_full log x w (before.desk.claimed ≡ before.desk.room) told.full);
      posted = λ w. m.posted (by_log says_posted log x w (IsSome before.desk.posted) told.posted);
    }
  where
    by_log : (says : Exchange → Bool) (log : List Exchange) (x : Exchange) → WasSaid says (log ++ x ∷ []) → (P : Type 0) → (WasSaid says log → P) → P ⊎ (says x ≡ true)
    by_log says log x w P f =
        elim (Contains-push_cases log x w.0 w.1) as (λ _. P ⊎ (says x ≡ true)) [
          | inl there ↦ inl (f (w.0, there, w.2))
          | inr e ↦ inr (ap says e ∙ w.2)
        ]

-- Its limits stay.
pub limits_stay : (x : Exchange) (before after : LonePortView) (stops : Bool) (path : List Key) → Turns (opened before stops) path x.0 x.1 after
    → (after.desk.expansions ≡ before.desk.expansions) × (after.desk.room ≡ before.desk.room)
limits_stay x before after stops path turns = let m = moves (opened before stops) path x.0 x.1 after turns in (m.expansions, m.room)

-- A note that is posted behind a step was posted before, or the step says so.
pub posted_by : (x : Exchange) (before after : LonePortView) (stops : Bool) (path : List Key) → Turns (opened before stops) path x.0 x.1 after
    → IsSome after.desk.posted → IsSome before.desk.posted ⊎ (says_posted x ≡ true)
posted_by x before after stops path turns = (moves (opened before stops) path x.0 x.1 after turns).is_said

-- A note that was posted before a step is posted behind it.
pub posted_stays : (x : Exchange) (before after : LonePortView) (stops : Bool) (path : List Key) → Turns (opened before stops) path x.0 x.1 after
    → IsSome before.desk.posted → after.desk.posted ≡ before.desk.posted
posted_stays x before after stops path turns = (moves (opened before stops) path x.0 x.1 after turns).still
