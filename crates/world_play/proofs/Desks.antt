-- What a step does to the desk, and what a worker's log was told of it.
use Rattle.std.proofs.Common.{◌≡◌, inl, inr, List, [], ◌∷◌, ◌++◌, arith, refl, sym, ap, subst}
use Rattle.std.specs.Prelude.{Option, Some, None, IsSome}
use Rattle.std.proofs.lemmas.List.Elements.{Contains-push_cases}
use Rattle.board_core.specs.declared.keys.Key.{Key}
use Rattle.notes.specs.declared.words.Draw.TheVariants.{Go, Done, Spent as AllDrawn}
use Rattle.notes.specs.declared.words.RoomAnswer.TheVariants.{Room, NoRoom as Full}
use Rattle.visit_log.specs.declared.words.WorkEnd.{WorkEnd}
use Rattle.visit_log.specs.declared.words.WorkEnd.TheVariants.{Posted, Spent, NoRoom, TooHigh, NoMemory, Stopped}
use Rattle.visit_log.specs.declared.words.Request.{Request}
use Rattle.visit_log.specs.declared.words.Request.TheVariants.{Poll, Draw as Draws, Claim as Claims, Look, Enter, Leave, Post}
use Rattle.visit_log.specs.declared.words.Reply.{Reply}
use Rattle.visit_log.specs.declared.words.Reply.TheVariants.{Poll as Polled, Draw as Drew, Claim as Claimed, Look as Looked, Enter as Entered, Leave as LeftIt, Post as PostedIt}
use Rattle.visit_log.specs.Visit.{Exchange, drew, claimed}
use Rattle.visit_log.specs.Frame.{Task}
use Rattle.visit_log.specs.Laws.{HasCause}
use Rattle.unit_desk.specs.Desk.{DeskView}
use Rattle.unit_desk.proofs.Offered.{first_is}
use Rattle.lone_port.specs.Lone.{LonePortView, Turns}
use Rattle.world_play.specs.Fair.{IsToldOf}

-- Its problem and its limits stay; what was used up stays so, and what is posted.
pub record KeepsDesk (before after : DeskView) : Type 0 where
  pub position : after.position ≡ before.position
  pub expansions : after.expansions ≡ before.expansions
  pub room : after.room ≡ before.room
  pub spent : before.drawn ≡ before.expansions → after.drawn ≡ after.expansions
  pub full : before.claimed ≡ before.room → after.claimed ≡ after.room
  pub posted : IsSome before.posted → IsSome after.posted

pub desk_same : (d : DeskView) → KeepsDesk d d
desk_same d = record { position = refl; expansions = refl; room = refl; spent = λ e. e; full = λ e. e; posted = λ e. e }

same_at : (before after : DeskView) → after ≡ before → KeepsDesk before after
same_at before after e = subst (λ (d : DeskView). KeepsDesk before d) (sym e) (desk_same before)

-- A step of the table and the desk.
pub keeps : (before : LonePortView) (path : List Key) (q : Request) (a : Option Reply) (after : LonePortView) → Turns before path q a after → KeepsDesk before.desk after.desk
keeps before path Poll (Some (Polled stop)) after h = same_at before.desk after.desk (ap (λ (p : LonePortView). p.desk) h.1)
keeps before path Draws (Some (Drew (Go number))) after h =
    subst (λ (d : DeskView). KeepsDesk before.desk d) (sym h.0.3)
    (record {
      position = refl;
      expansions = refl;
      room = refl;
      spent = λ e. absurd (let low = h.0.1 in omega (arith, low, e));
      full = λ e. e;
      posted = λ e. e;
    })
keeps before path Draws (Some (Drew Done)) after h = same_at before.desk after.desk h.0.1
keeps before path Draws (Some (Drew AllDrawn)) after h = same_at before.desk after.desk h.0.2
keeps before path Claims (Some (Claimed (Room room))) after h =
    subst (λ (d : DeskView). KeepsDesk before.desk d) (sym h.0.2)
    (record {
      position = refl;
      expansions = refl;
      room = refl;
      spent = λ e. e;
      full = λ e. absurd (let low = h.0.0 in omega (arith, low, e));
      posted = λ e. e;
    })
keeps before path Claims (Some (Claimed Full)) after h = same_at before.desk after.desk h.0.1
keeps before path (Look key) None after h = same_at before.desk after.desk (ap (λ (p : LonePortView). p.desk) h)
keeps before path (Look key) (Some (Looked seen)) after h = same_at before.desk after.desk (ap (λ (p : LonePortView). p.desk) h.1)
keeps before path (Enter key numbers) (Some (Entered kept_in)) after h = same_at before.desk after.desk (ap (λ (p : LonePortView). p.desk) h.1)
keeps before path (Leave kept key update) (Some LeftIt) after h = same_at before.desk after.desk (ap (λ (p : LonePortView). p.desk) h.1)
keeps before path (Post note) (Some PostedIt) after h =
    subst (λ (d : DeskView). KeepsDesk before.desk d) (sym (ap (λ (p : LonePortView). p.desk) h))
    (record {
      position = refl;
      expansions = refl;
      room = refl;
      spent = λ e. e;
      full = λ e. e;
      posted = λ e. first_is before.desk.posted note;
    })
keeps before path q a after h = absurd h

-- What was told holds still.
pub told_still : (before after : DeskView) → KeepsDesk before after → (end : WorkEnd) → IsToldOf before end → IsToldOf after end
told_still before after k Posted t = k.posted t
told_still before after k Spent t = k.spent t
told_still before after k NoRoom t = k.full t
told_still before after k TooHigh t = tt
told_still before after k NoMemory t = tt
told_still before after k Stopped t = tt

abbrev TurnsBy : LonePortView → List Key → LonePortView → Exchange → Type 0
TurnsBy before path after x = Turns before path x.0 x.1 after

-- What an answer says of the desk is so.
pub told_on : (before : LonePortView) (path : List Key) (x : Exchange) (after : LonePortView) (task : Task) (log : List Exchange) → Turns before path x.0 x.1 after
    → ((end : WorkEnd) → HasCause task end log → IsToldOf before.desk end) → (end : WorkEnd) → HasCause task end (log ++ x ∷ []) → IsToldOf after.desk end
told_on before path x after task log turns told Posted (inl (note, there)) =
    elim (Contains-push_cases log x (Post note, Some PostedIt) there) as (λ _. IsSome after.desk.posted) [
      | inl old ↦ (keeps before path x.0 x.1 after turns).posted (told Posted (inl (note, old)))
      | inr e ↦ (let h : Turns before path (Post note) (Some PostedIt) after = subst (TurnsBy before path after) e turns in
          subst (λ (d : DeskView). IsSome d.posted) (sym (ap (λ (p : LonePortView). p.desk) h)) (first_is before.desk.posted note))
    ]
told_on before path x after task log turns told Posted (inr there) =
    elim (Contains-push_cases log x (drew Done) there) as (λ _. IsSome after.desk.posted) [
      | inl old ↦ (keeps before path x.0 x.1 after turns).posted (told Posted (inr old))
      | inr e ↦ (let h : Turns before path Draws (Some (Drew Done)) after = subst (TurnsBy before path after) e turns in
          subst (λ (d : DeskView). IsSome d.posted) (sym h.0.1) h.0.0)
    ]
told_on before path x after task log turns told Spent there =
    elim (Contains-push_cases log x (drew AllDrawn) there) as (λ _. after.desk.drawn ≡ after.desk.expansions) [
      | inl old ↦ (keeps before path x.0 x.1 after turns).spent (told Spent old)
      | inr e ↦ (let h : Turns before path Draws (Some (Drew AllDrawn)) after = subst (TurnsBy before path after) e turns in
          subst (λ (d : DeskView). d.drawn ≡ d.expansions) (sym h.0.2) h.0.1)
    ]
told_on before path x after task log turns told NoRoom there =
    elim (Contains-push_cases log x (claimed Full) there) as (λ _. after.desk.claimed ≡ after.desk.room) [
      | inl old ↦ (keeps before path x.0 x.1 after turns).full (told NoRoom old)
      | inr e ↦ (let h : Turns before path Claims (Some (Claimed Full)) after = subst (TurnsBy before path after) e turns in
          subst (λ (d : DeskView). d.claimed ≡ d.room) (sym h.0.1) h.0.0)
    ]
told_on before path x after task log turns told TooHigh there = tt
told_on before path x after task log turns told NoMemory there = tt
told_on before path x after task log turns told Stopped there = tt
