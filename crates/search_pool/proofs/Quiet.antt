-- A worker is told at a poll what the stop said.
use Rattle.std.proofs.Common.{◌≡◌, List, refl, Bool, true, false}
use Rattle.std.specs.Prelude.{Option, Some, None}
use Rattle.std.proofs.lemmas.Bool.{false≢true}
use Rattle.board_core.specs.declared.keys.Key.{Key}
use Rattle.visit_log.specs.declared.words.Request.{Request}
use Rattle.visit_log.specs.declared.words.Request.TheVariants.{Poll, Draw as Draws, Claim as Claims, Look, Enter, Leave, Post, End}
use Rattle.visit_log.specs.declared.words.Reply.{Reply}
use Rattle.visit_log.specs.declared.words.Reply.TheVariants.{Poll as Polled, Draw as Drew, Claim as Claimed, Look as Looked, Enter as Entered, Leave as LeftIt, Post as PostedIt}
use Rattle.lone_port.specs.Lone.{LonePortView, Turns}
use Rattle.worker_core.specs.Machine.{is_poll}
use Rattle.search_pool.specs.Inside.{says_stop}

told_no : (stop told : Bool) → stop ≡ told → told ≡ false → says_stop (Poll, Some (Polled stop)) ≡ false
told_no true told e not = absurd (cc)
told_no false told e not = refl

-- A table and a desk that aren't told to stop a worker don't.
pub says_no : (before : LonePortView) (path : List Key) (q : Request) (a : Option Reply) (after : LonePortView) → Turns before path q a after → before.stops ≡ false
    → says_stop (q, a) ≡ false
says_no before path q None after h not = refl
says_no before path Poll (Some (Polled stop)) after h not = told_no stop before.stops h.0 not
says_no before path Draws (Some (Polled stop)) after h not = absurd h
says_no before path Claims (Some (Polled stop)) after h not = absurd h
says_no before path (Look key) (Some (Polled stop)) after h not = absurd h
says_no before path (Enter key numbers) (Some (Polled stop)) after h not = absurd h
says_no before path (Leave kept key update) (Some (Polled stop)) after h not = absurd h
says_no before path (Post note) (Some (Polled stop)) after h not = absurd h
says_no before path (End end) (Some (Polled stop)) after h not = absurd h
says_no before path q (Some (Drew draw)) after h not = refl
says_no before path q (Some (Claimed claim)) after h not = refl
says_no before path q (Some (Looked seen)) after h not = refl
says_no before path q (Some (Entered kept)) after h not = refl
says_no before path q (Some LeftIt) after h not = refl
says_no before path q (Some PostedIt) after h not = refl

told_yes : (stop told : Bool) → stop ≡ told → told ≡ true → says_stop (Poll, Some (Polled stop)) ≡ true
told_yes true told e raised = refl
told_yes false told e raised = absurd (cc)

-- Where a stop is signalled, a poll is told so.
pub says_yes : (before : LonePortView) (path : List Key) (q : Request) (a : Option Reply) (after : LonePortView) → Turns before path q a after → is_poll q ≡ true → before.stops ≡ true
    → says_stop (q, a) ≡ true
says_yes before path Poll None after h polls raised = absurd h
says_yes before path Poll (Some (Polled stop)) after h polls raised = told_yes stop before.stops h.0 raised
says_yes before path Poll (Some (Drew draw)) after h polls raised = absurd h
says_yes before path Poll (Some (Claimed claim)) after h polls raised = absurd h
says_yes before path Poll (Some (Looked seen)) after h polls raised = absurd h
says_yes before path Poll (Some (Entered kept)) after h polls raised = absurd h
says_yes before path Poll (Some LeftIt) after h polls raised = absurd h
says_yes before path Poll (Some PostedIt) after h polls raised = absurd h
says_yes before path Draws a after h polls raised = absurd (false≢true polls)
says_yes before path Claims a after h polls raised = absurd (false≢true polls)
says_yes before path (Look key) a after h polls raised = absurd (false≢true polls)
says_yes before path (Enter key numbers) a after h polls raised = absurd (false≢true polls)
says_yes before path (Leave kept key update) a after h polls raised = absurd (false≢true polls)
says_yes before path (Post note) a after h polls raised = absurd (false≢true polls)
says_yes before path (End end) a after h polls raised = absurd (false≢true polls)
