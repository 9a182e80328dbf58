-- A port suits a worker as it did before, once a position was entered and left.
use Rattle.std.proofs.Common.{◌≡◌, ◌+◌, ◌∙◌, inl, inr, Some, arith, sym, ap, subst}
use Rattle.board_core.specs.declared.keys.Key.{Key}
use Rattle.notes.specs.declared.words.Kept.{Kept}
use Rattle.notes.specs.declared.words.Update.{Update}
use Rattle.pn_numbers.specs.declared.numbers.Numbers.{Numbers}
use Rattle.visit_log.specs.declared.words.Request.TheVariants.{Enter, Leave}
use Rattle.visit_log.specs.declared.words.Reply.TheVariants.{Enter as Entered, Leave as LeftIt}
use Rattle.visit_log.specs.Run.{WorkerView}
use Rattle.visit_log.specs.Counts.{Words, own_slots, enters, leaves}
use Rattle.worker_core.specs.Port.{Book, IsBooked, Suits}

pub learnt_suits : (worker : WorkerView) (a b c : Book) (key : Key) (numbers : Numbers) (kept : Kept) (update : Update)
    → IsBooked (Enter key numbers, Some (Entered kept)) a b → IsBooked (Leave kept key update, Some LeftIt) b c → Suits worker a → Suits worker c
learnt_suits worker a b c key numbers kept update first second suits =
    let going : c.going ≡ a.going = second.going ∙ first.going in
    let visits : c.visits ≡ a.visits = (let one = first.visits in let two = second.visits in omega (arith, one, two)) in
    let size : c.size ≡ a.size = (let one = first.size in let two = second.size in omega (arith, one, two)) in
    record {
      problem = suits.problem ∙ sym (second.problem ∙ first.problem);
      going = elim suits.going [ inl goes ↦ inl (going ∙ goes) | inr winding ↦ inr winding ];
      held = λ word.
          let one = first.held word in
          let two = subst (λ (ws : Words). c.held word + leaves ws (Leave kept key update, Some LeftIt) word ≡ b.held word + enters ws (Leave kept key update, Some LeftIt) word) first.words (second.held word) in
          let h = suits.held word in
          let z = ap (λ (ws : Words). own_slots ws worker.state.frames word) (second.words ∙ first.words) in
          omega (arith, one, two, h, z);
      some = (let some = suits.some in omega (arith, size, some));
      visits = (let own = suits.visits in omega (arith, visits, own));
      size = (let own = suits.size in omega (arith, size, visits, own));
      most = (let most = suits.most in omega (arith, visits, most));
    }
