-- What is kept of a seat after each call.
use Rattle.std.proofs.Common.{◌≡◌, ℕ, ◌+◌, ◌<◌, ◌≤◌, ◌||◌, nat_le, Bool, List, ◌∷◌, ◌++◌, length, sym, refl, ap, ◌∙◌, cond, arith, length-append}
use Rattle.std.specs.Prelude.{Option, Some, None, is_some, IfSome}
use Rattle.std.specs.Option.{option_or}
use Rattle.std.proofs.lemmas.Bool.{le-leb}
use Rattle.std.proofs.lemmas.List.Sums.{length-filter, sum_by-append}
use Rattle.std.proofs.lemmas.List.Elements.{filter-append}
use Rattle.atomic_table.specs.Seated.{TableId}
use Rattle.board_core.specs.Board.{Board}
use Rattle.notes.specs.Derivation.{Derivation}
use Rattle.unit_desk.specs.Desk.{IsAnswerTo}
use Rattle.word_desk.specs.declared.view.TheConstants.{POSTED}
use Rattle.word_desk.specs.declared.view.View.{View}
use Rattle.word_desk.specs.Rule.{count_above, AreFew, after_draw, after_claim, after_join}
use Rattle.word_desk.specs.WordDesk.{WordDeskView, IsSeat, numbers_to, seat_of, joined}
use Rattle.word_desk.proofs.Sums.{above}
use Rattle.word_desk.proofs.Moves.{drawn_draw}

-- as many numbers lie within a limit as the limit says, where they are few
few_to : (limit : ℕ) (numbers : List ℕ) → AreFew numbers → length (numbers_to limit numbers) ≤ limit
few_to limit numbers few = let p = few limit in let e = length-filter (λ (number : ℕ). nat_le number limit) numbers in omega (arith, p, e)

-- one more number within the limit stands in front
one_more : (limit number : ℕ) (numbers : List ℕ) → number ≤ limit → numbers_to limit (number ∷ numbers) ≡ number ∷ numbers_to limit numbers
one_more limit number numbers low =
    ap (λ (b : Bool). cond b (number ∷ numbers_to limit numbers) (numbers_to limit numbers)) (le-leb number limit low)

pub drew_seat : (desk : WordDeskView) (words : TableId) (v w : View) (its_note : Option Derivation) (found its_drawn : ℕ)
    → IsSeat (seat_of desk v its_note) → w ≡ after_draw v found → AreFew w.drawn → found < POSTED → found < desk.expansions
    → its_drawn ≡ length (numbers_to desk.expansions v.drawn)
    → IsSeat (seat_of (record desk { words = words }) w its_note) × (its_drawn + 1 ≡ length (numbers_to desk.expansions w.drawn)) × (w.won ≡ v.won)
drew_seat desk words v w its_note found its_drawn kept is few open_ low counter =
    let now : w ≡ record v { drawn = (found + 1) ∷ v.drawn } = is ∙ drawn_draw v found open_ in
    let parts : w.parts ≡ v.parts = ap (λ (u : View). u.parts) now in
    let claimed : w.claimed ≡ v.claimed = ap (λ (u : View). u.claimed) now in
    let visits : numbers_to desk.expansions w.drawn ≡ (found + 1) ∷ numbers_to desk.expansions v.drawn =
    ap (λ (u : View). numbers_to desk.expansions u.drawn) now ∙ one_more desk.expansions (found + 1) v.drawn (omega (arith, low)) in
    let more = ap length visits in
    let part = kept.part in
    let same = ap (λ xs. length (numbers_to desk.room xs)) claimed in
    let within = kept.claims in (
      record {
        expansions = kept.expansions;
        room = kept.room;
        part = omega (arith, parts, part);
        visits = few_to desk.expansions w.drawn few;
        claims = omega (arith, same, within);
        note = kept.note;
      },
      omega (arith, counter, more),
      ap (λ (u : View). u.won) now,
    )

pub claimed_seat : (desk : WordDeskView) (words : TableId) (v w : View) (its_note : Option Derivation) (found : ℕ)
    → IsSeat (seat_of desk v its_note) → w ≡ after_claim v found → AreFew w.claimed
    → IsSeat (seat_of (record desk { words = words }) w its_note) × (w.drawn ≡ v.drawn) × (w.won ≡ v.won)
claimed_seat desk words v w its_note found kept is few =
    let parts : w.parts ≡ v.parts = ap (λ (u : View). u.parts) is in
    let drawn : w.drawn ≡ v.drawn = ap (λ (u : View). u.drawn) is in
    let part = kept.part in
    let same = ap (λ xs. length (numbers_to desk.expansions xs)) drawn in
    let within = kept.visits in (
      record {
        expansions = kept.expansions;
        room = kept.room;
        part = omega (arith, parts, part);
        visits = omega (arith, same, within);
        claims = few_to desk.room w.claimed few;
        note = kept.note;
      },
      drawn,
      ap (λ (u : View). u.won) is,
    )

either_answers : (position : Board) (one other : Option Derivation) → IfSome one (IsAnswerTo position) → IfSome other (IsAnswerTo position) → IfSome (option_or one other) (IsAnswerTo position)
either_answers position None other p q = q
either_answers position (Some note) other p q = p

is_some-option_or : (one other : Option Derivation) → is_some (option_or one other) ≡ (is_some one || is_some other)
is_some-option_or None other = refl
is_some-option_or (Some note) other = refl

pub joined_seat : (desk : WordDeskView) (words : TableId) (v u w : View) (its_note other_note : Option Derivation) (its_drawn other_drawn : ℕ)
    → IsSeat (seat_of desk v its_note) → IsSeat (seat_of desk u other_note) → w ≡ after_join v u → AreFew w.drawn → AreFew w.claimed
    → its_drawn ≡ length (numbers_to desk.expansions v.drawn) → other_drawn ≡ length (numbers_to desk.expansions u.drawn)
    → v.won ≡ is_some its_note → u.won ≡ is_some other_note
    → IsSeat (seat_of (record desk { words = words }) w (option_or its_note other_note)) × (its_drawn + other_drawn ≡ length (numbers_to desk.expansions w.drawn))
    × (w.won ≡ is_some (option_or its_note other_note))
joined_seat desk words v u w its_note other_note its_drawn other_drawn kept other_kept is few fewer counter other_counter won other_won =
    let parts : w.parts ≡ v.parts + u.parts = ap (λ (z : View). z.parts) is in
    let visits : numbers_to desk.expansions w.drawn ≡ numbers_to desk.expansions u.drawn ++ numbers_to desk.expansions v.drawn =
    ap (λ (z : View). numbers_to desk.expansions z.drawn) is ∙ filter-append (λ number. nat_le number desk.expansions) u.drawn v.drawn in
    let more = ap length visits in
    let both = length-append (numbers_to desk.expansions u.drawn) (numbers_to desk.expansions v.drawn) in
    let part = kept.part in (
      record {
        expansions = kept.expansions;
        room = kept.room;
        part = omega (arith, parts, part);
        visits = few_to desk.expansions w.drawn few;
        claims = few_to desk.room w.claimed fewer;
        note = either_answers desk.position its_note other_note kept.note other_kept.note;
      },
      omega (arith, counter, other_counter, more, both),
      ap (λ (z : View). z.won) is ∙ (ap (λ b. b || u.won) won ∙ (ap (λ b. is_some its_note || b) other_won ∙ sym (is_some-option_or its_note other_note))),
    )

-- a seat is seen as joined where its view is
pub seat_of-after_join : (desk : WordDeskView) (v u : View) (its_note other_note : Option Derivation)
    → seat_of desk (after_join v u) (option_or its_note other_note) ≡ joined (seat_of desk v its_note) (seat_of desk u other_note)
seat_of-after_join desk v u its_note other_note =
    let visits = filter-append (λ number. nat_le number desk.expansions) u.drawn v.drawn in
    let claims = filter-append (λ number. nat_le number desk.room) u.claimed v.claimed in
    let draw_ends : count_above desk.expansions (u.drawn ++ v.drawn) + length (u.missed ++ v.missed) ≡ (count_above desk.expansions v.drawn + length v.missed) + (count_above desk.expansions u.drawn + length u.missed) =
    omega (arith, sum_by-append (above desk.expansions) u.drawn v.drawn, length-append u.missed v.missed) in
    let claim_ends : count_above desk.room (u.claimed ++ v.claimed) ≡ count_above desk.room v.claimed + count_above desk.room u.claimed =
    omega (arith, sum_by-append (above desk.room) u.claimed v.claimed) in
    λ k. record {
      desk = desk;
      parts = v.parts + u.parts;
      visits = visits k;
      draw_ends = draw_ends k;
      claims = claims k;
      claim_ends = claim_ends k;
      met = v.met || u.met;
      note = option_or its_note other_note;
    }
