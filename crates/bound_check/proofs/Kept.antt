-- What the loops over evasions and over checks find out about one entry.
use Rattle.std.proofs.Common.{◌≡◌, ◌<◌, ◌≤◌, ℕ, List, get_or, length, Contains, ap, sym, refl, ◌∙◌, subst}
use Rattle.std.specs.Prelude.{Some, slice_get}
use Rattle.std.proofs.lemmas.Option.{slice_get_read}
use Rattle.bit_boards.specs.declared.piece.Side.{Side}
use Rattle.board_core.specs.declared.moves.Move.{Move}
use Rattle.board_core.specs.Board.{Board}
use Rattle.board_core.specs.Order.{Lists, PlacesInOrder}
use Rattle.shogi_rules.specs.Rules.{after}
use Rattle.shogi_rules.specs.Tsume.{IsCheck, IsEvasion}
use Rattle.mate_def.specs.Mate.{HasEvasionTo}
use Rattle.list_laws.proofs.Standing.{at_place, of_all}
use Rattle.bound_text.specs.declared.entry.BoundEntry.{BoundEntry}
use Rattle.bound_check.specs.Valid.{Keeps, IsHeld}
use Rattle.bound_check.specs.Reasons.{IsFirstUnkept}

-- what a place of an exact list holds has the property
pub held_at : (P : Move → Type 0) (items moves : List Move) → Lists P moves → items ≡ moves → (i : ℕ) (x : Move) → i < length items → x ≡ get_or items i x → P x
held_at P items moves l same i x inside is = l.sound x (subst (λ (ms : List Move). Contains ms x) same (i, inside, sym is))

-- 1. The evasions to a check.

pub evaded : (attacker : Side) (P : Board → Type 0) (b checked next : Board) (check evasion : Move) → checked ≡ after b check → next ≡ after checked evasion
    → IsEvasion attacker checked evasion → P next → HasEvasionTo attacker P b check
evaded attacker P b checked next check evasion e f is_evasion leads = record {
  evasion = evasion;
  is_evasion = subst (λ (x : Board). IsEvasion attacker x evasion) e is_evasion;
  leads = subst P (f ∙ ap (λ (x : Board). after x evasion) e) leads;
}

pub none_evades : (attacker : Side) (P : Board → Type 0) (b checked : Board) (check : Move) (items evasions : List Move) (n : ℕ) → checked ≡ after b check
    → Lists (IsEvasion attacker checked) evasions → items ≡ evasions → length items ≤ n
    → ((k : ℕ) (a : Move) → k < n → slice_get items k ≡ Some a → ¬ P (after checked a)) → ¬ HasEvasionTo attacker P b check
none_evades attacker P b checked check items evasions n e l same all none into =
    of_all (λ (a : Move). ¬ P (after checked a)) items evasions n same all none into.evasion
    (l.complete into.evasion (subst (λ (x : Board). IsEvasion attacker x into.evasion) (sym e) into.is_evasion))
    (subst (λ (x : Board). P (after x into.evasion)) (sym e) into.leads)

-- 2. The checks of an entry's position.

pub all_kept : (entries : List BoundEntry) (attacker : Side) (entry : BoundEntry) (items checks : List Move) (n : ℕ)
    → Lists (IsCheck attacker entry.at) checks → items ≡ checks → length items ≤ n
    → ((k : ℕ) (m : Move) → k < n → slice_get items k ≡ Some m → HasEvasionTo attacker (Keeps entries entry.bound.number) entry.at m)
    → IsHeld entries attacker entry
all_kept entries attacker entry items checks n l same all kept check is_check =
    of_all (HasEvasionTo attacker (Keeps entries entry.bound.number) entry.at) items checks n same all kept check (l.complete check is_check)

-- a check that comes sooner in the order stands sooner, so that it is kept
pub first_here : PlacesInOrder → (entries : List BoundEntry) (attacker : Side) (entry : BoundEntry) (items checks : List Move) (i : ℕ) (x : Move)
    → Lists (IsCheck attacker entry.at) checks → items ≡ checks → i < length items → x ≡ get_or items i x
    → ¬ HasEvasionTo attacker (Keeps entries entry.bound.number) entry.at x
    → ((k : ℕ) (m : Move) → k < i → slice_get items k ≡ Some m → HasEvasionTo attacker (Keeps entries entry.bound.number) entry.at m)
    → IsFirstUnkept entries attacker entry (Some x)
first_here places entries attacker entry items checks i x l same inside is unkept below =
    let here = slice_get_read items (length items) i x refl inside is in (
      record { is_check = held_at (IsCheck attacker entry.at) items checks l same i x inside is; unkept = unkept },
      (λ sooner less against.
          let there = at_place checks sooner (l.complete sooner against.is_check) in
          let stands = subst (λ (ms : List Move). slice_get ms (l.complete sooner against.is_check).0 ≡ Some sooner) (sym same) there in
          let earlier = places 0 checks l.rises (l.complete sooner against.is_check).0 i sooner x there (subst (λ (ms : List Move). slice_get ms i ≡ Some x) same here) less in
          against.unkept (below (l.complete sooner against.is_check).0 sooner earlier stands)),
    )
