-- Closed positions put together.
use Rattle.std.proofs.Common.{◌≡◌, ◌++◌, ◌⊎◌, inl, inr, zero, suc, List, [], ◌∷◌, Contains, arith, refl, sym, subst}
use Rattle.std.proofs.lemmas.List.Elements.{Contains-append_left, Contains-append_right, Contains-append_cases}
use Rattle.list_laws.proofs.Standing.{none_in_none}
use Rattle.bit_boards.specs.declared.piece.Side.{Side}
use Rattle.board_core.specs.declared.moves.Move.{Move}
use Rattle.board_core.specs.Board.{Board}
use Rattle.shogi_rules.specs.Tsume.{IsCheck}
use Rattle.mate_def.specs.Mate.{after_both, HasEvasionTo, IsClosed, EscapesInto}

-- where an element of a list with one more in front stands
pub in_front : {X : Type 0} (x : X) (xs : List X) (q : X) → Contains (x ∷ xs) q → (x ≡ q) ⊎ Contains xs q
in_front x xs q (zero, inside, e) = inl e
in_front x xs q (suc k, inside, e) = inr (k, omega (arith, inside), e)

pub later : {X : Type 0} (x : X) (xs : List X) (q : X) → Contains xs q → Contains (x ∷ xs) q
later x xs q h = (suc h.0, omega (arith, h.1), h.2)

pub first : {X : Type 0} (x : X) (xs : List X) → Contains (x ∷ xs) x
first x xs = (zero, omega arith, refl)

-- the same evasion, where what it leads to has another property
pub leads_on : (attacker : Side) (P Q : Board → Type 0) (b : Board) (check : Move) → ((q : Board) → P q → Q q)
    → HasEvasionTo attacker P b check → HasEvasionTo attacker Q b check
leads_on attacker P Q b check up e = record { evasion = e.evasion; is_evasion = e.is_evasion; leads = up (after_both b check e.evasion) e.leads }

pub into_more : (attacker : Side) (b : Board) (t u : List Board) → ((q : Board) → Contains t q → Contains u q)
    → EscapesInto attacker b t → EscapesInto attacker b u
into_more attacker b t u up e = (
  e.0,
  e.1,
  record {
    turn = e.2.turn;
    answered = λ p check member is. leads_on attacker _ _ p check
        (λ q way. elim way [ inl inside ↦ inl inside | inr out ↦ inr (up q out) ]) (e.2.answered p check member is);
  },
)

pub past_itself : (attacker : Side) (b : Board) (t : List Board) → EscapesInto attacker b (b ∷ t) → EscapesInto attacker b t
past_itself attacker b t e = (
  e.0,
  e.1,
  record {
    turn = e.2.turn;
    answered = λ p check member is. leads_on attacker _ _ p check
        (λ q way. elim way [
          | inl inside ↦ inl inside
          | inr out ↦ elim (in_front b t q out) [ inl itself ↦ inl (subst (Contains e.0) itself e.1) | inr other ↦ inr other ]
        ]) (e.2.answered p check member is);
  },
)

both_closed : (attacker : Side) (s r t : List Board) → IsClosed attacker s t → IsClosed attacker r t → IsClosed attacker (s ++ r) t
both_closed attacker s r t one two = record {
  turn = λ q member. elim (Contains-append_cases s r q member) [ inl left ↦ one.turn q left | inr right ↦ two.turn q right ];
  answered = λ p check member is. elim (Contains-append_cases s r p member) [
    | inl left ↦ leads_on attacker _ _ p check
        (λ q way. elim way [ inl inside ↦ inl (Contains-append_left s r q inside) | inr out ↦ inr out ]) (one.answered p check left is)
    | inr right ↦ leads_on attacker _ _ p check
        (λ q way. elim way [ inl inside ↦ inl (Contains-append_right s r q inside) | inr out ↦ inr out ]) (two.answered p check right is)
  ];
}

-- closed positions to which each of some checks has an evasion, or to one of t
abbrev Gathered : Side → Board → List Board → List Move → Type 0
Gathered attacker b t checks = (s : List Board) × IsClosed attacker s t
    × ((check : Move) → Contains checks check → HasEvasionTo attacker (λ q. Contains s q ⊎ Contains t q) b check)

gather_one : (attacker : Side) (b : Board) (t : List Board) (c : Move) (checks : List Move)
    → (e : HasEvasionTo attacker (λ q. Contains t q ⊎ EscapesInto attacker q t) b c) → Gathered attacker b t checks
    → Contains t (after_both b c e.evasion) ⊎ EscapesInto attacker (after_both b c e.evasion) t → Gathered attacker b t (c ∷ checks)
gather_one attacker b t c checks e rest (inl out) = (
  rest.0,
  rest.1,
  λ check member. elim (in_front c checks check member) [
    | inl itself ↦ subst (λ m. HasEvasionTo attacker (λ q. Contains rest.0 q ⊎ Contains t q) b m) itself
        (record { evasion = e.evasion; is_evasion = e.is_evasion; leads = inr out })
    | inr other ↦ rest.2 check other
  ],
)
gather_one attacker b t c checks e rest (inr on) = (
  on.0 ++ rest.0,
  both_closed attacker on.0 rest.0 t on.2 rest.1,
  λ check member. elim (in_front c checks check member) [
    | inl itself ↦ subst (λ m. HasEvasionTo attacker (λ q. Contains (on.0 ++ rest.0) q ⊎ Contains t q) b m) itself
        (record { evasion = e.evasion; is_evasion = e.is_evasion; leads = inl (Contains-append_left on.0 rest.0 _ on.1) })
    | inr other ↦ leads_on attacker _ _ b check
        (λ q way. elim way [ inl inside ↦ inl (Contains-append_right on.0 rest.0 q inside) | inr out ↦ inr out ]) (rest.2 check other)
  ],
)

gather : (attacker : Side) (b : Board) (t : List Board) (checks : List Move)
    → ((check : Move) → Contains checks check → HasEvasionTo attacker (λ q. Contains t q ⊎ EscapesInto attacker q t) b check)
    → Gathered attacker b t checks
gather attacker b t [] all = ([], record { turn = λ q h. absurd (none_in_none q h); answered = λ q c h is. absurd (none_in_none q h) }, λ c h. absurd (none_in_none c h))
gather attacker b t (c ∷ checks) all =
    let e = all c (first c checks) in
    gather_one attacker b t c checks e (gather attacker b t checks (λ check member. all check (later c checks check member))) e.leads

pub joined : (attacker : Side) (b : Board) (checks : List Move) (t : List Board) → b.side ≡ attacker
    → ((check : Move) → IsCheck attacker b check → Contains checks check)
    → ((check : Move) → Contains checks check → HasEvasionTo attacker (λ q. Contains (b ∷ t) q ⊎ EscapesInto attacker q (b ∷ t)) b check)
    → EscapesInto attacker b t
joined attacker b checks t turn whole all =
    let g = gather attacker b (b ∷ t) checks all in
    past_itself attacker b t (
      b ∷ g.0,
      first b g.0,
      record {
        turn = λ q member. elim (in_front b g.0 q member) [ inl itself ↦ subst (λ p. p.side ≡ attacker) itself turn | inr other ↦ g.1.turn q other ];
        answered = λ p check member is. elim (in_front b g.0 p member) [
          | inl itself ↦ leads_on attacker _ _ p check
              (λ q way. elim way [ inl inside ↦ inl (later b g.0 q inside) | inr out ↦ inr out ])
              (subst (λ m. HasEvasionTo attacker (λ q. Contains g.0 q ⊎ Contains (b ∷ t) q) m check) itself
              (g.2 check (whole check (subst (λ m. IsCheck attacker m check) (sym itself) is))))
          | inr other ↦ leads_on attacker _ _ p check
              (λ q way. elim way [ inl inside ↦ inl (later b g.0 q inside) | inr out ↦ inr out ]) (g.1.answered p check other is)
        ];
      },
    )
