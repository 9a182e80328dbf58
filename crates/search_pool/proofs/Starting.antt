-- The numbers with which a position begins are one pair: its evasions, or its checks, are some
-- list, and the squares that reach a square some set. (Which they are needn't be computed: that
-- there is no such list can't be.)
use Rattle.std.proofs.Common.{◌≡◌, ◌↔◌, ◌<◌, ◌+◌, ◌^◌, ◌⊎◌, ℕ, zero, suc, List, [], ◌∷◌, ◌++◌, inl, inr, refl, sym, subst, ap, ◌∙◌, arith, bit_or, pow-suc, pow_pos, eq-eqb, eqb-true}
use Rattle.std.specs.Int.{bit_at}
use Rattle.std.proofs.lemmas.Bool.{cases_eq}
use Rattle.std.proofs.lemmas.Nat.{or_lt}
use Rattle.std.proofs.lemmas.Nat.Bits.{bit_at-zero, bit_at_or, bit_at-pow_same, bit_at-pow_other, bit_at-lt}
use Rattle.bit_boards.specs.declared.piece.Side.{Side}
use Rattle.bit_boards.specs.declared.piece.Side.TheVariants.{Black, White}
use Rattle.bit_boards.specs.declared.mask.Mask.{Mask}
use Rattle.bit_boards.specs.Kind.{other}
use Rattle.bit_boards.specs.Mask.{holds, Holds}
use Rattle.board_core.specs.declared.moves.Move.{Move}
use Rattle.board_core.specs.Board.{Board}
use Rattle.board_core.specs.Order.{order_of, Lists, OrdersApart, OrdersWithin}
use Rattle.list_laws.proofs.MoveLists.{Before, lists_none, lists_more, lists_past, lists_whole, at_order}
use Rattle.shogi_rules.specs.Rules.{AttacksFrom, after}
use Rattle.shogi_rules.specs.Tsume.{IsCheck, IsEvasion}
use Rattle.pn_numbers.specs.declared.numbers.Numbers.{Numbers}
use Rattle.start_def.specs.Start.{IsStartOfCheck, IsStartOfEvasion, destination}
use Rattle.visit_log.specs.Round.{IsStart}

-- 1. THAT THERE IS A LIST, AND A SET, CAN'T BE DENIED.

none_denied : OrdersApart → (P : Move → Type 0) (n : ℕ) → ((xs : List Move) → Lists (Before P n) xs → ⊥) → ⊥
none_denied apart P zero deny = deny [] (lists_none P)
none_denied apart P (suc n) deny = none_denied apart P n (λ xs l.
    let missing : (m : Move) → P m → order_of m ≡ n → ⊥ =
    λ m p e. deny (xs ++ m ∷ []) (at_order P (n + 1) (suc n) (xs ++ m ∷ []) (omega arith) (lists_more apart P n xs m l e p)) in
    deny xs (at_order P (n + 1) (suc n) xs (omega arith) (lists_past P n 1 xs l (λ m p low high. missing m p (omega (arith, low, high))))))

-- Not that no list has exactly the moves with a property.
list_denied : OrdersApart → OrdersWithin → (P : Move → Type 0) → ((xs : List Move) → Lists P xs → ⊥) → ⊥
list_denied apart within P deny = none_denied apart P 13770 (λ xs l. deny xs (lists_whole P 13770 xs l within))

-- The number's bits below a place are set where the property is.
record HasBits (P : ℕ → Type 0) (n bits : ℕ) : Type 0 where
  small : bits < 2 ^ n
  sound : (s : ℕ) → bit_at bits s ≡ 1 → (s < n) × P s
  complete : (s : ℕ) → s < n → P s → bit_at bits s ≡ 1

no_bits : (P : ℕ → Type 0) → HasBits P 0 0
no_bits P = record {
  small = omega arith;
  sound = λ s e. (let z = bit_at-zero s in absurd (omega (arith, e, z)));
  complete = λ s less p. absurd (omega (arith, less));
}

wider : (n bits : ℕ) → bits < 2 ^ n → bits < 2 ^ suc n
wider n bits less = (let more = pow-suc 2 n in omega (arith, less, more))

next_bit : (P : ℕ → Type 0) (n bits : ℕ) → P n → HasBits P n bits → HasBits P (suc n) (bit_or bits (2 ^ n))
next_bit P n bits holds h = record {
  small = or_lt (suc n) bits (2 ^ n) (wider n bits h.small) (let more = pow-suc 2 n in let some = pow_pos n in omega (arith, more, some));
  sound = λ s e. elim (cases_eq s n) [
    | inl same ↦ (omega (arith, same), subst P (sym same) holds)
    | inr not ↦ (let old = h.sound s (let o = bit_at_or bits (2 ^ n) s in let z = bit_at-pow_other n s not in let l = bit_at-lt bits s in omega (arith, e, o, z, l)) in
        let less = old.0 in (omega (arith, less), old.1))
  ];
  complete = λ s less p. elim (cases_eq s n) [
    | inl same ↦ (let o = bit_at_or bits (2 ^ n) n in let z = bit_at-pow_same n in let l = bit_at-lt bits n in
        subst (λ (k : ℕ). bit_at (bit_or bits (2 ^ n)) k ≡ 1) (sym same) (omega (arith, o, z, l)))
    | inr not ↦ (let old = h.complete s (omega (arith, less, not)) p in let o = bit_at_or bits (2 ^ n) s in let z = bit_at-pow_other n s not in omega (arith, old, o, z))
  ];
}

same_bits : (P : ℕ → Type 0) (n bits : ℕ) → (P n → ⊥) → HasBits P n bits → HasBits P (suc n) bits
same_bits P n bits fails h = record {
  small = wider n bits h.small;
  sound = λ s e. (let old = h.sound s e in let less = old.0 in (omega (arith, less), old.1));
  complete = λ s less p. elim (cases_eq s n) [
    | inl same ↦ absurd (fails (subst P same p))
    | inr not ↦ h.complete s (omega (arith, less, not)) p
  ];
}

bits_denied : (P : ℕ → Type 0) (n : ℕ) → ((bits : ℕ) → HasBits P n bits → ⊥) → ⊥
bits_denied P zero deny = deny 0 (no_bits P)
bits_denied P (suc n) deny = bits_denied P n (λ bits h.
    let fails : P n → ⊥ = λ p. deny (bit_or bits (2 ^ n)) (next_bit P n bits p h) in
    deny bits (same_bits P n bits fails h))

holds_tells : (m : Mask) (s : ℕ) → Holds m s ↔ (bit_at m.bits s ≡ 1)
unfolding holds
holds_tells m s = (λ e. eqb-true (bit_at m.bits s) 1 e, λ e. eq-eqb (bit_at m.bits s) 1 e)

-- Not that no set has exactly the squares of the board with a property.
set_denied : (P : ℕ → Type 0) → ((m : Mask) → ((s : ℕ) → Holds m s ↔ ((s < 81) × P s)) → ⊥) → ⊥
set_denied P deny = bits_denied P 81 (λ bits h.
    let m : Mask = record { bits = bits; on_board = h.small } in
    deny m (λ s. (λ e. h.sound s ((holds_tells m s).0 e), λ p. (holds_tells m s).1 (h.complete s p.0 p.1))))

-- 2. THE NUMBERS.

same_numbers : (m n : Numbers) → ((m ≡ n → ⊥) → ⊥) → m ≡ n
same_numbers m n h = elim (cases_eq m.pn n.pn) [
  | inl pn ↦ elim (cases_eq m.dn n.dn) [
    | inl dn ↦ λ i. record { pn = pn i; dn = dn i }
    | inr not ↦ absurd (h (λ e. not (ap (λ (x : Numbers). x.dn) e)))
  ]
  | inr not ↦ absurd (h (λ e. not (ap (λ (x : Numbers). x.pn) e)))
]

check_once : OrdersApart → OrdersWithin → (attacker : Side) (b : Board) (by : Move) (m n : Numbers) → IsStartOfCheck attacker b by m → IsStartOfCheck attacker b by n → m ≡ n
check_once apart within attacker b by m n h k = same_numbers m n (λ deny.
    list_denied apart within (IsEvasion attacker (after b by)) (λ evasions listed.
    set_denied (λ s. AttacksFrom b.cells attacker s (destination by)) (λ attacking are.
    set_denied (λ s. AttacksFrom b.cells (other attacker) s (destination by)) (λ defending too.
    deny (h evasions attacking defending listed are too ∙ sym (k evasions attacking defending listed are too))))))

evasion_once : OrdersApart → OrdersWithin → (attacker : Side) (b : Board) (by : Move) (m n : Numbers) → IsStartOfEvasion attacker b by m → IsStartOfEvasion attacker b by n → m ≡ n
evasion_once apart within attacker b by m n h k = same_numbers m n (λ deny.
    list_denied apart within (IsCheck attacker (after b by)) (λ checks listed. deny (h checks listed ∙ sym (k checks listed))))

one_side : (attacker side : Side) → (side ≡ attacker) ⊎ (side ≡ other attacker)
one_side Black Black = inl refl
one_side Black White = inr refl
one_side White Black = inr refl
one_side White White = inl refl

-- The position behind a move begins with one pair of numbers.
pub start_once : OrdersApart → OrdersWithin → (attacker : Side) (b : Board) (by : Move) (m n : Numbers) → IsStart attacker b by m → IsStart attacker b by n → m ≡ n
start_once apart within attacker b by m n h k = elim (one_side attacker b.side) [
  | inl check ↦ check_once apart within attacker b by m n (h.check check) (k.check check)
  | inr evasion ↦ evasion_once apart within attacker b by m n (h.evasion evasion) (k.evasion evasion)
]
