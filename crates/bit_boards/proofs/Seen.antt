-- What is seen along a ray: of the squares ahead those before which no occupied one lies.
use Rattle.std.proofs.Common.{◌≡◌, ℕ, ◌<◌, ◌&&◌, false, sym, ◌∙◌, ◌↔◌, inl, inr}
use Rattle.std.proofs.lemmas.Bool.{cases_Bool, and_parts, and_from, both_ways}
use Rattle.bit_boards.specs.declared.direction.Direction.{Direction}
use Rattle.bit_boards.specs.declared.mask.Mask.{Mask}
use Rattle.bit_boards.specs.Mask.{holds, Holds}
use Rattle.bit_boards.specs.Direction.{IsAhead, LiesToward, IsSeen}
use Rattle.bit_boards.proofs.Ahead.{nearer, between_by, between_within}

-- which of two squares ahead is the nearer one, by an order of their numbers
abbrev pub Orders : Direction → ℕ → (ℕ → ℕ → Type 0) → Type 0
Orders d from Before = (j m k b : ℕ) → IsAhead d from j m → IsAhead d from k b → (j < k) ↔ Before m b

-- the squares ahead, and those of them that are occupied
pub record Looks (occupied ahead met : Mask) (d : Direction) (from : ℕ) : Type 0 where
  pub opens : (to : ℕ) → Holds ahead to ↔ LiesToward d from to
  pub meets : (s : ℕ) → holds met s ≡ (holds ahead s && holds occupied s)
  pub on_board : from < 81

pub seen : (occupied ahead met : Mask) (d : Direction) (from to : ℕ) (Before : ℕ → ℕ → Type 0) → Orders d from Before
    → Looks occupied ahead met d from → Holds ahead to → ((t : ℕ) → Before t to → holds met t ≡ false) → IsSeen occupied d from to
seen occupied ahead met d from to Before order l has none =
    let lies = (l.opens to).0 has in
    record {
      toward = lies;
      clear = λ m between occ.
          let n = nearer d from lies.1 to m lies.2 between in
          let within = between_within from m to l.on_board lies.0 between in
          let here = (l.opens m).1 (within, n.steps, n.ahead) in
          both_ways (holds met m) (none m ((order n.steps m lies.1 to n.ahead lies.2).0 n.nearer)) (l.meets m ∙ and_from _ _ here occ);
    }

pub unseen : (occupied ahead met : Mask) (d : Direction) (from to : ℕ) (Before : ℕ → ℕ → Type 0) → Orders d from Before
    → Looks occupied ahead met d from → IsSeen occupied d from to → (t : ℕ) → Before t to → holds met t ≡ false
unseen occupied ahead met d from to Before order l s t before = elim (cases_Bool (holds met t)) [
  | inl has ↦
      let parts = and_parts _ _ (sym (l.meets t) ∙ has) in
      let lies = (l.opens t).0 parts.0 in
      let j = (order lies.1 t s.toward.1 to lies.2 s.toward.2).1 before in
      absurd (s.clear t (between_by d from s.toward.1 to lies.1 t s.toward.2 lies.2 j) parts.1)
  | inr none ↦ none
]
