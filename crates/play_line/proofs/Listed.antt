-- Where entries and moves stand.
use Rattle.std.proofs.Common.{◌≡◌, ◌<◌, ◌≤◌, ◌⊎◌, inl, inr, ℕ, List, Option, None, get_or, length, arith, ap, sym, refl, ◌∙◌, subst}
use Rattle.std.proofs.lemmas.Option.{get_or_from_slice_get, slice_get_read}
use Rattle.bit_boards.specs.declared.piece.Side.{Side}
use Rattle.board_core.specs.declared.moves.Move.{Move}
use Rattle.board_core.specs.Board.{Board}
use Rattle.board_core.specs.Order.{order_of, RisesFrom, PlacesInOrder}
use Rattle.mate_facts.specs.declared.entry.MateEntry.{MateEntry}
use Rattle.hand_dominance.specs.declared.version.Version.{Version}
use Rattle.hand_dominance.specs.BorneOut.{CoversListed}
use Rattle.list_laws.proofs.Standing.{at_place}
use Rattle.cert_text.specs.Certificate.{Mating}
use Rattle.dominance_places.specs.Found.{IsFoundCovered, IsLeastCovered, StandsCovered}
use Rattle.play_line.specs.Line.{IsRankAt}

-- 1. Places.

-- in a list in order, what stands at a lesser place comes no later in the order
pub in_order : PlacesInOrder → (moves : List Move) → RisesFrom 0 moves → (i j : ℕ) (a b : Move) → i < j → j < length moves
    → get_or moves i a ≡ a → b ≡ get_or moves j b → order_of a ≤ order_of b
in_order places moves r i j a b lt h ea eb =
    let read = λ (k : ℕ) (x : Move). slice_get_read moves (length moves) k x refl in
    let turn : order_of b < order_of a → j < i = places 0 moves r j i b a (read j b h eb) (read i a (omega arith) (sym ea)) in
    grind arith

-- what covers a listed position is found to
pub none_found : (version its : Version) (entries items : List MateEntry) (attacker : Side) (position : Board) (found : Option ℕ) → its ≡ version
    → items ≡ entries → found ≡ None → IsFoundCovered its items attacker position found → CoversListed version entries attacker position → ⊥
none_found version its entries items attacker position found same all none is over =
    let is = subst (λ (v : Version). IsFoundCovered v items attacker position found) same is in
    let is = subst (λ (es : List MateEntry). IsFoundCovered version es attacker position found) all is in
    let is = subst (IsFoundCovered version entries attacker position) none is in
    is over.listed.0 (record { entry = over.entry; there = at_place entries over.entry over.listed; covers = over.covers })

-- what is read at the place of a position's entry is that entry
pub entry_is : (c : Mating) (attacker : Side) (position : Board) (entries : List MateEntry) (place : ℕ) (entry : MateEntry) → entries ≡ c.entries
    → (found : IsLeastCovered c.version c.entries attacker position place) → entry ≡ get_or entries place entry → found.stands.entry ≡ entry
entry_is c attacker position entries place entry same found is =
    sym (get_or_from_slice_get c.entries place found.stands.entry entry found.stands.there)
    ∙ sym (subst (λ (es : List MateEntry). entry ≡ get_or es place entry) same is)

-- 2. Ranks.

no_greater : (rank other_rank place other_place : ℕ) → (rank < other_rank) ⊎ ((rank ≡ other_rank) × (place ≤ other_place)) → rank ≤ other_rank
no_greater rank other_rank place other_place (inl less) = omega (arith, less)
no_greater rank other_rank place other_place (inr same) = let e = same.0 in omega (arith, e)

-- no entry that a position covers has a lower rank than the position's
pub rank_least : (version : Version) (entries : List MateEntry) (attacker : Side) (position : Board) (place other : ℕ)
    → (found : IsLeastCovered version entries attacker position place) (covered : StandsCovered version entries attacker position other)
    → found.stands.entry.rank.number ≤ covered.entry.rank.number
rank_least version entries attacker position place other found covered =
    no_greater found.stands.entry.rank.number covered.entry.rank.number place other (found.least other covered)

-- a position has one rank
pub rank_only : (c : Mating) (attacker : Side) (p : Board) (rank other : ℕ) → IsRankAt c attacker p rank → IsRankAt c attacker p other → other ≡ rank
rank_only c attacker p rank other r o =
    let one = rank_least c.version c.entries attacker p r.place o.place r.found o.found.stands in
    let two = rank_least c.version c.entries attacker p o.place r.place o.found r.found.stands in
    let first = r.has_rank in
    let second = o.has_rank in
    omega (arith, one, two, first, second)

-- the rank that is read there is the position's
pub rank_found : (c : Mating) (attacker : Side) (b p : Board) (entries : List MateEntry) (place : ℕ) (entry : MateEntry) → entries ≡ c.entries → b ≡ p
    → IsLeastCovered c.version c.entries attacker b place → entry ≡ get_or entries place entry
    → IsRankAt c attacker p (get_or entries place entry).rank.number
rank_found c attacker b p entries place entry same e found is =
    subst (λ (q : Board). IsRankAt c attacker q (get_or entries place entry).rank.number) e (record {
      place = place;
      found = found;
      has_rank = ap (λ (x : MateEntry). x.rank.number) (entry_is c attacker b entries place entry same found is ∙ is);
    })
