-- What a position covers where it covers itself alone.
use Rattle.std.proofs.Common.{◌≡◌, inr, ℕ, option_map, List, Option, Some, None, slice_get, sym, subst, ap, ◌∙◌, arith}
use Rattle.std.proofs.lemmas.Option.{slice_get-map, same_Some}
use Rattle.list_laws.proofs.Standing.{contained, from_map}
use Rattle.bit_boards.specs.declared.piece.Side.{Side}
use Rattle.board_core.specs.Board.{Board}
use Rattle.mate_facts.specs.declared.entry.MateEntry.{MateEntry}
use Rattle.mate_facts.specs.Entries.{AreApart, positions_of}
use Rattle.position_places.specs.Places.{IsPlace}
use Rattle.hand_dominance.specs.declared.version.Version.TheVariants.{One}
use Rattle.dominance_places.specs.Found.{ComesBefore, IsFoundCovered, StandsCovered}

-- The entry that a position covers has it.
has_position : (entries : List MateEntry) (attacker : Side) (position : Board) (place : ℕ) → StandsCovered One entries attacker position place
    → slice_get (positions_of entries) place ≡ Some position
has_position entries attacker position place stands =
    slice_get-map (λ (e : MateEntry). e.at) entries place ∙ (ap (option_map (λ (e : MateEntry). e.at)) stands.there ∙ ap Some (sym stands.covers))

-- Of entries that are apart it is the one that stands there.
one_alone : (entries : List MateEntry) (attacker : Side) (position : Board) (place : ℕ) (entry : MateEntry) → AreApart (positions_of entries)
    → slice_get (positions_of entries) place ≡ Some position → slice_get entries place ≡ Some entry
    → (other : ℕ) (covered : StandsCovered One entries attacker position other) → ComesBefore place entry other covered.entry
one_alone entries attacker position place entry apart there is other covered =
    let same : place ≡ other = apart place other position there (has_position entries attacker position other covered) in
    let found : Some entry ≡ Some covered.entry = sym is ∙ subst (λ (k : ℕ). slice_get entries k ≡ Some covered.entry) (sym same) covered.there in
    inr (ap (λ (e : MateEntry). e.rank.number) (same_Some entry covered.entry found), omega (arith, same))

pub found_same : (entries : List MateEntry) (attacker : Side) (position : Board) (found : Option ℕ) → AreApart (positions_of entries)
    → IsPlace (positions_of entries) position found → IsFoundCovered One entries attacker position found
found_same entries attacker position None apart none = λ place stands.
    none (contained (positions_of entries) place position (has_position entries attacker position place stands))
found_same entries attacker position (Some place) apart there =
    let at = from_map (λ (e : MateEntry). e.at) entries place position there in
    record {
      stands = record { entry = at.0; there = at.1; covers = sym at.2 };
      least = one_alone entries attacker position place at.0 apart there at.1;
    }
