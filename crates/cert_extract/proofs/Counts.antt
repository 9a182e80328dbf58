-- How many entries a mate's certificate has, by its positions.
use Rattle.std.proofs.Common.{◌≡◌, ◌≤◌, ℕ, List, length, Contains, arith}
use Rattle.std.proofs.lemmas.List.{length-map}
use Rattle.board_core.specs.Board.{Board}
use Rattle.mate_facts.specs.declared.entry.MateEntry.{MateEntry}
use Rattle.mate_facts.specs.Entries.{positions_of}

pub few_positions : (entries : List MateEntry) (most many : ℕ) → length entries ≡ many → many ≤ most → length (positions_of entries) ≤ most
few_positions entries most many same few = let as_many = length-map entries (λ (e : MateEntry). e.at) in omega (arith, as_many, same, few)

pub some_entry : (entries : List MateEntry) (b : Board) → Contains (positions_of entries) b → 1 ≤ length entries
some_entry entries b c =
    let as_many = length-map entries (λ (e : MateEntry). e.at) in
    let inside = c.1 in
    omega (arith, as_many, inside)
