-- Where the entries of a mate and their positions stand.
use Rattle.std.proofs.Common.{length, arith, ap, sym, refl, ◌∙◌}
use Rattle.std.proofs.Math.ListN.{length-map}
use Rattle.std.proofs.lemmas.Option.{slice_get-map, slice_get_read, slice_get_within, same_Some}
use Rattle.std.specs.Prelude.{Some, slice_get}
use Rattle.std.specs.Option.{option_map}
use Rattle.mate_facts.specs.declared.entry.MateEntry.{MateEntry}
use Rattle.board_core.specs.Board.{Board}
use Rattle.mate_facts.specs.Entries.{positions_of}
use Rattle.mate_facts.specs.Laws.{EntriesStand, EntriesAreListed, EntriesApart, EntriesAreFound}
use Rattle.list_laws.proofs.Standing.{at_place, contains_map}

abbrev position_of : MateEntry → Board
position_of entry = entry.at

pub entries_stand : EntriesStand
entries_stand entries place entry e = slice_get-map position_of entries place ∙ ap (option_map position_of) e

pub entries_listed : EntriesAreListed
entries_listed entries entry c = contains_map position_of entries entry c

pub entries_apart : EntriesApart
entries_apart entries apart a b ca cb same =
    let here = at_place entries a ca in
    let there = at_place entries b cb in
    let place = apart ca.0 cb.0 b.at (entries_stand entries ca.0 a here ∙ ap Some same) (entries_stand entries cb.0 b there) in
    same_Some a b (sym here ∙ (ap (slice_get entries) place ∙ there))

pub entries_found : EntriesAreFound
entries_found entries place position entry found is =
    let n = length-map entries position_of in
    let h = slice_get_within (positions_of entries) place position found in
    let e = entries_stand entries place entry (slice_get_read entries (length entries) place entry refl (omega arith) is) in
    ((place, omega arith, sym is), same_Some entry.at position (sym e ∙ found))
