use Rattle.notes.proofs.Truth.{notes_are_true}
use Rattle.notes.proofs.note.note_laws.Goals as goal

pub returns : goal.returns
returns c =
    let dominance = c.dominance_laws.ensures in
    let listing = c.listing_laws.ensures in
    notes_are_true c.rank_grows.ensures c.escapes_joined.ensures c.escape_grows.ensures dominance.mates dominance.mated dominance.escapes dominance.evasions
    listing.covers listing.ranks listing.escapes_covered
