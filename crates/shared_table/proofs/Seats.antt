-- What asking a seat leaves as it is.
use Rattle.std.proofs.Common.{◌≡◌, ◌<◌, ◌+◌, ℕ, List, [], ◌∷◌, length, inl, inr, refl, ap, ◌∙◌, sym, arith}
use Rattle.std.specs.Prelude.{All, Option, Result, Ok, Err, MatchResult}
use Rattle.std.proofs.lemmas.List.Elements.{All-get_or}
use Rattle.bit_boards.specs.declared.piece.Side.{Side}
use Rattle.board_core.specs.declared.keys.Key.{Key}
use Rattle.notes.specs.declared.words.Seen.{Seen}
use Rattle.notes.specs.declared.words.Seen.TheVariants.{New, Open, Solved, Lent}
use Rattle.table_shard.specs.Entry.{EntryView}
use Rattle.table_shard.specs.Row.{HoldsAt, IsRow, LooksBy, AsksToEnter, TellsCounts}
use Rattle.table_shard.specs.Shard.{row_of}
use Rattle.table_shard.specs.Spot.{place_of}
use Rattle.table_shard.proofs.Offered.{holds_within, place_within}
use Rattle.shared_table.specs.Seat.{RowSeatView, IsSameSeat, Loads}

same_seat : (seat : RowSeatView) → IsSameSeat seat seat
same_seat seat = record { row = refl; counts = refl; parts = refl; added = refl }

same_by : (before after : RowSeatView) → before ≡ after → IsSameSeat before after
same_by before after is = record {
  row = sym (ap (λ (s : RowSeatView). s.row) is);
  counts = sym (ap (λ (s : RowSeatView). s.seat.counts) is);
  parts = sym (ap (λ (s : RowSeatView). s.seat.view.parts) is);
  added = sym (ap (λ (s : RowSeatView). s.seat.view.added) is);
}

same_loaded : (before after : RowSeatView) (slot count : ℕ) → Loads before slot count after → IsSameSeat before after
same_loaded before after slot count loads = record {
  row = ap (λ (s : RowSeatView). s.row) loads.0;
  counts = ap (λ (s : RowSeatView). s.seat.counts) loads.0;
  parts = ap (λ (s : RowSeatView). s.seat.view.parts) loads.0;
  added = ap (λ (s : RowSeatView). s.seat.view.added) loads.0;
}

same_on : (before between after : RowSeatView) → IsSameSeat before between → IsSameSeat between after → IsSameSeat before after
same_on before between after one other = record {
  row = other.row ∙ one.row;
  counts = other.counts ∙ one.counts;
  parts = other.parts ∙ one.parts;
  added = other.added ∙ one.added;
}

same_told : (slot : ℕ) (before : RowSeatView) (counts : List ℕ) (after : RowSeatView) → TellsCounts Loads slot before counts after → IsSameSeat before after
same_told slot before [] after tells = same_by before after tells
same_told slot before (count ∷ counts) after (between, one, rest) =
    same_on before between after (same_loaded before between slot count one) (same_told (slot + 1) between counts after rest)

-- A look leaves what it has added.
pub same_looked : {E : Type 0} (to : Option Side) (row : List EntryView) (key : Key) (path : List Key) (before after : RowSeatView) (r : Result Seen E)
    → MatchResult r (λ seen. LooksBy Loads to row key path before seen after) (λ error. before ≡ after) → IsSameSeat before after
same_looked to row key path before after (Ok New) by = same_by before after by.asks
same_looked to row key path before after (Ok (Solved note)) by = same_by before after by.asks
same_looked to row key path before after (Ok (Lent note)) by = same_by before after by.asks
same_looked to row key path before after (Ok (Open numbers below)) by = same_loaded before after by.asks.0 below by.asks.2
same_looked to row key path before after (Err error) by = same_by before after by

-- So does what is asked before an entry is given up.
pub same_entered : (row : List EntryView) (key : Key) (before : RowSeatView) (counts : List ℕ) (after : RowSeatView) → AsksToEnter Loads row key before counts after → IsSameSeat before after
same_entered row key before counts after (inl (place, same)) = same_by before after same
same_entered row key before counts after (inr (none, full, long, tells)) = same_told 0 before counts after tells

-- A slot that has an entry is one of the eight.
pub slot_low : (rows : List (List EntryView)) (key : Key) (slot : ℕ) → 0 < length rows → All IsRow rows → HoldsAt (row_of rows key) slot key → slot < 8
slot_low rows key slot some all holds =
    let within = holds_within (row_of rows key) key slot holds in
    let few = (All-get_or IsRow rows (place_of key (length rows)) [] (place_within key (length rows) some) all).few in
    omega (arith, within, few)
