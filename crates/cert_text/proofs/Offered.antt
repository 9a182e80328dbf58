-- What of texts made of lines is offered to the crates above; they cite no other lemma of this one.
pub use Rattle.cert_text.proofs.Cuts.{all_push, cut_same, not_lacks, lacks_both, lacks_by, digits_lack, decimal_lacks, sfen_lacks}
pub use Rattle.cert_text.proofs.Entries.{line_same, rank_small}
pub use Rattle.cert_text.proofs.Bodies.{read_none, read_on, written_more, all_take_more}
pub use Rattle.cert_text.proofs.Again.{IsEntryLine, AreTold, spaced_no_end, rank_apart, line_cut, one_entry, no_entry_at_end, rising_next, lacks_stops, bad_stops, fall_stops}
pub use Rattle.cert_text.proofs.Readable.{all_fit}
pub use Rattle.cert_text.proofs.UpToEnd.{same_cut, ends_at_end}
pub use Rattle.cert_text.proofs.Fronts.{found_rest, rest_found, first_line_is, as_line}
