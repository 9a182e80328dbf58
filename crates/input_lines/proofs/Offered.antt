-- What of lines is offered to the crates above; they cite no other lemma of this one.
pub use Rattle.input_lines.proofs.Taken.{line_more, at_beginning}
