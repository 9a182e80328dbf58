-- What of stops that are polled again and again is offered to the crates above; they cite no other
-- lemma of this one.
pub use Rattle.cook_search.proofs.Polled.{all_polled, all_polled_again, stops_stay}
