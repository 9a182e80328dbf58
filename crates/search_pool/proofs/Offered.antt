-- What is offered to the crates above; they cite no other lemma of this one.
pub use Rattle.search_pool.proofs.Winding.{winds_stopped, stays_winding, not_polling, ends_so, said_on, said_now}
pub use Rattle.search_pool.proofs.Way.{polls_push}
pub use Rattle.search_pool.proofs.Watching.{leads_by, as_it_is, stays_by}
-- may cross threads
pub use Rattle.search_pool.proofs.Sent.{crew_send, table_send}
