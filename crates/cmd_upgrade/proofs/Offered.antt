-- What of `upgrade` is offered to the crates above; they cite no other lemma of this one.
pub use Rattle.cmd_upgrade.proofs.Taken.{upgrade_is_given}
