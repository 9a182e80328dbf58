-- What is shown to a user.
pub mod Shown
