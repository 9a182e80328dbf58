pub mod Builds
pub mod Ends
pub mod NoHelp
pub mod Rows
pub mod Taken
pub mod Texts
pub mod Offered
