pub mod Among
pub mod Cutting
pub mod Few
pub mod Lacking
pub mod Listed
pub mod Remarks
pub mod Written
