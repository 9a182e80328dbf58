-- Collections of problems: their lines.
pub mod Lines
pub mod Written
