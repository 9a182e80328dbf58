-- What a cook report stands on: searches, and what each line tells by them.
pub mod Search
pub mod Found
pub mod Inside
