-- What serves the list of checks alone. The tsume rule: each move of the attacker is a check.
pub mod Aim
pub mod Before
