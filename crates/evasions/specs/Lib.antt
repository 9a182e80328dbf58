-- What the list of evasions is made of. The tsume rule: the defender may make any legal move.
pub mod Before
