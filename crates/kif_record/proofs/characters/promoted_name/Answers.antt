use Rattle.std.proofs.Common.{refl, rules}
use Rattle.kif_record.proofs.characters.promoted_name.Goals as goal

pub returns-in-Lance : goal.returns-in-Lance
unfolding lib.Utf8.encode
returns-in-Lance c = rw c.in-Lance.is refl

pub returns-in-Knight : goal.returns-in-Knight
unfolding lib.Utf8.encode
returns-in-Knight c = rw c.in-Knight.is refl

pub returns-in-Silver : goal.returns-in-Silver
unfolding lib.Utf8.encode
returns-in-Silver c = rw c.in-Silver.is refl
