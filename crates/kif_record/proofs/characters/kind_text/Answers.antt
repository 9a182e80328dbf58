use Rattle.std.proofs.Common.{refl, rules}
use Rattle.kif_record.proofs.characters.kind_text.Goals as goal

pub returns-in-Pawn : goal.returns-in-Pawn
unfolding lib.Utf8.encode
returns-in-Pawn c = rw c.in-Pawn.is refl

pub returns-in-Lance : goal.returns-in-Lance
unfolding lib.Utf8.encode
returns-in-Lance c = rw c.in-Lance.is refl

pub returns-in-Knight : goal.returns-in-Knight
unfolding lib.Utf8.encode
returns-in-Knight c = rw c.in-Knight.is refl

pub returns-in-Silver : goal.returns-in-Silver
unfolding lib.Utf8.encode
returns-in-Silver c = rw c.in-Silver.is refl

pub returns-in-Gold : goal.returns-in-Gold
unfolding lib.Utf8.encode
returns-in-Gold c = rw c.in-Gold.is refl

pub returns-in-Bishop : goal.returns-in-Bishop
unfolding lib.Utf8.encode
returns-in-Bishop c = rw c.in-Bishop.is refl

pub returns-in-Rook : goal.returns-in-Rook
unfolding lib.Utf8.encode
returns-in-Rook c = rw c.in-Rook.is refl

pub returns-in-King : goal.returns-in-King
unfolding lib.Utf8.encode
returns-in-King c = rw c.in-King.is refl
