use Rattle.std.proofs.Common.{refl, ap, ◌∙◌}
use Rattle.board_core.specs.Key.{key_of}
use Rattle.table_shard.proofs.Known.{takes_note, never_unkept}
use Rattle.table_shard.proofs.shard.Shard.take.Goals as goal

pub returns-in-Slot : goal.returns-in-Slot
returns-in-Slot c =
    takes_note c.args.self.now c.args.note c.key-key.result c.in-Slot.slot _ _ c.enter-kept.new.self c.leave_held.new.self
    (c.key-key.ensures.words ∙ ap key_of c.position.ensures) refl c.in-Slot.ensures.entered c.leave_held.ensures.left

pub returns-in-Unkept : goal.returns-in-Unkept
returns-in-Unkept c = never_unkept c.args.self.now c.key-key.result _ _ c.enter-kept.new.self refl c.in-Unkept.ensures.entered
