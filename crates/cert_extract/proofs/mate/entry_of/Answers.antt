use Rattle.std.proofs.Common.{◌∙◌}
use Rattle.cert_extract.proofs.Rules.{by_check}
use Rattle.cert_extract.proofs.mate.entry_of.Goals as goal

pub unreachable-requires : goal.unreachable-requires
unreachable-requires c =
    let by = by_check c.args.note.now c.laws.ensures.valid c.requires.own c.requires.no_leaf c.requires.mate c.requires.turn in
    c.in_default.not-MateBy by.0 (c.rule.ensures ∙ by.1)
