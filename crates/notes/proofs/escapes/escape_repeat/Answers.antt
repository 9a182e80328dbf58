use Rattle.std.proofs.Common.{◌∷◌, [], refl, ◌∙◌}
use Rattle.board_core.specs.Kept.{IsKept}
use Rattle.board_core.proofs.KeyExact.{key_exact}
use Rattle.shogi_rules.specs.Rules.{after}
use Rattle.shogi_rules.proofs.Offered.{kept_after}
use Rattle.notes.specs.declared.rule.Rule.TheVariants.{EscapeRepeat}
use Rattle.notes.proofs.Meeting.{met_as}
use Rattle.notes.proofs.escapes.escape_repeat.Goals as goal

pub made-requires-clause-rule : goal.made-requires-clause-rule
made-requires-clause-rule c =
    let b = c.args.position.now in
    let reached : IsKept (after b c.args.evasion) = kept_after b c.args.evasion c.laws.ensures c.requires.evasion.legal in
    met_as (EscapeRepeat c.args.evasion) c.args.problem.now.position.side _ b (c.args.key ∷ []) _ 1 [] _ c.attacker.ensures c.in_ok-tag.ensures c.new.ensures.items (
      c.requires.evasion,
      refl,
      record {
        kept = reached;
        key = c.args.key;
        alone = refl;
        is_key = c.requires.key;
        of_no_other = λ q kept same. key_exact q (after b c.args.evasion) kept reached (same ∙ c.requires.key);
      },
    )
