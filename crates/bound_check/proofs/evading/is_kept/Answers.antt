use Rattle.std.proofs.Common.{refl, arith, sym, subst}
use Rattle.std.proofs.lemmas.Option.{slice_get_read}
use Rattle.std.proofs.Common.{length}
use Rattle.board_core.specs.Board.{Board}
use Rattle.board_core.specs.declared.moves.Move.{Move}
use Rattle.shogi_rules.specs.Rules.{after}
use Rattle.shogi_rules.specs.Tsume.{IsEvasion}
use Rattle.list_laws.proofs.Standing.{more}
use Rattle.bound_check.specs.Valid.{Keeps}
use Rattle.bound_check.proofs.Kept.{held_at, evaded, none_evades}
use Rattle.bound_check.proofs.evading.is_kept.Goals as goal

pub apply-next-requires-clause-legal : goal.apply-next-requires-clause-legal
apply-next-requires-clause-legal c =
    (held_at (IsEvasion c.args.problem.now.position.side c.apply-checked.result) c.as_slice-evasion-items.result.now _ c.in_ok-answers_into.ensures
    c.as_slice-evasion-items.ensures.moves c.loop-evasion.evasion-index c.evasion-item.result (omega arith) c.evasion-item.is).legal

pub returns-then-keeps : goal.returns-then-keeps
returns-then-keeps c = (
  (λ _. evaded c.args.problem.now.position.side (Keeps c.args.entries.now c.args.entry.now.bound.number) c.args.entry.now.at c.apply-checked.result
      c.apply-next.result c.args.check c.evasion-item.result c.apply-checked.ensures.position c.apply-next.ensures.position
      (held_at (IsEvasion c.args.problem.now.position.side c.apply-checked.result) c.as_slice-evasion-items.result.now _ c.in_ok-answers_into.ensures
      c.as_slice-evasion-items.ensures.moves c.loop-evasion.evasion-index c.evasion-item.result (omega arith) c.evasion-item.is)
      (c.keeps.ensures.0 c.if-keeps.true)),
  (λ _. refl),
)

pub loop-evasion-preserved : goal.loop-evasion-preserved
loop-evasion-preserved c =
    more (λ (a : Move). ¬ Keeps c.args.entries.now c.args.entry.now.bound.number (after c.apply-checked.result a)) c.as_slice-evasion-items.result.now
    c.loop-evasion.evasion-index c.evasion-item.result
    (slice_get_read c.as_slice-evasion-items.result.now (length c.as_slice-evasion-items.result.now) c.loop-evasion.evasion-index c.evasion-item.result refl (omega arith) c.evasion-item.is)
    (λ kept. let e = c.keeps.ensures.1 (subst (λ (b : Board). Keeps c.args.entries.now c.args.entry.now.bound.number b) (sym c.apply-next.ensures.position) kept) in cc)
    c.loop-evasion.invariant

pub returns : goal.returns
returns c = (
  (λ e. absurd (cc)),
  (λ into. absurd (none_evades c.args.problem.now.position.side (Keeps c.args.entries.now c.args.entry.now.bound.number) c.args.entry.now.at c.apply-checked.result
      c.args.check c.as_slice-evasion-items.result.now _ c.loop-evasion.evasion-index c.apply-checked.ensures.position c.in_ok-answers_into.ensures
      c.as_slice-evasion-items.ensures.moves (omega arith) c.loop-evasion.invariant into)),
)
