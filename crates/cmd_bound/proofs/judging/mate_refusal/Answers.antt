use Rattle.std.proofs.Common.{ℕ, List, subst}
use Rattle.board_core.specs.Board.{Board}
use Rattle.mate_def.specs.Mate.{RankAtMost}
use Rattle.mate_facts.specs.declared.entry.MateEntry.{MateEntry}
use Rattle.mate_facts.specs.Entries.{IsListedWith}
use Rattle.cmd_bound.proofs.judging.mate_refusal.Goals as goal

pub returns-then-listed : goal.returns-then-listed
returns-then-listed g c =
    let p : Board = c.args.problem.now.position in
    let ranked = subst (λ (es : List MateEntry). IsListedWith es c.args.rank.number p) c.entries.ensures.entries (c.lists_with-listed.ensures.0 c.if-listed.true) in
    let mate = (c.in_ok-entry.ensures.shows c.in-Accepted.is).ranks ranked.entry ranked.listed in (
      record { valid = c.in_ok-entry.ensures.accepted.0 c.in-Accepted.is; ranked = ranked },
      subst (λ (n : ℕ). RankAtMost p.side n p) ranked.has_rank
          (subst (λ (at : Board). RankAtMost p.side ranked.entry.rank.number at) ranked.same mate),
    )
