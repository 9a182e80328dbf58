use Rattle.std.proofs.Common.{◌+◌, ◌∷◌, ℕ, List, Some, Ok, Err, length, drop, sym, subst, subst₂, arith, rules}
use Rattle.std.specs.Str.Lines.{lines}
use Rattle.std.proofs.lemmas.Iterator.Consumers.{YieldsList-turn, YieldsList-end}
use Rattle.std.proofs.lemmas.Iterator.Splits.{YieldsList-from_lines}
use Rattle.std.proofs.lemmas.Iterator.Adapters.{YieldsList-from_skip}
use Rattle.std.proofs.lemmas.List.{length_push}
use Rattle.bit_boards.specs.declared.piece.Side.{Side}
use Rattle.kif_moves.specs.declared.judge.Step.{Step}
use Rattle.kif_moves.specs.Lines.{Line, counted, numbered}
use Rattle.kif_moves.specs.Steps.{last_number, IsJudged}
use Rattle.kif_moves.proofs.Following.{LeadsOn, from_line, counted_ended, counted_done, skips, ends, fails, plays}
use Rattle.kif_moves.proofs.played.played.Goals as goal

pub returns-in_err-judge-clause-none : goal.returns-in_err-judge-clause-none
returns-in_err-judge-clause-none c =
    let all = drop c.args.head (lines c.args.text.now) in
    let p = c.args.problem.now.position in
    let b = c.loop-line.position in
    let last = last_number c.loop-line.last in
    let n = length c.loop-line.yielded in
    let t = YieldsList-turn (YieldsList-from_skip c.args.head (YieldsList-from_lines c.args.text.now cc) cc) c.loop-line.yielded _ c.loop-line.yielded_by _ _ c.in-Some.line c.in-Some.is c.next.ensures.steps in
    let line : Line = record { number = c.loop-line.number + 1; text = c.in-Some.line.now } in
    let rest = numbered (c.loop-line.number + 1 + 1) (drop (n + 1) all) in
    let leads : LeadsOn p (counted (numbered (c.args.head + 1) all)) b last (counted (line ∷ rest)) c.loop-line.moves.items
    = subst (λ (l : List Line). LeadsOn p (counted (numbered (c.args.head + 1) all)) b last (counted l) c.loop-line.moves.items)
    (from_line (c.loop-line.number + 1) n all c.in-Some.line.now t.0 t.1) c.loop-line.invariant.4 in
    let judged : IsJudged p.side b last line (Err c.in_err-judge.field-0.0)
    = subst (λ (a : Side). IsJudged a b last line (Err c.in_err-judge.field-0.0)) c.attacker-attacker.ensures c.in_err-judge.ensures in
    let there = fails p b (counted (numbered (c.args.head + 1) all)) rest last line c.loop-line.moves.items c.in_err-judge.field-0.0 judged.0 judged.1 judged.2 leads in
    search (rules, there)

pub loop-line-preserved-in-Skipped : goal.loop-line-preserved-in-Skipped
loop-line-preserved-in-Skipped c =
    let all = drop c.args.head (lines c.args.text.now) in
    let whole = counted (numbered (c.args.head + 1) all) in
    let p = c.args.problem.now.position in
    let b = c.loop-line.position in
    let last = last_number c.loop-line.last in
    let n = length c.loop-line.yielded in
    let more = length_push c.loop-line.yielded c.in-Some.line in
    let long = c.loop-line.invariant.2 in
    let t = YieldsList-turn (YieldsList-from_skip c.args.head (YieldsList-from_lines c.args.text.now cc) cc) c.loop-line.yielded _ c.loop-line.yielded_by _ _ c.in-Some.line c.in-Some.is c.next.ensures.steps in
    let line : Line = record { number = c.loop-line.number + 1; text = c.in-Some.line.now } in
    let rest = numbered (c.loop-line.number + 1 + 1) (drop (n + 1) all) in
    let leads : LeadsOn p whole b last (counted (line ∷ rest)) c.loop-line.moves.items
    = subst (λ (l : List Line). LeadsOn p whole b last (counted l) c.loop-line.moves.items)
    (from_line (c.loop-line.number + 1) n all c.in-Some.line.now t.0 t.1) c.loop-line.invariant.4 in
    let judged = subst₂ (λ (a : Side) (s : Step). IsJudged a b last line (Ok s)) c.attacker-attacker.ensures c.in-Skipped.is c.in_ok-judge.ensures in (
      c.loop-line.invariant.0,
      c.loop-line.invariant.1,
      omega (arith, more, long),
      c.loop-line.invariant.3,
      subst (λ (k : ℕ). LeadsOn p whole b last (counted (numbered (c.loop-line.number + 1 + 1) (drop k all))) c.loop-line.moves.items) (sym more)
          (skips p b whole rest last line c.loop-line.moves.items judged leads),
    )

pub returns-in-Ended-clause-moves : goal.returns-in-Ended-clause-moves
returns-in-Ended-clause-moves c =
    let all = drop c.args.head (lines c.args.text.now) in
    let whole = counted (numbered (c.args.head + 1) all) in
    let p = c.args.problem.now.position in
    let b = c.loop-line.position in
    let last = last_number c.loop-line.last in
    let n = length c.loop-line.yielded in
    let t = YieldsList-turn (YieldsList-from_skip c.args.head (YieldsList-from_lines c.args.text.now cc) cc) c.loop-line.yielded _ c.loop-line.yielded_by _ _ c.in-Some.line c.in-Some.is c.next.ensures.steps in
    let line : Line = record { number = c.loop-line.number + 1; text = c.in-Some.line.now } in
    let rest = numbered (c.loop-line.number + 1 + 1) (drop (n + 1) all) in
    let leads : LeadsOn p whole b last (counted (line ∷ rest)) c.loop-line.moves.items
    = subst (λ (l : List Line). LeadsOn p whole b last (counted l) c.loop-line.moves.items)
    (from_line (c.loop-line.number + 1) n all c.in-Some.line.now t.0 t.1) c.loop-line.invariant.4 in
    let judged = subst₂ (λ (a : Side) (s : Step). IsJudged a b last line (Ok s)) c.attacker-attacker.ensures c.in-Ended.is c.in_ok-judge.ensures in
    ends p b whole (counted (line ∷ rest)) last c.loop-line.moves.items (counted_ended line rest judged.0 judged.1) leads

pub loop-line-preserved : goal.loop-line-preserved
loop-line-preserved c =
    let all = drop c.args.head (lines c.args.text.now) in
    let whole = counted (numbered (c.args.head + 1) all) in
    let p = c.args.problem.now.position in
    let b = c.loop-line.position in
    let last = last_number c.loop-line.last in
    let n = length c.loop-line.yielded in
    let more = length_push c.loop-line.yielded c.in-Some.line in
    let long = c.loop-line.invariant.2 in
    let t = YieldsList-turn (YieldsList-from_skip c.args.head (YieldsList-from_lines c.args.text.now cc) cc) c.loop-line.yielded _ c.loop-line.yielded_by _ _ c.in-Some.line c.in-Some.is c.next.ensures.steps in
    let line : Line = record { number = c.loop-line.number + 1; text = c.in-Some.line.now } in
    let rest = numbered (c.loop-line.number + 1 + 1) (drop (n + 1) all) in
    let leads : LeadsOn p whole b last (counted (line ∷ rest)) c.loop-line.moves.items
    = subst (λ (l : List Line). LeadsOn p whole b last (counted l) c.loop-line.moves.items)
    (from_line (c.loop-line.number + 1) n all c.in-Some.line.now t.0 t.1) c.loop-line.invariant.4 in
    let judged = subst₂ (λ (a : Side) (s : Step). IsJudged a b last line (Ok s)) c.attacker-attacker.ensures c.in-Played.is c.in_ok-judge.ensures in (
      c.loop-line.invariant.0,
      c.loop-line.invariant.1,
      omega (arith, more, long),
      c.apply-position.ensures.quiet,
      subst₂ (λ (k to : ℕ). LeadsOn p whole c.apply-position.result (Some to) (counted (numbered (c.loop-line.number + 1 + 1) (drop k all))) c.push.new.self.items)
          (sym more) (sym c.goal.ensures)
          (plays p b c.apply-position.result whole rest last line c.loop-line.moves.items c.push.new.self.items c.in-Played.by judged.0 judged.1 judged.2 judged.3
          c.apply-position.ensures.position c.in_ok-push-in-Played.ensures.items leads),
    )

pub returns-clause-moves : goal.returns-clause-moves
returns-clause-moves c =
    let all = drop c.args.head (lines c.args.text.now) in
    let whole = counted (numbered (c.args.head + 1) all) in
    let p = c.args.problem.now.position in
    let n = length c.loop-line.yielded in
    let t = YieldsList-end (YieldsList-from_skip c.args.head (YieldsList-from_lines c.args.text.now cc) cc) c.loop-line.yielded _ c.loop-line.yielded_by _ _ c.in-None.is c.next.ensures.steps in
    ends p c.loop-line.position whole (counted (numbered (c.loop-line.number + 1) (drop n all))) (last_number c.loop-line.last) c.loop-line.moves.items
    (counted_done (c.loop-line.number + 1) n all t.1) c.loop-line.invariant.4
