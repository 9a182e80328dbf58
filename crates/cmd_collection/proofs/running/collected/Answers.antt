use Rattle.std.proofs.Common.{ℕ, List, ap, sym, subst}
use Rattle.tsume_io.specs.Sink.{GrewBy, GrewByPrefix}
use Rattle.problem_lines.specs.Lines.{problem_lines, seen}
use Rattle.one_run.specs.declared.ended.Ended.{Ended}
use Rattle.one_run.specs.declared.ended.Ended.TheVariants.{Failed}
use Rattle.one_run.specs.declared.ended.Fault.TheVariants.{NoMemory}
use Rattle.one_run.specs.Outside.{shown}
use Rattle.one_run.specs.Run.{IsCounted}
use Rattle.one_run.specs.Serial.{AreSoFar, IsSerialEnd}
use Rattle.one_run.proofs.Offered.{so_far_counted, so_far_cut, so_far_none, so_far_wanted, so_far_whole}
use Rattle.cmd_collection.specs.declared.asked.NoFault.{NoFault}
use Rattle.cmd_collection.specs.declared.counts.Counts.{Counts}
use Rattle.cmd_collection.specs.Asked.{collect_in}
use Rattle.cmd_collection.specs.Counts.{counts_text}
use Rattle.cmd_collection.specs.Meaning.{collection_meaning}
use Rattle.cmd_collection.specs.ReportsView.{ReportsView}
use Rattle.cmd_collection.proofs.Following.{next_is, none_is, told_by, so_far_next}
use Rattle.cmd_collection.proofs.running.collected.Goals as goal

pub loop-next-init : goal.loop-next-init
loop-next-init g c =
    let asked = collect_in c.args.asked.now in
    let all = problem_lines asked.form.first c.args.input.now in
    let sink = shown g.K.Sink.kept g.K.Sink.faults c.args.sink.now c.args.sink.now in (
      subst (λ (r : ReportsView). AreSoFar (collection_meaning asked) all r.lines sink c.none-counts.result) (sym c.in-Ok.ensures)
          (so_far_none (collection_meaning asked) all (g.K.Sink.kept c.args.sink.now) (g.K.Sink.faults c.args.sink.now) c.none-counts.result c.none-counts.ensures.counts),
      ap (λ (r : ReportsView). r.settings) c.in-Ok.ensures,
      ap (λ (r : ReportsView). r.form) c.in-Ok.ensures,
    )

pub returns-in_default-next-clause-ended : goal.returns-in_default-next-clause-ended
returns-in_default-next-clause-ended g c = λ source read.
    let asked = collect_in c.args.asked.now in
    let sink = shown g.K.Sink.kept g.K.Sink.faults c.args.sink.now c.loop-next.sink in
    subst (λ (i : List ℕ). IsSerialEnd (collection_meaning asked) source sink (Failed NoMemory i)) (sym c.none-in_default-next.ensures)
    (so_far_wanted (collection_meaning asked) c.args.input.now source c.loop-next.reports.lines sink c.loop-next.counts read c.loop-next.invariant.0)

pub returns-in_default-line_text-clause-ended : goal.returns-in_default-line_text-clause-ended
returns-in_default-line_text-clause-ended g c = λ source read.
    let asked = collect_in c.args.asked.now in
    let sink = shown g.K.Sink.kept g.K.Sink.faults c.args.sink.now c.loop-next.sink in
    subst (λ (i : List ℕ). IsSerialEnd (collection_meaning asked) source sink (Failed NoMemory i)) (sym c.none-in_default-line_text.ensures)
    (so_far_wanted (collection_meaning asked) c.args.input.now source c.loop-next.reports.lines sink c.loop-next.counts read c.loop-next.invariant.0)

pub returns-in_default-next-2-clause-ended : goal.returns-in_default-next-2-clause-ended
returns-in_default-next-2-clause-ended g c = λ source read.
    let asked = collect_in c.args.asked.now in
    let sink = shown g.K.Sink.kept g.K.Sink.faults c.args.sink.now c.write.new.sink in
    subst (λ (e : Ended Counts NoFault). IsSerialEnd (collection_meaning asked) source sink e) (sym c.ended.ensures)
    (so_far_whole (collection_meaning asked) c.args.input.now source c.loop-next.reports.lines (g.K.Sink.kept c.args.sink.now) (g.K.Sink.kept c.loop-next.sink) (g.K.Sink.kept c.write.new.sink)
    (g.K.Sink.faults c.args.sink.now) (g.K.Sink.faults c.loop-next.sink) (g.K.Sink.faults c.write.new.sink)
    c.loop-next.counts c.write.result read c.loop-next.invariant.0
    (none_is c.in-Ok-next.next c.loop-next.reports c.next.new.self c.in_default-next-2.is c.in-Ok-next.ensures)
    (c.write.ensures (counts_text c.loop-next.counts) c.counts_text-text.ensures))

pub returns-in_default-next-2-clause-counted : goal.returns-in_default-next-2-clause-counted
returns-in_default-next-2-clause-counted g c = λ source sound.
    let sink = shown g.K.Sink.kept g.K.Sink.faults c.args.sink.now c.write.new.sink in
    subst (λ (e : Ended Counts NoFault). IsCounted source sink e) (sym c.ended.ensures)
    (so_far_counted NoFault source (g.K.Sink.kept c.args.sink.now) (g.K.Sink.kept c.loop-next.sink) (g.K.Sink.kept c.write.new.sink)
    (g.K.Sink.faults c.args.sink.now) (g.K.Sink.faults c.loop-next.sink) (g.K.Sink.faults c.write.new.sink) (counts_text c.loop-next.counts) c.loop-next.counts c.write.result sound
    c.loop-next.invariant.0.kept (c.write.ensures (counts_text c.loop-next.counts) c.counts_text-text.ensures))

pub returns-in_default-write_all-clause-ended : goal.returns-in_default-write_all-clause-ended
returns-in_default-write_all-clause-ended g c = λ source read.
    let asked = collect_in c.args.asked.now in
    let now = g.K.Sink.kept c.loop-next.sink in
    let then = g.K.Sink.kept c.write_all.new.sink in
    let next = next_is c.in-Ok-next.next c.in-Some.reported c.loop-next.reports c.next.new.self c.in-Some.is c.in-Ok-next.ensures in
    so_far_cut (collection_meaning asked) c.args.input.now source c.loop-next.reports.lines c.next.new.self.lines (seen c.in-Some.reported.line) (g.K.Sink.kept c.args.sink.now) now then
    (g.K.Sink.faults c.args.sink.now) (g.K.Sink.faults c.loop-next.sink) (g.K.Sink.faults c.write_all.new.sink)
    c.loop-next.counts c.line_text.new.counts c.in-Ok-line_text.text.items read c.loop-next.invariant.0 next.first
    (c.in-Ok-line_text.ensures (told_by asked c.loop-next.reports c.next.new.self _ _ next c.loop-next.invariant.1 c.loop-next.invariant.2))
    (subst (GrewByPrefix now then) c.deref.ensures.value c.in_default-write_all.ensures.prefix) c.in_default-write_all.ensures.fault

pub loop-next-preserved-in-Ok-write_all : goal.loop-next-preserved-in-Ok-write_all
loop-next-preserved-in-Ok-write_all g c =
    let asked = collect_in c.args.asked.now in
    let now = g.K.Sink.kept c.loop-next.sink in
    let then = g.K.Sink.kept c.write_all.new.sink in
    let next = next_is c.in-Ok-next.next c.in-Some.reported c.loop-next.reports c.next.new.self c.in-Some.is c.in-Ok-next.ensures in
    so_far_next asked (problem_lines asked.form.first c.args.input.now) c.loop-next.reports c.next.new.self (seen c.in-Some.reported.line) c.in-Some.reported.report (g.K.Sink.kept c.args.sink.now) now then
    (g.K.Sink.faults c.args.sink.now) (g.K.Sink.faults c.loop-next.sink) (g.K.Sink.faults c.write_all.new.sink)
    c.loop-next.counts c.line_text.new.counts c.in-Ok-line_text.text.items c.loop-next.invariant.0 c.loop-next.invariant.1 c.loop-next.invariant.2 next
    (c.in-Ok-line_text.ensures (told_by asked c.loop-next.reports c.next.new.self _ _ next c.loop-next.invariant.1 c.loop-next.invariant.2))
    (subst (GrewBy now then) c.deref.ensures.value c.in-Ok-write_all.ensures.whole) c.in-Ok-write_all.ensures.counted

pub loop-next-preserved-in-Ok-write_all-2 : goal.loop-next-preserved-in-Ok-write_all-2
loop-next-preserved-in-Ok-write_all-2 g c =
    let asked = collect_in c.args.asked.now in
    let now = g.K.Sink.kept c.loop-next.sink in
    let then = g.K.Sink.kept c.write_all.new.sink in
    let next = next_is c.in-Ok-next.next c.in-Some.reported c.loop-next.reports c.next.new.self c.in-Some.is c.in-Ok-next.ensures in
    so_far_next asked (problem_lines asked.form.first c.args.input.now) c.loop-next.reports c.next.new.self (seen c.in-Some.reported.line) c.in-Some.reported.report (g.K.Sink.kept c.args.sink.now) now then
    (g.K.Sink.faults c.args.sink.now) (g.K.Sink.faults c.loop-next.sink) (g.K.Sink.faults c.write_all.new.sink)
    c.loop-next.counts c.line_text.new.counts c.in-Ok-line_text.text.items c.loop-next.invariant.0 c.loop-next.invariant.1 c.loop-next.invariant.2 next
    (c.in-Ok-line_text.ensures (told_by asked c.loop-next.reports c.next.new.self _ _ next c.loop-next.invariant.1 c.loop-next.invariant.2))
    (subst (GrewBy now then) c.deref.ensures.value c.in-Ok-write_all.ensures.whole) c.in-Ok-write_all.ensures.counted

pub loop-next-preserved-in-Ok-write_all-3 : goal.loop-next-preserved-in-Ok-write_all-3
loop-next-preserved-in-Ok-write_all-3 g c =
    let asked = collect_in c.args.asked.now in
    let now = g.K.Sink.kept c.loop-next.sink in
    let then = g.K.Sink.kept c.write_all.new.sink in
    let next = next_is c.in-Ok-next.next c.in-Some.reported c.loop-next.reports c.next.new.self c.in-Some.is c.in-Ok-next.ensures in
    so_far_next asked (problem_lines asked.form.first c.args.input.now) c.loop-next.reports c.next.new.self (seen c.in-Some.reported.line) c.in-Some.reported.report (g.K.Sink.kept c.args.sink.now) now then
    (g.K.Sink.faults c.args.sink.now) (g.K.Sink.faults c.loop-next.sink) (g.K.Sink.faults c.write_all.new.sink)
    c.loop-next.counts c.line_text.new.counts c.in-Ok-line_text.text.items c.loop-next.invariant.0 c.loop-next.invariant.1 c.loop-next.invariant.2 next
    (c.in-Ok-line_text.ensures (told_by asked c.loop-next.reports c.next.new.self _ _ next c.loop-next.invariant.1 c.loop-next.invariant.2))
    (subst (GrewBy now then) c.deref.ensures.value c.in-Ok-write_all.ensures.whole) c.in-Ok-write_all.ensures.counted

pub loop-next-preserved : goal.loop-next-preserved
loop-next-preserved g c =
    let asked = collect_in c.args.asked.now in
    let now = g.K.Sink.kept c.loop-next.sink in
    let then = g.K.Sink.kept c.write_all.new.sink in
    let next = next_is c.in-Ok-next.next c.in-Some.reported c.loop-next.reports c.next.new.self c.in-Some.is c.in-Ok-next.ensures in
    so_far_next asked (problem_lines asked.form.first c.args.input.now) c.loop-next.reports c.next.new.self (seen c.in-Some.reported.line) c.in-Some.reported.report (g.K.Sink.kept c.args.sink.now) now then
    (g.K.Sink.faults c.args.sink.now) (g.K.Sink.faults c.loop-next.sink) (g.K.Sink.faults c.write_all.new.sink)
    c.loop-next.counts c.line_text.new.counts c.in-Ok-line_text.text.items c.loop-next.invariant.0 c.loop-next.invariant.1 c.loop-next.invariant.2 next
    (c.in-Ok-line_text.ensures (told_by asked c.loop-next.reports c.next.new.self _ _ next c.loop-next.invariant.1 c.loop-next.invariant.2))
    (subst (GrewBy now then) c.deref.ensures.value c.in-Ok-write_all.ensures.whole) c.in-Ok-write_all.ensures.counted
