use Rattle.std.proofs.Common.{◌≡◌, length, refl, arith}
use Rattle.std.proofs.lemmas.Option.{slice_get_read}
use Rattle.mate_facts.specs.declared.entry.MateEntry.{MateEntry}
use Rattle.list_laws.proofs.Standing.{at_place, contained, more}
use Rattle.cmd_bound.proofs.judging.lists_with.Goals as goal

pub returns-then-is_with : goal.returns-then-is_with
returns-then-is_with c =
    let is = c.is_with.ensures.0 c.if-is_with.true in
    let stands = slice_get_read c.args.entries.now (length c.args.entries.now) c.loop-entry.entry-index c.entry-item.result refl (omega arith) c.entry-item.is in (
      (λ _. record {
        entry = c.entry-item.result;
        listed = contained c.args.entries.now c.loop-entry.entry-index c.entry-item.result stands;
        same = is.0;
        has_rank = is.1;
      }),
      (λ _. refl),
    )

pub loop-entry-preserved : goal.loop-entry-preserved
loop-entry-preserved c =
    more (λ (e : MateEntry). (e.at ≡ c.args.position.now) × (e.rank.number ≡ c.args.rank.number) → ⊥) c.args.entries.now c.loop-entry.entry-index c.entry-item.result
    (slice_get_read c.args.entries.now (length c.args.entries.now) c.loop-entry.entry-index c.entry-item.result refl (omega arith) c.entry-item.is)
    (λ is. let yes = c.is_with.ensures.1 is in cc) c.loop-entry.invariant

pub returns : goal.returns
returns c = (
  (λ e. absurd (cc)),
  (λ listed. absurd (c.loop-entry.invariant listed.listed.0 listed.entry (let within = listed.listed.1 in omega (arith, within))
      (at_place c.args.entries.now listed.entry listed.listed) (listed.same, listed.has_rank))),
)
