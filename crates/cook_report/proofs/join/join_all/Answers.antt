use Rattle.std.proofs.Common.{◌++◌, List, take, Contains, arith, sym, subst, ap, ◌∙◌, ◌∷◌, []}
use Rattle.std.proofs.lemmas.List.{append-nil, take_all}
use Rattle.mate_facts.specs.declared.entry.MateEntry.{MateEntry}
use Rattle.cook_report.specs.Joining.{AreJoined}
use Rattle.cook_report.proofs.Joining.{ended, end_of, one_on, seen_with, fits_here}
use Rattle.cook_report.proofs.join.join_all.Goals as goal

pub loop-entry-init : goal.loop-entry-init
loop-entry-init c = record {
  placed = c.requires.placed;
  joined = λ p seen same joined. subst (λ (es : List MateEntry). AreJoined p c.args.limit es c.args.joined.now.entries.items) (sym (append-nil seen)) joined;
}

pub join-requires : goal.join-requires
join-requires c = record { placed = c.loop-entry.invariant.placed }

pub returns-in_err-join-clause-too_many : goal.returns-in_err-join-clause-too_many
returns-in_err-join-clause-too_many c =
    let items = c.entries-entry-items.result.now in
    let i = c.loop-entry.entry-index in
    ended _ c.from_residual.result c.in_err-join.field-0.0 c.from_residual.ensures.0 c.from_residual.ensures.1
    (λ p seen same joined.
    end_of c.args.limit ((seen ++ take i items) ++ c.entry-item.result ∷ []) (seen ++ c.args.certificate.now.entries) c.in_err-join.field-0.0
    (λ e there.
    subst (λ (es : List MateEntry). Contains (seen ++ es) e) c.entries-entry-items.ensures.entries
    (seen_with seen items i c.entry-item.result (omega arith) c.entry-item.is e there))
    (c.in_err-join.ensures.too_many p (seen ++ take i items) (c.loop-entry.invariant.joined p seen same joined)))

pub loop-entry-preserved : goal.loop-entry-preserved
loop-entry-preserved c =
    let items = c.entries-entry-items.result.now in
    let i = c.loop-entry.entry-index in
    record {
      placed = c.in_ok-join.ensures.placed;
      joined = λ p seen same joined.
          subst (λ (es : List MateEntry). AreJoined p c.args.limit es c.join.new.joined.entries.items)
          (one_on seen items i c.entry-item.result (omega arith) c.entry-item.is)
          (c.in_ok-join.ensures.joined p (seen ++ take i items)
          (fits_here c.args.certificate.now p c.entry-item.result c.entries-entry-items.ensures.kept
          (subst (λ (es : List MateEntry). Contains es c.entry-item.result) c.entries-entry-items.ensures.entries (i, omega arith, sym c.entry-item.is)) same)
          (c.loop-entry.invariant.joined p seen same joined));
    }

pub returns-clause-placed : goal.returns-clause-placed
returns-clause-placed c = c.loop-entry.invariant.placed

pub returns-clause-joined : goal.returns-clause-joined
returns-clause-joined c p seen same joined =
    let items = c.entries-entry-items.result.now in
    let i = c.loop-entry.entry-index in
    subst (λ (es : List MateEntry). AreJoined p c.args.limit es c.loop-entry.joined.entries.items)
    (ap (λ (es : List MateEntry). seen ++ es) (take_all i items (omega arith)) ∙ ap (λ (es : List MateEntry). seen ++ es) c.entries-entry-items.ensures.entries)
    (c.loop-entry.invariant.joined p seen same joined)
