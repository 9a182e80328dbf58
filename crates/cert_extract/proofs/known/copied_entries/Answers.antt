use Rattle.std.proofs.Common.{◌++◌, ◌∷◌, [], inl, inr, List, Contains, length, refl, sym, ap, subst, ◌∙◌}
use Rattle.std.proofs.lemmas.Option.{slice_get_read}
use Rattle.std.proofs.lemmas.List.Elements.{Contains-push_cases}
use Rattle.board_core.specs.Kept.{IsKept}
use Rattle.mate_facts.specs.declared.entry.MateEntry.{MateEntry}
use Rattle.cert_extract.proofs.Grown.{first_more}
use Rattle.cert_extract.proofs.known.copied_entries.Goals as goal

pub loop-entry-preserved : goal.loop-entry-preserved
loop-entry-preserved c =
    let entries = c.args.entries.now in
    let k = c.loop-entry.entry-index in
    let item = c.entry-item.result in
    let at = slice_get_read entries (length entries) k item refl c.loop-entry-test.true c.entry-item.is in
    let items = c.in_ok-push.ensures.items in (
      items ∙ (ap (λ (before : List MateEntry). before ++ item ∷ []) c.loop-entry.invariant.0 ∙ sym (first_more entries k item at)),
      λ entry inside. elim (Contains-push_cases c.loop-entry.copy.items item entry (subst (λ (es : List MateEntry). Contains es entry) items inside)) [
        | inl before ↦ c.loop-entry.invariant.1 entry before
        | inr same ↦ subst (λ (e : MateEntry). IsKept e.at) same c.laws.ensures
      ],
    )
