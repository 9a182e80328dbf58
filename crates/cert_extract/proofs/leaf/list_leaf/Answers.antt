use Rattle.std.proofs.Common.{◌+◌, List, inl, length, refl, ap, subst, sym}
use Rattle.std.proofs.lemmas.List.{take_all}
use Rattle.std.proofs.lemmas.Option.{slice_get_read}
use Rattle.list_laws.proofs.Standing.{contained}
use Rattle.mate_facts.specs.declared.entry.MateEntry.{MateEntry}
use Rattle.position_places.specs.declared.places.Places.{Places}
use Rattle.cert_extract.specs.Listing.{IsEndInLeaf, IsLowerThanListed}
use Rattle.cert_extract.proofs.Grown.{IsListingLeaf, ended, isnt, leaf_begun, leaf_end, leaf_grown, leaf_listed, leaf_skipped}
use Rattle.cert_extract.proofs.leaf.list_leaf.Goals as goal
use Rattle.cert_extract.proofs.leaf.list_leaf.Goals.{then-is_wanted+in_ok-list_entry, else-is_wanted}

pub loop-entry-init : goal.loop-entry-init
loop-entry-init c =
    leaf_begun c.args.set.now c.args.position.now c.args.rank c.args.most c.args.entries.now.items c.args.places.now c.requires.places c.requires.few
    (subst (λ (es : List MateEntry). IsLowerThanListed es c.args.position.now c.args.rank) c.deref.ensures.value
    (c.stands_below.ensures.lower (isnt c.stands_below.result c.if-stands_below.false)))

pub loop-entry-preserved : goal.loop-entry-preserved
loop-entry-preserved c =
    let set = c.args.set.now in
    let b = c.args.position.now in
    let old = c.args.entries.now.items in
    let k = c.loop-entry.entry-index in
    let at = slice_get_read set (length set) k c.entry-item.result refl c.loop-entry-test.true c.entry-item.is in
    elim c.if-is_wanted.branch [
      | then-is_wanted+in_ok-list_entry w ↦
          subst (λ (found : Places). IsListingLeaf set b c.args.rank c.args.most old (k + 1) found c.if-is_wanted.entries.items) (sym w.places-is)
          (subst (λ (es : List MateEntry). IsListingLeaf set b c.args.rank c.args.most old (k + 1) w.list_entry.new.places es) (sym (ap (λ v. v.items) w.entries-is))
          (leaf_grown set b c.args.rank c.args.most old k c.loop-entry.places w.list_entry.new.places c.loop-entry.entries.items w.list_entry.new.entries.items
          c.entry-item.result at c.loop-entry.invariant w.in_ok-list_entry.field-0
          (record { inside = contained set k c.entry-item.result at; low = c.is_wanted.ensures.0 w.if-is_wanted.true })
          w.in_ok-list_entry.ensures.places w.in_ok-list_entry.ensures.few w.in_ok-list_entry.ensures.listed))
      | else-is_wanted w ↦
          subst (λ (found : Places). IsListingLeaf set b c.args.rank c.args.most old (k + 1) found c.if-is_wanted.entries.items) (sym w.places-is)
          (subst (λ (es : List MateEntry). IsListingLeaf set b c.args.rank c.args.most old (k + 1) c.loop-entry.places es) (sym (ap (λ v. v.items) w.entries-is))
          (leaf_skipped set b c.args.rank c.args.most old k c.loop-entry.places c.loop-entry.places c.loop-entry.entries.items c.loop-entry.entries.items
          c.entry-item.result at c.loop-entry.invariant
          (λ wanted. isnt c.is_wanted.result w.if-is_wanted.false (c.is_wanted.ensures.1 wanted.low))))
    ]

pub returns-in_err-list_entry-clause-too_many : goal.returns-in_err-list_entry-clause-too_many
returns-in_err-list_entry-clause-too_many c =
    let set = c.args.set.now in
    let k = c.loop-entry.entry-index in
    let at = slice_get_read set (length set) k c.entry-item.result refl c.loop-entry-test.true c.entry-item.is in
    ended (IsEndInLeaf c.args.most set c.args.position.now c.args.rank c.args.entries.now.items) c.from_residual.result c.in_err-list_entry.field-0.0
    c.from_residual.ensures
    (leaf_end set c.args.position.now c.args.rank c.args.most c.args.entries.now.items k c.loop-entry.places c.loop-entry.places c.loop-entry.entries.items
    c.loop-entry.entries.items c.entry-item.result at c.loop-entry.invariant c.in_err-list_entry.field-0.0
    (record { inside = contained set k c.entry-item.result at; low = c.is_wanted.ensures.0 c.if-is_wanted.true }) c.in_err-list_entry.ensures.too_many)

pub returns-clause-met : goal.returns-clause-met
returns-clause-met c =
    let set = c.args.set.now in
    let k = c.loop-entry.entry-index in
    inl (leaf_listed set c.args.position.now c.args.rank c.args.most c.args.entries.now.items k c.loop-entry.places c.loop-entry.entries.items
    (take_all k set c.loop-entry-test.false) c.loop-entry.invariant)
