use Rattle.std.proofs.Common.{◌+◌, List, length, map, take, ap, sym, refl, subst, ◌∙◌}
use Rattle.std.specs.Option.{option_map}
use Rattle.std.proofs.lemmas.Option.{slice_get_read, slice_get-map}
use Rattle.board_core.specs.Board.{Board}
use Rattle.mate_facts.specs.Entries.{AreApart}
use Rattle.position_places.specs.Places.{IsWith}
use Rattle.cert_check.proofs.Listing.{with_next}
use Rattle.cert_check.proofs.places.cover_places_of.Goals as goal

pub loop-entry-preserved : goal.loop-entry-preserved
loop-entry-preserved g c =
    let at = (g.E.Entry.form c.args.certificate.now.problem).at in
    let entries = c.entries-entry-items.result.now in
    let i = c.loop-entry.entry-index in
    let here = slice_get_read entries (length entries) i c.entry-item.result refl c.loop-entry-test.true c.entry-item.is in
    let apart = subst (λ (es : List _). AreApart (map at es)) (sym c.entries-entry-items.ensures.entries) c.entries-entry-items.ensures.apart in (
      c.in_ok-add.ensures.version ∙ c.loop-entry.invariant.0,
      c.in_ok-add.ensures.added (take i (map at entries)) (take (i + 1) (map at entries)) c.loop-entry.invariant.1
          (subst (λ (b : Board). IsWith (take i (map at entries)) b (take (i + 1) (map at entries))) (sym (c.position.ensures c.args.certificate.now.problem))
          (with_next (map at entries) i (at c.entry-item.result) apart (slice_get-map at entries i ∙ ap (option_map at) here))),
    )
