use Rattle.std.proofs.Common.{◌++◌, ◌∷◌, [], inl, inr, List, Contains, length, refl, sym, ap, subst, ◌∙◌}
use Rattle.std.proofs.lemmas.Option.{slice_get_read}
use Rattle.std.proofs.lemmas.List.Elements.{Contains-push_cases}
use Rattle.board_core.specs.Board.{Board}
use Rattle.board_core.specs.Kept.{IsKept}
use Rattle.cert_extract.proofs.Grown.{first_more}
use Rattle.cert_extract.proofs.known.copied_positions.Goals as goal

pub loop-position-preserved : goal.loop-position-preserved
loop-position-preserved c =
    let positions = c.args.positions.now in
    let k = c.loop-position.position-index in
    let item = c.position-item.result in
    let at = slice_get_read positions (length positions) k item refl c.loop-position-test.true c.position-item.is in
    let items = c.in_ok-push.ensures.items in (
      items ∙ (ap (λ (before : List Board). before ++ item ∷ []) c.loop-position.invariant.0 ∙ sym (first_more positions k item at)),
      λ b inside. elim (Contains-push_cases c.loop-position.copy.items item b (subst (λ (bs : List Board). Contains bs b) items inside)) [
        | inl before ↦ c.loop-position.invariant.1 b before
        | inr same ↦ subst IsKept same c.laws.ensures
      ],
    )
