use Rattle.std.proofs.Common.{◌≡◌, ◌<◌, ◌+◌, ◌*◌, ℕ, zero, suc, [], ◌∷◌, slice_index_or, arith, ap, sym, refl, ◌∙◌}
use Rattle.bit_boards.specs.declared.piece.Kind.{Kind}
use Rattle.bit_boards.specs.declared.piece.Kind.TheVariants.{Pawn, Lance, Knight, Silver, Gold, Bishop, Rook, King}
use Rattle.bit_boards.specs.Kind.{place_of}
use Rattle.list_laws.proofs.MoveLists.{lists_whole, at_order}
use Rattle.shogi_rules.proofs.trial.wanted_moves.Goals as goal

-- the kinds in their order stand at their places
placed : (d : Kind) (i : ℕ) → i < 8 → place_of (slice_index_or (Pawn ∷ Lance ∷ Knight ∷ Silver ∷ Gold ∷ Bishop ∷ Rook ∷ King ∷ []) i d) ≡ i
placed d zero h = refl
placed d (suc zero) h = refl
placed d (suc (suc zero)) h = refl
placed d (suc (suc (suc zero))) h = refl
placed d (suc (suc (suc (suc zero)))) h = refl
placed d (suc (suc (suc (suc (suc zero))))) h = refl
placed d (suc (suc (suc (suc (suc (suc zero)))))) h = refl
placed d (suc (suc (suc (suc (suc (suc (suc zero))))))) h = refl
placed d (suc (suc (suc (suc (suc (suc (suc (suc n)))))))) h = absurd (omega arith)

pub add_drops-requires-clause-before : goal.add_drops-requires-clause-before
add_drops-requires-clause-before c = let at = placed _ c.loop-kind.kind-index c.loop-kind-test.true in
    at_order _ (13122 + 81 * c.loop-kind.kind-index) _ _ (ap (λ (n : ℕ). 13122 + 81 * n) (sym at)) c.loop-kind.invariant

pub loop-kind-preserved : goal.loop-kind-preserved
loop-kind-preserved c = let at = placed _ c.loop-kind.kind-index c.loop-kind-test.true in
    at_order _ _ (13122 + 81 * (c.loop-kind.kind-index + 1)) _ (ap (λ (n : ℕ). 13122 + 81 * n + 81) at ∙ omega arith) c.in_ok-add_drops.ensures

pub returns : goal.returns
returns c = lists_whole _ (13122 + 81 * c.loop-kind.kind-index) _ c.loop-kind.invariant (λ m. let w = c.order_laws.ensures.within m in omega arith)
