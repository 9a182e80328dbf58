-- How the children of a node are counted.
use Rattle.std.proofs.Common.{◌≡◌, ◌&&◌, ◌||◌, ℕ, zero, suc, Bool, true, false, not, List, [], ◌∷◌, ◌++◌, Some, take, refl, sym, ap, ◌∙◌}
use Rattle.std.specs.Prelude.{slice_get, option_map}
use Rattle.std.specs.List.{list_any, list_all}
use Rattle.std.proofs.lemmas.List.{append-nil, append_assoc}
use Rattle.std.proofs.lemmas.Bool.{and_right}
use Rattle.board_core.specs.declared.moves.Move.{Move}
use Rattle.board_core.specs.declared.moves.Move.TheVariants as moves
use Rattle.bit_boards.specs.declared.square.Square.{Square}
use Rattle.bit_boards.specs.declared.piece.Kind.{Kind}
use Rattle.pn_numbers.specs.declared.node.Node.{Node}
use Rattle.pn_numbers.specs.declared.node.Node.TheVariants.{Attacker, Defender}
use Rattle.visit_log.specs.declared.parts.Child.{Child}
use Rattle.visit_log.specs.Children.{has_note, drop_on_same, hides, is_hidden, counted_behind, counted_after}
use Rattle.visit_frame.specs.Hiding.{drops_on, is_open_drop}

drop_same : (dropped : Kind) (to : Square) (by : Move) → drops_on to.number by ≡ drop_on_same (moves.Drop dropped to) by
drop_same dropped to (moves.Board from at promote) = refl
drop_same dropped to (moves.Drop other at) = refl

-- a drop is hidden where an earlier child is a drop on its square that has no note yet
pub drops_hide : (before : List Child) (child : Child) (dropped : Kind) (to : Square) → child.by ≡ moves.Drop dropped to
    → list_any (is_open_drop to.number) before ≡ list_any (hides child) before
drops_hide [] child dropped to is = refl
drops_hide (first ∷ before) child dropped to is =
    let same : is_open_drop to.number first ≡ hides child first =
    ap (λ (b : Bool). not (has_note first) && b) (drop_same dropped to first.by ∙ ap (λ (m : Move). drop_on_same m first.by) (sym is)) in
    ap (λ (b : Bool). b || list_any (is_open_drop to.number) before) same ∙ ap (λ (b : Bool). hides child first || b) (drops_hide before child dropped to is)

-- a move on the board isn't hidden
pub boards_show : (before : List Child) (child : Child) (from to : Square) (promote : Bool) → child.by ≡ moves.Board from to promote
    → list_any (hides child) before ≡ false
boards_show [] child from to promote is = refl
boards_show (first ∷ before) child from to promote is =
    let fails : hides child first ≡ false = ap (λ (m : Move). not (has_note first) && drop_on_same m first.by) is ∙ (and_right (not (has_note first)) false refl) in
    ap (λ (b : Bool). b || list_any (hides child) before) fails ∙ boards_show before child from to promote is

noted_shows : (child first : Child) (b : Bool) → has_note first ≡ b → b ≡ true → hides child first ≡ false
noted_shows child first b e t = ap (λ (h : Bool). not h && drop_on_same child.by first.by) (e ∙ t)

both : (a b : Bool) → (a && b) ≡ true → (a ≡ true) × (b ≡ true)
both true b h = (refl, h)
both false b h = absurd (cc)

-- behind children that all have a note none is hidden
pub not_hidden : (node : Node) (before : List Child) (child : Child) → list_all has_note before ≡ true → is_hidden node before child ≡ false
not_hidden Attacker before child h = refl
not_hidden Defender [] child h = refl
not_hidden Defender (first ∷ before) child h =
    let two = both (has_note first) (list_all has_note before) h in
    ap (λ (b : Bool). b || list_any (hides child) before) (noted_shows child first (has_note first) refl two.0) ∙ not_hidden Defender before child two.1

-- the child at a place, as it is counted
pub counted_get : (node : Node) (before children : List Child) (k : ℕ)
    → slice_get (counted_after node before children) k ≡ option_map (counted_behind node (before ++ take k children)) (slice_get children k)
counted_get node before [] k = refl
counted_get node before (child ∷ children) zero = ap (λ (l : List Child). Some (counted_behind node l child)) (sym (append-nil before))
counted_get node before (child ∷ children) (suc k) =
    counted_get node (before ++ child ∷ []) children k
    ∙ ap (λ (l : List Child). option_map (counted_behind node l) (slice_get children k)) (append_assoc before (child ∷ []) (take k children))

-- one more child behind the others
pub counted_more : (node : Node) (before children : List Child) (child : Child)
    → counted_after node before (children ++ child ∷ []) ≡ counted_after node before children ++ counted_behind node (before ++ children) child ∷ []
counted_more node before [] child = ap (λ (l : List Child). counted_behind node l child ∷ []) (sym (append-nil before))
counted_more node before (first ∷ children) child =
    ap (λ l. counted_behind node before first ∷ l) (counted_more node (before ++ first ∷ []) children child)
    ∙ ap (λ (l : List Child). counted_behind node before first ∷ (counted_after node (before ++ first ∷ []) children ++ counted_behind node l child ∷ [])) (append_assoc before (first ∷ []) children)
