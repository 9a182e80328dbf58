-- The successors of a position, of which nothing is known yet, are one list.
use Rattle.std.proofs.Common.{◌≡◌, ◌↔◌, Bool, true, false, List, [], ◌∷◌, map, Contains, refl, sym, subst, ap, ap₂, ◌∙◌}
use Rattle.std.specs.Prelude.{All, IsTrue}
use Rattle.std.proofs.lemmas.List.Elements.{All-head, All-tail}
use Rattle.bit_boards.specs.declared.piece.Side.{Side}
use Rattle.board_core.specs.declared.keys.Key.{Key}
use Rattle.board_core.specs.declared.moves.Move.{Move}
use Rattle.board_core.specs.Board.{Board}
use Rattle.board_core.specs.Key.{key_of}
use Rattle.board_core.specs.Order.{OrdersApart}
use Rattle.list_laws.proofs.MoveLists.{lists_one}
use Rattle.shogi_rules.specs.Rules.{after}
use Rattle.shogi_rules.specs.Tsume.{IsCheck, IsEvasion}
use Rattle.pn_numbers.specs.declared.node.Node.{Node}
use Rattle.pn_numbers.specs.declared.node.Node.TheVariants.{Attacker, Defender}
use Rattle.visit_log.specs.declared.parts.Child.{Child}
use Rattle.visit_log.specs.Frame.{node_at}
use Rattle.visit_log.specs.Children.{AreMoves, IsNewChild, AreChildren, first_look, move_to}

moves_once : OrdersApart → (node : Node) (attacker : Side) (b : Board) (xs ys : List Move) → AreMoves node attacker b xs → AreMoves node attacker b ys → xs ≡ ys
moves_once apart Attacker attacker b xs ys h k = lists_one apart (IsCheck attacker b) xs ys h k
moves_once apart Defender attacker b xs ys h k = lists_one apart (IsEvasion attacker b) xs ys h k

same_bool : {P : Type 0} (a b : Bool) → IsTrue a ↔ P → IsTrue b ↔ P → a ≡ b
same_bool true true h k = refl
same_bool true false h k = absurd (let e = k.1 (h.0 refl) in cc)
same_bool false true h k = absurd (let e = h.1 (k.0 refl) in cc)
same_bool false false h k = refl

child_once : (attacker : Side) (b : Board) (path : List Key) (c d : Child) → c.by ≡ d.by → IsNewChild attacker b path c → IsNewChild attacker b path d → c ≡ d
child_once attacker b path c d by h k =
    let words = h.key ∙ (ap (λ (m : Move). key_of (after b m)) by ∙ sym k.key) in
    let key : c.key ≡ d.key = λ i. record { 0 = words i } in
    let on_path : c.on_path ≡ d.on_path = same_bool c.on_path d.on_path h.on_path
    (subst (λ (x : Key). IsTrue d.on_path ↔ ((node_at attacker b ≡ Defender) × Contains path x)) (sym key) k.on_path) in
    let look : c.look ≡ d.look = h.look ∙ (ap first_look on_path ∙ sym k.look) in
    let numbers : c.numbers ≡ d.numbers = h.numbers ∙ sym k.numbers in
    let below : c.below ≡ d.below = h.below ∙ sym k.below in
    let note : c.note ≡ d.note = h.no_note ∙ sym k.no_note in
    λ i. record { by = by i; key = key i; on_path = on_path i; look = look i; numbers = numbers i; below = below i; note = note i }

first_of : (x y : Move) (xs ys : List Move) → x ∷ xs ≡ y ∷ ys → x ≡ y
first_of x y xs ys e = cc

rest_of : (x y : Move) (xs ys : List Move) → x ∷ xs ≡ y ∷ ys → xs ≡ ys
rest_of x y xs ys e = cc

each_once : (attacker : Side) (b : Board) (path : List Key) (cs ds : List Child) → map move_to cs ≡ map move_to ds → All (IsNewChild attacker b path) cs
    → All (IsNewChild attacker b path) ds → cs ≡ ds
each_once attacker b path [] [] e h k = refl
each_once attacker b path [] (d ∷ ds) e h k = absurd (cc)
each_once attacker b path (c ∷ cs) [] e h k = absurd (cc)
each_once attacker b path (c ∷ cs) (d ∷ ds) e h k =
    let one = child_once attacker b path c d (first_of c.by d.by (map move_to cs) (map move_to ds) e)
    (All-head (IsNewChild attacker b path) c cs h) (All-head (IsNewChild attacker b path) d ds k) in
    let more = each_once attacker b path cs ds (rest_of c.by d.by (map move_to cs) (map move_to ds) e)
    (All-tail (IsNewChild attacker b path) c cs h) (All-tail (IsNewChild attacker b path) d ds k) in
    ap₂ (λ (x : Child) (xs : List Child). x ∷ xs) one more

-- A position has one list of successors.
pub children_once : OrdersApart → (attacker : Side) (b : Board) (path : List Key) (cs ds : List Child) → AreChildren attacker b path cs → AreChildren attacker b path ds → cs ≡ ds
children_once apart attacker b path cs ds h k =
    each_once attacker b path cs ds (moves_once apart (node_at attacker b) attacker b (map move_to cs) (map move_to ds) h.moves k.moves) h.new k.new
