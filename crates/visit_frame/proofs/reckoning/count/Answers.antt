use Rattle.std.proofs.Common.{◌≡◌, ◌+◌, ◌++◌, List, [], ◌∷◌, map, take, sym, ap, ◌∙◌, arith}
use Rattle.visit_log.specs.declared.parts.Child.{Child}
use Rattle.std.specs.List.{list_any}
use Rattle.std.proofs.lemmas.List.{take_more, take_more_set, map_push}
use Rattle.pn_numbers.specs.declared.numbers.Numbers.{Numbers}
use Rattle.pn_numbers.specs.declared.selecting.Child.{Child as Counted}
use Rattle.visit_log.specs.Children.{counted, counted_behind, numbers_in}
use Rattle.visit_frame.specs.Hiding.{is_open_drop}
use Rattle.visit_frame.proofs.Counting.{counted_more}
use Rattle.visit_frame.proofs.reckoning.count.Goals as goal

pub loop-i-preserved : goal.loop-i-preserved
loop-i-preserved c =
    let xs = c.args.children.now in
    let node = c.args.node in
    let i = c.loop-i.i in
    let one = c.index-children-i.result in
    let y = c.counted_behind-one.result in
    let more : take (i + 1) xs ≡ take i xs ++ one ∷ [] =
    take_more xs i one c.loop-i-test.true ∙ ap (λ (z : Child). take i xs ++ z ∷ []) (sym c.index-children-i.is) in
    let is : y ≡ counted_behind node (take i xs) one = c.counted_behind-one.ensures (take i xs) c.loop-i.invariant.hiding in
    let all : counted node (take (i + 1) xs) ≡ counted node (take i xs) ++ counted_behind node (take i xs) one ∷ [] =
    ap (counted node) more ∙ counted_more node [] (take i xs) one in
    record {
      hiding = λ square. c.with_drop-drops.ensures (take i xs) c.loop-i.invariant.hiding square ∙ ap (λ (l : List Child). list_any (is_open_drop square) l) (sym more);
      counting = take_more_set c.loop-i.room i y (omega arith)
          ∙ (ap (λ (l : List Counted). l ++ y ∷ []) c.loop-i.invariant.counting ∙ (ap (λ (z : Counted). counted node (take i xs) ++ z ∷ []) is ∙ sym all));
      numbering = take_more_set c.loop-i.numbers i y.numbers (omega arith)
          ∙ (ap (λ (l : List Numbers). l ++ y.numbers ∷ []) c.loop-i.invariant.numbering
          ∙ (ap (λ (z : Counted). map numbers_in (counted node (take i xs)) ++ z.numbers ∷ []) is
          ∙ sym (ap (map numbers_in) all ∙ map_push numbers_in (counted node (take i xs)) (counted_behind node (take i xs) one))));
    }
