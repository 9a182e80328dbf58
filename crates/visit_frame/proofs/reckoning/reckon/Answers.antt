use Rattle.std.proofs.Common.{◌≡◌, List, [], sym, ap, subst, ◌∙◌}
use Rattle.std.specs.Prelude.{All}
use Rattle.pn_numbers.specs.declared.numbers.Numbers.{Numbers}
use Rattle.pn_numbers.specs.declared.selecting.Child.{Child as Counted}
use Rattle.pn_numbers.specs.Numbers.{IsOpen, IsNumbers}
use Rattle.pn_numbers.specs.Selection.{IsSelected, number_at}
use Rattle.pn_numbers.specs.Combined.{numbers_at}
use Rattle.visit_log.specs.Children.{counted, own_numbers}
use Rattle.visit_frame.proofs.Unsolved.{are_numbers, own_open, can_select, number_there}
use Rattle.visit_frame.proofs.reckoning.reckon.Goals as goal

pub returns-then-reaches : goal.returns-then-reaches
returns-then-reaches c =
    let xs = c.args.children.now in
    let node = c.args.node in
    let is : c.numbers_at-own.result ≡ own_numbers node xs = c.numbers_at-own.ensures.numbers ∙ ap (numbers_at node) c.count.ensures.numbers in
    let numbers = c.numbers_at-own.ensures.again (subst (λ (l : List Numbers). All IsNumbers l) (sym c.count.ensures.numbers) (are_numbers node [] xs c.requires.opens)) in (
      is,
      sym c.reaches.ensures ∙ c.if-reaches.true,
      subst IsOpen (sym is) (own_open node xs c.requires.opens c.requires.unsolved (subst IsNumbers is numbers)),
    )

pub unreachable-requires : goal.unreachable-requires
unreachable-requires c =
    can_select c.args.node c.args.children.now c.requires.opens c.requires.unsolved
    (λ place. ap (λ (l : List Counted). number_at c.args.node l place) (sym c.count.ensures.counted) ∙ c.in-None.ensures.selected place)

pub returns : goal.returns
returns c =
    let xs = c.args.children.now in
    let node = c.args.node in
    let is : c.numbers_at-own.result ≡ own_numbers node xs = c.numbers_at-own.ensures.numbers ∙ ap (numbers_at node) c.count.ensures.numbers in
    let selected : IsSelected node (counted node xs) c.args.worker c.in-Some.place c.in-Some.second =
    subst (λ (l : List Counted). IsSelected node l c.args.worker c.in-Some.place c.in-Some.second) c.count.ensures.counted c.in-Some.ensures.selected in (
      is,
      sym c.reaches.ensures ∙ c.if-reaches.false,
      selected,
      number_there node xs c.in-Some.place selected.least selected.number,
    )
