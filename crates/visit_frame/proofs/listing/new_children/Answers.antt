use Rattle.std.proofs.Common.{◌++◌, List, [], ◌∷◌, map, take, sym, ap, subst, ◌∙◌}
use Rattle.std.specs.Prelude.{All}
use Rattle.visit_log.specs.declared.parts.Child.{Child}
use Rattle.std.proofs.lemmas.List.{take_more, map_push}
use Rattle.std.proofs.lemmas.List.Elements.{All-push}
use Rattle.board_core.specs.declared.moves.Move.{Move}
use Rattle.visit_log.specs.Children.{IsNewChild, move_to}
use Rattle.visit_frame.proofs.listing.new_children.Goals as goal

pub loop-by-preserved : goal.loop-by-preserved
loop-by-preserved c =
    let moves = c.args.moves.now in
    let i = c.loop-by.by-index in
    let one = c.new_child.result in
    let items = c.in_ok-push.ensures.items in
    let P : Child → Type 0 = IsNewChild c.args.problem.now.position.side c.args.position.now c.args.path.now in (
      ap (map move_to) items
          ∙ (map_push move_to c.loop-by.children.items one
          ∙ (ap (λ (l : List Move). l ++ one.by ∷ []) c.loop-by.invariant.0
          ∙ (ap (λ (m : Move). take i moves ++ m ∷ []) (c.new_child.ensures.by ∙ c.by-item.is)
          ∙ sym (take_more moves i c.by-item.result c.loop-by-test.true)))),
      subst (λ (l : List Child). All P l) (sym items) (All-push P c.loop-by.children.items one c.loop-by.invariant.1 c.new_child.ensures.new),
    )
