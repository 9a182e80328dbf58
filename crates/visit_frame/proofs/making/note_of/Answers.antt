use Rattle.std.proofs.Common.{◌≡◌, Some, None, true, map, sym, ap, subst, ◌∙◌}
use Rattle.std.specs.Prelude.{option_copied}
use Rattle.std.specs.List.{position_or_len}
use Rattle.pn_numbers.specs.declared.node.Node.{Node}
use Rattle.visit_log.specs.Frame.{task_for}
use Rattle.visit_log.specs.Children.{AreMoves, move_to, decides, deciding}
use Rattle.visit_log.specs.Sound.{IsSoundChild}
use Rattle.visit_frame.specs.Making.{AllSay}
use Rattle.visit_frame.proofs.Places.{all_at, find_passes, find_there}
use Rattle.visit_frame.proofs.Refuted.{move_check, move_evasion, all_say}
use Rattle.visit_frame.proofs.making.note_of.Goals as goal

pub mate_by_child-requires-clause-check : goal.mate_by_child-requires-clause-check
mate_by_child-requires-clause-check c =
    let xs = c.args.children.now in
    let side = c.args.problem.now.position.side in
    let child = c.in-Attacker-Some.child.now in
    let found : deciding c.args.node xs ≡ Some child = sym c.deciding.ensures ∙ ap option_copied c.in-Attacker-Some.is-1 in
    move_check side c.args.position.now xs (position_or_len (decides c.args.node) xs) child
    (subst (λ (n : Node). AreMoves n side c.args.position.now (map move_to xs)) c.in-Attacker-Some.is-0 c.requires.known.2.moves)
    (find_there (decides c.args.node) xs child found)

pub mate_by_child-requires-clause-sound : goal.mate_by_child-requires-clause-sound
mate_by_child-requires-clause-sound c =
    let xs = c.args.children.now in
    let child = c.in-Attacker-Some.child.now in
    let known = c.requires.known in
    let found : deciding c.args.node xs ≡ Some child = sym c.deciding.ensures ∙ ap option_copied c.in-Attacker-Some.is-1 in (
      known.0,
      known.1,
      all_at (IsSoundChild (task_for c.args.problem.now.position known.0) c.args.position.now known.1) xs (position_or_len (decides c.args.node) xs) child known.2.sound
          (find_there (decides c.args.node) xs child found),
    )

pub mate_by_child-requires-clause-decides : goal.mate_by_child-requires-clause-decides
mate_by_child-requires-clause-decides c =
    let xs = c.args.children.now in
    let child = c.in-Attacker-Some.child.now in
    let found : deciding c.args.node xs ≡ Some child = sym c.deciding.ensures ∙ ap option_copied c.in-Attacker-Some.is-1 in
    subst (λ (n : Node). decides n child ≡ true) c.in-Attacker-Some.is-0 (find_passes (decides c.args.node) xs child found)

pub escape_from_all-requires-clause-all : goal.escape_from_all-requires-clause-all
escape_from_all-requires-clause-all c =
    let xs = c.args.children.now in
    let known = c.requires.known in
    let none : deciding c.args.node xs ≡ None = sym c.deciding.ensures ∙ ap option_copied c.in-Attacker-None.is-1 in
    subst (λ (n : Node). AllSay n c.args.problem.now.position.side c.args.position.now xs) c.in-Attacker-None.is-0
    (all_say (task_for c.args.problem.now.position known.0) known.1 c.args.node c.args.position.now xs known.2 c.requires.solved none)

pub escape_by_child-requires-clause-evasion : goal.escape_by_child-requires-clause-evasion
escape_by_child-requires-clause-evasion c =
    let xs = c.args.children.now in
    let side = c.args.problem.now.position.side in
    let child = c.in-Defender-Some.child.now in
    let found : deciding c.args.node xs ≡ Some child = sym c.deciding.ensures ∙ ap option_copied c.in-Defender-Some.is-1 in
    move_evasion side c.args.position.now xs (position_or_len (decides c.args.node) xs) child
    (subst (λ (n : Node). AreMoves n side c.args.position.now (map move_to xs)) c.in-Defender-Some.is-0 c.requires.known.2.moves)
    (find_there (decides c.args.node) xs child found)

pub escape_by_child-requires-clause-sound : goal.escape_by_child-requires-clause-sound
escape_by_child-requires-clause-sound c =
    let xs = c.args.children.now in
    let child = c.in-Defender-Some.child.now in
    let known = c.requires.known in
    let found : deciding c.args.node xs ≡ Some child = sym c.deciding.ensures ∙ ap option_copied c.in-Defender-Some.is-1 in (
      known.0,
      known.1,
      all_at (IsSoundChild (task_for c.args.problem.now.position known.0) c.args.position.now known.1) xs (position_or_len (decides c.args.node) xs) child known.2.sound
          (find_there (decides c.args.node) xs child found),
    )

pub escape_by_child-requires-clause-decides : goal.escape_by_child-requires-clause-decides
escape_by_child-requires-clause-decides c =
    let xs = c.args.children.now in
    let child = c.in-Defender-Some.child.now in
    let found : deciding c.args.node xs ≡ Some child = sym c.deciding.ensures ∙ ap option_copied c.in-Defender-Some.is-1 in
    subst (λ (n : Node). decides n child ≡ true) c.in-Defender-Some.is-0 (find_passes (decides c.args.node) xs child found)

pub mate_from_all-requires-clause-all : goal.mate_from_all-requires-clause-all
mate_from_all-requires-clause-all c =
    let xs = c.args.children.now in
    let known = c.requires.known in
    let none : deciding c.args.node xs ≡ None = sym c.deciding.ensures ∙ ap option_copied c.in-Defender-None.is-1 in
    subst (λ (n : Node). AllSay n c.args.problem.now.position.side c.args.position.now xs) c.in-Defender-None.is-0
    (all_say (task_for c.args.problem.now.position known.0) known.1 c.args.node c.args.position.now xs known.2 c.requires.solved none)
