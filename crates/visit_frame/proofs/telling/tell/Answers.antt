use Rattle.std.proofs.Common.{◌≡◌, get_or, refl, sym, ap, subst, ◌∙◌}
use Rattle.std.specs.Prelude.{Some, slice_set}
use Rattle.visit_log.specs.declared.parts.Child.{Child}
use Rattle.std.proofs.lemmas.Option.{get_or_from_slice_get, slice_get_within}
use Rattle.board_core.specs.Board.{Board}
use Rattle.board_core.specs.Key.{key_of}
use Rattle.board_core.proofs.KeyExact.{key_exact}
use Rattle.shogi_rules.specs.Rules.{after}
use Rattle.shogi_rules.proofs.Offered.{kept_after}
use Rattle.notes.specs.Derivation.{Derivation, carried, position_of}
use Rattle.notes.specs.Valid.{IsValid}
use Rattle.notes.specs.Lending.{IsLentTo}
use Rattle.notes.specs.declared.words.Seen.{Seen}
use Rattle.notes.proofs.Offered.{valid_kept}
use Rattle.visit_log.specs.declared.parts.Look.TheVariants.{Fresh}
use Rattle.visit_log.specs.Round.{IsStart, MayShow, IsFactOn, Tells, told}
use Rattle.visit_frame.proofs.telling.tell.Goals as goal

pub returns-in-New-clause-told : goal.returns-in-New-clause-told
returns-in-New-clause-told c =
    let xs = c.args.children.now in
    let place = c.args.place in
    let side = c.args.problem.now.position.side in
    let b = c.args.here.position.now in
    let child = c.requires.known.child in
    let start = c.start-numbers.result in
    let one : Child = get_or xs place c.index-children-place.result in
    let is : one ≡ child = get_or_from_slice_get xs place child c.index-children-place.result c.requires.known.there in
    let begins : IsStart side b one.by start = record { in_range = c.start-numbers.ensures.in_range; check = c.start-numbers.ensures.check; evasion = c.start-numbers.ensures.evasion } in (
      record { place = place; child = child; seen = c.args.seen; start = start },
      refl,
      refl,
      c.requires.known.there,
      subst (λ (s : Seen). Tells side b child.by s start) (sym c.in-New.is) (subst (λ (z : Child). IsStart side b z.by start) is begins),
      c.show.ensures child c.requires.known.there ∙ ap (λ (s : Seen). slice_set xs place (told side b child s start)) (sym c.in-New.is),
    )

pub returns-in-Open-clause-told : goal.returns-in-Open-clause-told
returns-in-Open-clause-told c =
    let xs = c.args.children.now in
    let place = c.args.place in
    let side = c.args.problem.now.position.side in
    let b = c.args.here.position.now in
    let child = c.requires.known.child in
    let start = c.in-Open.numbers in (
      record { place = place; child = child; seen = c.args.seen; start = start },
      refl,
      refl,
      c.requires.known.there,
      subst (λ (s : Seen). Tells side b child.by s start) (sym c.in-Open.is) tt,
      c.show-in-Open.ensures child c.requires.known.there ∙ ap (λ (s : Seen). slice_set xs place (told side b child s start)) (sym c.in-Open.is),
    )

pub returns-in-Solved-clause-told : goal.returns-in-Solved-clause-told
returns-in-Solved-clause-told c =
    let xs = c.args.children.now in
    let place = c.args.place in
    let side = c.args.problem.now.position.side in
    let b = c.args.here.position.now in
    let known = c.requires.known in
    let child = known.child in
    let start = child.numbers in
    let note = c.in-Solved.note in
    let fact : IsFactOn side child.key known.path note = subst (λ (s : Seen). MayShow side child.key known.path s) c.in-Solved.is known.may in
    let about : position_of note ≡ after b child.by =
    key_exact (position_of note) (after b child.by) (valid_kept note c.laws.ensures.valid)
    (kept_after b child.by c.laws-in-Solved.ensures known.legal) (fact.about ∙ known.key) in (
      record { place = place; child = child; seen = c.args.seen; start = start },
      refl,
      refl,
      known.there,
      subst (λ (s : Seen). Tells side b child.by s start) (sym c.in-Solved.is) about,
      c.prove.ensures child known.there ∙ ap (λ (s : Seen). slice_set xs place (told side b child s start)) (sym c.in-Solved.is),
    )

pub carry-requires : goal.carry-requires
carry-requires c =
    let xs = c.args.children.now in
    let place = c.args.place in
    let side = c.args.problem.now.position.side in
    let b = c.args.here.position.now in
    let known = c.requires.known in
    let child = known.child in
    let one : Child = get_or xs place c.index-children-place-in-Lent.result in
    let is : one ≡ child = get_or_from_slice_get xs place child c.index-children-place-in-Lent.result known.there in
    let reached : c.apply-next.result ≡ after b child.by = c.apply-next.ensures.position ∙ ap (λ (z : Child). after b z.by) is in
    let lent : IsLentTo side child.key c.in-Lent.note = subst (λ (s : Seen). MayShow side child.key known.path s) c.in-Lent.is known.may in
    lent.may c.apply-next.result c.laws-in-Lent.ensures (ap key_of reached ∙ sym known.key)

pub prove-requires-in-Lent : goal.prove-requires-in-Lent
prove-requires-in-Lent c = slice_get_within c.args.children.now c.args.place c.requires.known.child c.requires.known.there

pub returns-in_ok-own-in-Lent-clause-told : goal.returns-in_ok-own-in-Lent-clause-told
returns-in_ok-own-in-Lent-clause-told c =
    let xs = c.args.children.now in
    let place = c.args.place in
    let side = c.args.problem.now.position.side in
    let b = c.args.here.position.now in
    let known = c.requires.known in
    let child = known.child in
    let start = child.numbers in
    let note = c.in-Lent.note in
    let one : Child = get_or xs place c.index-children-place-in-Lent.result in
    let is : one ≡ child = get_or_from_slice_get xs place child c.index-children-place-in-Lent.result known.there in
    let reached : c.apply-next.result ≡ after b child.by = c.apply-next.ensures.position ∙ ap (λ (z : Child). after b z.by) is in
    let made : c.in_ok-own-in-Lent.own ≡ carried side (after b child.by) note = c.in_ok-own-in-Lent.ensures ∙ ap (λ (at : Board). carried side at note) reached in
    let valid : IsValid (carried side (after b child.by) note) = subst IsValid made c.laws-in-Lent-2.ensures.valid in (
      record { place = place; child = child; seen = c.args.seen; start = start },
      refl,
      refl,
      known.there,
      subst (λ (s : Seen). Tells side b child.by s start) (sym c.in-Lent.is) valid,
      c.prove-in-Lent.ensures child known.there
          ∙ (ap (λ (own : Derivation). slice_set xs place (record child { look = Fresh; note = Some own })) made
          ∙ ap (λ (s : Seen). slice_set xs place (told side b child s start)) (sym c.in-Lent.is)),
    )
