use Rattle.std.proofs.Common.{arith, refl, sym, ap, ◌∙◌, subst, List, length, map}
use Rattle.board_core.specs.Board.{Board}
use Rattle.position_places.specs.Places.{ArePlacesOf}
use Rattle.notes.specs.declared.rule.Conclusion.TheVariants.{Escape}
use Rattle.notes.specs.Derivation.{position_of, rule_of}
use Rattle.notes.proofs.Offered.{own_source}
use Rattle.cert_extract.specs.Extracted.{IsEndFor}
use Rattle.cert_extract.specs.Listing.{HasPutIf, IsEndAt}
use Rattle.cert_extract.proofs.Pushed.{lighter_walked, lighter_met}
use Rattle.cert_extract.proofs.Sources.{covers_turn}
use Rattle.cert_extract.proofs.Rules.{no_escape_leaf, pending_first}
use Rattle.cert_extract.proofs.Grown.{ended, put_behind, put_new, put_old}
use Rattle.cert_extract.proofs.Escapes.{IsLeafAmong, escape_at_first, escape_leaf_on, escape_on, escape_past, escape_done, next_pending, IsEscapeWalk}
use Rattle.cert_extract.proofs.Walked.{SomeWalked, escape_end, escape_leaf_end, escapes_at_first, escapes_leaf_on, escapes_past, escapes_on}
use Rattle.cert_extract.proofs.escape.positions.Goals as goal

pub loop-next-init : goal.loop-next-init
loop-next-init c = record {
  places = subst (ArePlacesOf c.new-places.result) (sym c.new-positions.ensures.items) c.new-places.ensures;
  walk = escape_at_first (λ n. n.now) c.args.version c.args.problem.now.position c.new-positions.result.items c.push.new.self.items c.new-pending.result.items _
      c.new-positions.ensures.items c.new-pending.ensures.items c.in_ok-push.ensures.items
      (pending_first c.args.version Escape c.args.problem.now.position c.args.note.now c.laws.ensures.valid c.requires.serves
      (covers_turn c.args.version c.args.problem.now.position.side (position_of c.args.note.now) c.args.problem.now.position c.requires.serves.holds))
      c.requires.serves.holds c.requires.closed;
  walked = escapes_at_first (λ n. n.now) c.new-positions.result.items c.push.new.self.items c.new-pending.result.items _ c.new-positions.ensures.items
      c.new-pending.ensures.items c.in_ok-push.ensures.items (own_source c.args.note.now c.requires.serves.own);
  few = let none = ap (λ (bs : List Board). length bs) c.new-positions.ensures.items in omega (arith, none);
}

pub loop-next-smaller-in-Continue-branch-3 : goal.loop-next-smaller-in-Continue-branch-3
loop-next-smaller-in-Continue-branch-3 c = lighter_met (λ n. n.now) c.loop-next.pending.items c.pop.new.self.items c.in-Some.next c.in-Some.ensures.items

pub loop-next-preserved-in-Continue-branch-3 : goal.loop-next-preserved-in-Continue-branch-3
loop-next-preserved-in-Continue-branch-3 c =
    let positions = c.loop-next.positions.items in
    let mid = c.list_position.new.positions.items in
    let set = c.positions.result.now in
    let leads = sym c.rule.ensures ∙ c.in-EscapeLeaf.is in
    let stands = c.positions.ensures.leaf c.in-EscapeLeaf.field-0 leads in
    let leaf : IsLeafAmong c.in-Some.next.now set =
    record { version = c.in-EscapeLeaf.field-0; leaf = leads; are = stands.0; listed = stands.1; these = stands.2 } in
    let put = put_new c.in_ok-list_position.field-0 positions mid (position_of c.in-Some.next.now) c.if-branch.true
    (subst (λ (b : Board). HasPutIf c.in_ok-list_position.field-0 positions b mid) c.position.ensures c.in_ok-list_position.ensures.listed) in
    let has = put_behind set c.args.most positions (position_of c.in-Some.next.now) mid c.list_set.new.positions.items stands.1 put.1 c.in_ok-list_set.ensures.put in
    record {
      places = c.in_ok-list_set.ensures.places;
      walk = escape_leaf_on (λ n. n.now) c.args.version c.args.problem.now.position c.args.note.now positions c.list_set.new.positions.items set
          c.loop-next.pending.items c.pop.new.self.items c.in-Some.next c.in-Some.ensures.items leaf has c.loop-next.invariant.walk;
      walked = escapes_leaf_on (λ n. n.now) c.args.note.now positions c.loop-next.pending.items c.pop.new.self.items c.in-Some.next c.in-Some.ensures.items
          c.loop-next.invariant.walked put.0 c.list_set.new.positions.items set leaf has;
      few = c.in_ok-list_set.ensures.few;
    }

pub loop-next-smaller-in-Continue-branch-4 : goal.loop-next-smaller-in-Continue-branch-4
loop-next-smaller-in-Continue-branch-4 c =
    lighter_walked (λ n. n.now) c.loop-next.pending.items c.pop.new.self.items c.push_next.new.pending.items c.in-Some.next c.in-Some.ensures.items
    c.in_ok-push_next.ensures

pub loop-next-preserved-in-Continue-branch-4 : goal.loop-next-preserved-in-Continue-branch-4
loop-next-preserved-in-Continue-branch-4 c =
    let positions = c.loop-next.positions.items in
    let mid = c.list_position.new.positions.items in
    let put = put_new c.in_ok-list_position.field-0 positions mid (position_of c.in-Some.next.now) c.if-branch.true
    (subst (λ (b : Board). HasPutIf c.in_ok-list_position.field-0 positions b mid) c.position.ensures c.in_ok-list_position.ensures.listed) in
    let its = next_pending (λ n. n.now) c.args.version c.args.problem.now.position c.args.note.now positions c.loop-next.pending.items c.pop.new.self.items
    c.in-Some.next c.in-Some.ensures.items c.loop-next.invariant.walk in
    let no_leaf = no_escape_leaf (rule_of c.in-Some.next.now) its.concludes (λ version is. c.in_default-rule.not-EscapeLeaf version (c.rule.ensures ∙ is)) in
    record {
      places = c.in_ok-list_position.ensures.places;
      walk = escape_on (λ n. n.now) c.args.version c.args.problem.now.position c.args.note.now positions mid c.loop-next.pending.items
          c.pop.new.self.items c.push_next.new.pending.items c.in-Some.next (position_of c.in-Some.next.now) c.in-Some.ensures.items c.in_ok-push_next.ensures
          refl put.1 no_leaf c.loop-next.invariant.walk;
      walked = escapes_on (λ n. n.now) c.args.note.now positions c.loop-next.pending.items c.pop.new.self.items c.in-Some.next c.in-Some.ensures.items
          c.loop-next.invariant.walked put.0 mid c.push_next.new.pending.items c.in_ok-push_next.ensures put.1;
      few = c.in_ok-list_position.ensures.few;
    }

pub loop-next-smaller : goal.loop-next-smaller
loop-next-smaller c = lighter_met (λ n. n.now) c.loop-next.pending.items c.pop.new.self.items c.in-Some.next c.in-Some.ensures.items

pub loop-next-preserved : goal.loop-next-preserved
loop-next-preserved c =
    let positions = c.loop-next.positions.items in
    let mid = c.list_position.new.positions.items in
    let put = put_old c.in_ok-list_position.field-0 positions mid (position_of c.in-Some.next.now) c.if-branch.false
    (subst (λ (b : Board). HasPutIf c.in_ok-list_position.field-0 positions b mid) c.position.ensures c.in_ok-list_position.ensures.listed) in
    record {
      places = c.in_ok-list_position.ensures.places;
      walk = subst (λ (bs : List Board). IsEscapeWalk c.args.version c.args.problem.now.position c.args.note.now bs (map (λ n. n.now) c.pop.new.self.items)) (sym put.1)
          (escape_past (λ n. n.now) c.args.version c.args.problem.now.position c.args.note.now positions c.loop-next.pending.items
          c.pop.new.self.items c.in-Some.next c.in-Some.ensures.items put.0 c.loop-next.invariant.walk);
      walked = subst (λ (bs : List Board). SomeWalked c.args.note.now bs (map (λ n. n.now) c.pop.new.self.items)) (sym put.1)
          (escapes_past (λ n. n.now) c.args.note.now positions c.loop-next.pending.items c.pop.new.self.items c.in-Some.next c.in-Some.ensures.items
          c.loop-next.invariant.walked);
      few = c.in_ok-list_position.ensures.few;
    }

pub returns-in_err-list_position-clause-too_many : goal.returns-in_err-list_position-clause-too_many
returns-in_err-list_position-clause-too_many c =
    let positions = c.loop-next.positions.items in
    let end = c.in_err-list_position.field-0.0 in
    ended (IsEndFor c.args.most c.args.problem.now.position c.args.note.now) c.from_residual-in_err-list_position.result end c.from_residual-in_err-list_position.ensures
    (escape_end (λ n. n.now) c.args.note.now positions c.loop-next.pending.items c.pop.new.self.items c.in-Some.next c.in-Some.ensures.items
    c.loop-next.invariant.walked c.args.version c.args.problem.now.position c.args.most c.requires.serves.concludes c.loop-next.invariant.walk end
    (subst (λ (b : Board). IsEndAt c.args.most positions b end) c.position.ensures c.in_err-list_position.ensures.too_many))

pub returns-in_err-list_set-clause-too_many : goal.returns-in_err-list_set-clause-too_many
returns-in_err-list_set-clause-too_many c =
    let positions = c.loop-next.positions.items in
    let mid = c.list_position.new.positions.items in
    let set = c.positions.result.now in
    let leads = sym c.rule.ensures ∙ c.in-EscapeLeaf.is in
    let stands = c.positions.ensures.leaf c.in-EscapeLeaf.field-0 leads in
    let leaf : IsLeafAmong c.in-Some.next.now set =
    record { version = c.in-EscapeLeaf.field-0; leaf = leads; are = stands.0; listed = stands.1; these = stands.2 } in
    let put = put_new c.in_ok-list_position.field-0 positions mid (position_of c.in-Some.next.now) c.if-branch.true
    (subst (λ (b : Board). HasPutIf c.in_ok-list_position.field-0 positions b mid) c.position.ensures c.in_ok-list_position.ensures.listed) in
    let end = c.in_err-list_set.field-0.0 in
    ended (IsEndFor c.args.most c.args.problem.now.position c.args.note.now) c.from_residual-in_err-list_set.result end c.from_residual-in_err-list_set.ensures
    (escape_leaf_end (λ n. n.now) c.args.note.now positions c.loop-next.pending.items c.pop.new.self.items c.in-Some.next c.in-Some.ensures.items
    c.loop-next.invariant.walked put.0 c.args.version c.args.problem.now.position c.args.most c.requires.serves.concludes c.loop-next.invariant.walk set leaf mid
    put.1 end c.in_err-list_set.ensures.too_many)

pub returns-clause-entries : goal.returns-clause-entries
returns-clause-entries c =
    let none = c.in_default.ensures.cases in
    escape_done (λ n. n.now) c.args.version c.args.problem.now.position c.args.note.now c.loop-next.positions.items c.loop-next.pending.items (omega (arith, none.0))
    c.loop-next.invariant.walk c.loop-next.invariant.places.apart
