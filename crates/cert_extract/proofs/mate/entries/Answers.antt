use Rattle.std.proofs.Common.{List, length, map, arith, sym, ap, subst, ◌∙◌}
use Rattle.board_core.specs.Board.{Board}
use Rattle.mate_facts.specs.declared.entry.MateEntry.{MateEntry}
use Rattle.mate_facts.specs.Entries.{positions_of}
use Rattle.position_places.specs.Places.{ArePlacesOf}
use Rattle.notes.specs.declared.rule.Conclusion.TheVariants.{Mate}
use Rattle.notes.specs.Derivation.{position_of, rule_of}
use Rattle.notes.proofs.Offered.{own_source}
use Rattle.cert_extract.specs.Extracted.{IsEndFor}
use Rattle.cert_extract.specs.Listing.{HasMetLeaf, IsEndInLeaf}
use Rattle.cert_extract.proofs.Pushed.{lighter_walked, lighter_met}
use Rattle.cert_extract.proofs.Sources.{covers_turn}
use Rattle.cert_extract.proofs.Rules.{no_mate_leaf, pending_first}
use Rattle.cert_extract.proofs.Grown.{ended, entry_new, entry_old, none_ok}
use Rattle.cert_extract.proofs.Mates.{IsEntryOf, IsLeafWith, IsMateWalk, mate_at_first, mate_done, mate_leaf_on, mate_on, mate_past, next_pending}
use Rattle.cert_extract.proofs.Walked.{MatesWalked, mate_end, mate_leaf_end, mates_at_first, mates_leaf_on, mates_on, mates_past}
use Rattle.cert_extract.proofs.mate.entries.Goals as goal

pub loop-next-init : goal.loop-next-init
loop-next-init c = record {
  places = subst (λ (es : List MateEntry). ArePlacesOf c.new-places.result (positions_of es)) (sym c.new-entries.ensures.items) c.new-places.ensures;
  walk = mate_at_first (λ n. n.now) c.args.version c.args.problem.now.position c.new-entries.result.items c.push.new.self.items c.new-pending.result.items _
      c.new-entries.ensures.items c.new-pending.ensures.items c.in_ok-push.ensures.items
      (pending_first c.args.version Mate c.args.problem.now.position c.args.note.now c.laws.ensures.valid c.requires
      (sym (covers_turn c.args.version c.args.problem.now.position.side c.args.problem.now.position (position_of c.args.note.now) c.requires.holds)))
      c.requires.holds;
  walked = mates_at_first (λ n. n.now) c.new-entries.result.items c.push.new.self.items c.new-pending.result.items _ c.new-entries.ensures.items
      c.new-pending.ensures.items c.in_ok-push.ensures.items (own_source c.args.note.now c.requires.own);
  few = let none = ap (λ (es : List MateEntry). length es) c.new-entries.ensures.items in omega (arith, none);
}

pub loop-next-smaller-in-Continue-branch-2 : goal.loop-next-smaller-in-Continue-branch-2
loop-next-smaller-in-Continue-branch-2 c = lighter_met (λ n. n.now) c.loop-next.pending.items c.pop.new.self.items c.in-Some.next c.in-Some.ensures.items

pub loop-next-preserved-in-Continue-branch-2 : goal.loop-next-preserved-in-Continue-branch-2
loop-next-preserved-in-Continue-branch-2 c =
    let entries = c.loop-next.entries.items in
    let more = c.list_leaf.new.entries.items in
    let rank = c.in-MateLeaf.rank in
    let set = c.entries-set.result.now in
    let leads = sym c.rule.ensures ∙ c.in-MateLeaf.is in
    let stands = c.entries-set.ensures.leaf c.in-MateLeaf.field-0 rank leads in
    let leaf : IsLeafWith c.in-Some.next.now set rank =
    record { version = c.in-MateLeaf.field-0; leaf = leads; are = stands.0; listed = stands.1; these = stands.2 } in
    let met = subst (λ (b : Board). HasMetLeaf set b rank entries more) c.position.ensures c.in_ok-list_leaf.ensures.met in
    let its = next_pending (λ n. n.now) c.args.version c.args.problem.now.position c.args.note.now entries c.loop-next.pending.items c.pop.new.self.items
    c.in-Some.next c.in-Some.ensures.items c.loop-next.invariant.walk in
    record {
      places = c.in_ok-list_leaf.ensures.places;
      walk = mate_leaf_on (λ n. n.now) c.args.version c.args.problem.now.position c.args.note.now entries c.loop-next.pending.items c.pop.new.self.items
          c.in-Some.next c.in-Some.ensures.items c.loop-next.invariant.walk set rank leaf c.legal_laws.ensures.board more met;
      walked = mates_leaf_on (λ n. n.now) c.args.note.now entries c.loop-next.pending.items c.pop.new.self.items c.in-Some.next c.in-Some.ensures.items
          c.loop-next.invariant.walked set rank leaf its.valid more met;
      few = c.in_ok-list_leaf.ensures.few;
    }

pub returns-in_err-list_leaf-clause-too_many : goal.returns-in_err-list_leaf-clause-too_many
returns-in_err-list_leaf-clause-too_many c =
    let entries = c.loop-next.entries.items in
    let rank = c.in-MateLeaf.rank in
    let set = c.entries-set.result.now in
    let leads = sym c.rule.ensures ∙ c.in-MateLeaf.is in
    let stands = c.entries-set.ensures.leaf c.in-MateLeaf.field-0 rank leads in
    let leaf : IsLeafWith c.in-Some.next.now set rank =
    record { version = c.in-MateLeaf.field-0; leaf = leads; are = stands.0; listed = stands.1; these = stands.2 } in
    let its = next_pending (λ n. n.now) c.args.version c.args.problem.now.position c.args.note.now entries c.loop-next.pending.items c.pop.new.self.items
    c.in-Some.next c.in-Some.ensures.items c.loop-next.invariant.walk in
    let end = c.in_err-list_leaf.field-0.0 in
    ended (IsEndFor c.args.most c.args.problem.now.position c.args.note.now) c.from_residual-in_err-list_leaf.result end c.from_residual-in_err-list_leaf.ensures
    (mate_leaf_end (λ n. n.now) c.args.note.now entries c.loop-next.pending.items c.pop.new.self.items c.in-Some.next c.in-Some.ensures.items
    c.loop-next.invariant.walked c.args.version c.args.problem.now.position c.args.most c.requires.concludes c.legal_laws.ensures.board
    c.loop-next.invariant.walk set rank leaf its.valid end
    (subst (λ (b : Board). IsEndInLeaf c.args.most set b rank entries end) c.position.ensures c.in_err-list_leaf.ensures.too_many))

pub entry_of-requires : goal.entry_of-requires
entry_of-requires c =
    let its = next_pending (λ n. n.now) c.args.version c.args.problem.now.position c.args.note.now c.loop-next.entries.items c.loop-next.pending.items
    c.pop.new.self.items c.in-Some.next c.in-Some.ensures.items c.loop-next.invariant.walk in
    record {
      own = its.own;
      no_leaf = no_mate_leaf (rule_of c.in-Some.next.now) its.concludes (λ version rank is. c.in_default-rule.not-MateLeaf version rank (c.rule.ensures ∙ is));
      mate = its.concludes;
      turn = its.turn ∙ sym its.same_attacker;
    }

pub loop-next-smaller-in-Continue-branch-4 : goal.loop-next-smaller-in-Continue-branch-4
loop-next-smaller-in-Continue-branch-4 c =
    lighter_walked (λ n. n.now) c.loop-next.pending.items c.pop.new.self.items c.push_next.new.pending.items c.in-Some.next c.in-Some.ensures.items
    c.in_ok-push_next.ensures

pub loop-next-preserved-in-Continue-branch-4 : goal.loop-next-preserved-in-Continue-branch-4
loop-next-preserved-in-Continue-branch-4 c =
    let entries = c.loop-next.entries.items in
    let more = c.list_entry.new.entries.items in
    let entry = c.entry_of.result in
    let its : IsEntryOf c.in-Some.next.now entry = record { about = c.entry_of.ensures.about; by = c.entry_of.ensures.by; high = c.entry_of.ensures.high } in
    let has = entry_new c.in_ok-list_entry.field-0 entries more entry c.if-branch.true c.in_ok-list_entry.ensures.listed in
    record {
      places = c.in_ok-list_entry.ensures.places;
      walk = mate_on (λ n. n.now) c.args.version c.args.problem.now.position c.args.note.now entries c.loop-next.pending.items c.pop.new.self.items
          c.in-Some.next c.in-Some.ensures.items c.loop-next.invariant.walk c.push_next.new.pending.items entry c.in_ok-push_next.ensures its
          c.legal_laws.ensures.board more has;
      walked = mates_on (λ n. n.now) c.args.note.now entries c.loop-next.pending.items c.pop.new.self.items c.in-Some.next c.in-Some.ensures.items
          c.loop-next.invariant.walked entry its more c.push_next.new.pending.items c.in_ok-push_next.ensures has;
      few = c.in_ok-list_entry.ensures.few;
    }

pub loop-next-smaller : goal.loop-next-smaller
loop-next-smaller c = lighter_met (λ n. n.now) c.loop-next.pending.items c.pop.new.self.items c.in-Some.next c.in-Some.ensures.items

pub loop-next-preserved : goal.loop-next-preserved
loop-next-preserved c =
    let entries = c.loop-next.entries.items in
    let more = c.list_entry.new.entries.items in
    let entry = c.entry_of.result in
    let its : IsEntryOf c.in-Some.next.now entry = record { about = c.entry_of.ensures.about; by = c.entry_of.ensures.by; high = c.entry_of.ensures.high } in
    let has = entry_old c.in_ok-list_entry.field-0 entries more entry c.if-branch.false c.in_ok-list_entry.ensures.listed in
    record {
      places = c.in_ok-list_entry.ensures.places;
      walk = subst (λ (es : List MateEntry). IsMateWalk c.args.version c.args.problem.now.position c.args.note.now es (map (λ n. n.now) c.pop.new.self.items)) (sym has.1)
          (mate_past (λ n. n.now) c.args.version c.args.problem.now.position c.args.note.now entries c.loop-next.pending.items c.pop.new.self.items
          c.in-Some.next c.in-Some.ensures.items c.loop-next.invariant.walk entry its has.0);
      walked = subst (λ (es : List MateEntry). MatesWalked c.args.note.now es (map (λ n. n.now) c.pop.new.self.items)) (sym has.1)
          (mates_past (λ n. n.now) c.args.note.now entries c.loop-next.pending.items c.pop.new.self.items c.in-Some.next c.in-Some.ensures.items
          c.loop-next.invariant.walked);
      few = c.in_ok-list_entry.ensures.few;
    }

pub returns-in_err-list_entry : goal.returns-in_err-list_entry
returns-in_err-list_entry c =
    let entries = c.loop-next.entries.items in
    let entry = c.entry_of.result in
    let its : IsEntryOf c.in-Some.next.now entry = record { about = c.entry_of.ensures.about; by = c.entry_of.ensures.by; high = c.entry_of.ensures.high } in
    let end = c.in_err-list_entry.field-0.0 in
    let is = c.from_residual-in_err-list_entry.ensures.0 in
    record {
      entries = none_ok _ c.from_residual-in_err-list_entry.result is;
      from = none_ok _ c.from_residual-in_err-list_entry.result is;
      few = none_ok _ c.from_residual-in_err-list_entry.result is;
      too_many = ended (IsEndFor c.args.most c.args.problem.now.position c.args.note.now) c.from_residual-in_err-list_entry.result end
          c.from_residual-in_err-list_entry.ensures
          (mate_end (λ n. n.now) c.args.note.now entries c.loop-next.pending.items c.pop.new.self.items c.in-Some.next c.in-Some.ensures.items
          c.loop-next.invariant.walked c.args.version c.args.problem.now.position c.args.most c.requires.concludes c.legal_laws.ensures.board
          c.loop-next.invariant.walk entry its end c.in_err-list_entry.ensures.too_many);
    }

pub returns-clause-entries : goal.returns-clause-entries
returns-clause-entries c =
    let none = c.in_default.ensures.cases in
    mate_done (λ n. n.now) c.args.version c.args.problem.now.position c.args.note.now c.loop-next.entries.items c.loop-next.pending.items (omega (arith, none.0))
    c.loop-next.invariant.walk c.loop-next.invariant.places.apart
