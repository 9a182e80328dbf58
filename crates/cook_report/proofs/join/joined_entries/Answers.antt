use Rattle.std.proofs.Common.{◌++◌, List, take, Contains, arith, sym, subst, inl, inr}
use Rattle.std.proofs.lemmas.List.{take_all}
use Rattle.std.proofs.lemmas.List.Elements.{Contains-append_cases}
use Rattle.mate_facts.specs.declared.entry.MateEntry.{MateEntry}
use Rattle.mate_facts.specs.Entries.{positions_of}
use Rattle.position_places.specs.Places.{ArePlacesOf}
use Rattle.cert_text.specs.Certificate.{Mating}
use Rattle.cook_report.specs.Joined.{entries_in, IsJoinEnd}
use Rattle.cook_report.specs.Joining.{AreJoined}
use Rattle.cook_report.proofs.Joining.{ended, end_of, none_joined, told, certificate_on, first_entries, in_all}
use Rattle.cook_report.proofs.join.joined_entries.Goals as goal

pub loop-certificate-init : goal.loop-certificate-init
loop-certificate-init c = record {
  placed = subst (λ (es : List MateEntry). ArePlacesOf c.new-2.result (positions_of es)) (sym c.new.ensures.items) c.new-2.ensures;
  joined = none_joined c.args.problem.now.position c.args.limit c.new.result.items c.new.ensures.items;
}

pub join_all-requires : goal.join_all-requires
join_all-requires c = record { placed = c.loop-certificate.invariant.placed }

pub returns-in_err-join_all-clause-too_many : goal.returns-in_err-join_all-clause-too_many
returns-in_err-join_all-clause-too_many c =
    let certificates = c.args.certificates.now in
    let i = c.loop-certificate.certificate-index in
    let its = c.certificate-item.result in
    let at : Contains certificates its = (i, omega arith, sym c.certificate-item.is) in
    ended (IsJoinEnd c.args.limit (entries_in certificates)) c.from_residual.result c.in_err-join_all.field-0.0 c.from_residual.ensures.0 c.from_residual.ensures.1
    (end_of c.args.limit (entries_in (take i certificates) ++ its.entries) (entries_in certificates) c.in_err-join_all.field-0.0
    (λ e there. elim (Contains-append_cases (entries_in (take i certificates)) its.entries e there) [
      | inl before ↦ first_entries certificates i e before
      | inr here ↦ in_all certificates its e at here
    ])
    (c.in_err-join_all.ensures.too_many c.args.problem.now.position (entries_in (take i certificates)) (c.requires its at) c.loop-certificate.invariant.joined))

pub loop-certificate-preserved : goal.loop-certificate-preserved
loop-certificate-preserved c =
    let certificates = c.args.certificates.now in
    let i = c.loop-certificate.certificate-index in
    let its = c.certificate-item.result in
    let at : Contains certificates its = (i, omega arith, sym c.certificate-item.is) in
    record {
      placed = c.in_ok-join_all.ensures.placed;
      joined = subst (λ (es : List MateEntry). AreJoined c.args.problem.now.position c.args.limit es c.join_all.new.joined.entries.items)
          (certificate_on certificates i its (omega arith) c.certificate-item.is)
          (c.in_ok-join_all.ensures.joined c.args.problem.now.position (entries_in (take i certificates)) (c.requires its at) c.loop-certificate.invariant.joined);
    }

pub returns-clause-joined : goal.returns-clause-joined
returns-clause-joined c =
    subst (λ (cs : List Mating). AreJoined c.args.problem.now.position c.args.limit (entries_in cs) c.loop-certificate.joined.entries.items)
    (take_all c.loop-certificate.certificate-index c.args.certificates.now (omega arith)) c.loop-certificate.invariant.joined

pub returns-clause-told : goal.returns-clause-told
returns-clause-told c =
    told c.args.problem.now.position c.args.limit (entries_in (take c.loop-certificate.certificate-index c.args.certificates.now)) c.loop-certificate.joined.entries.items
    c.loop-certificate.joined.places c.loop-certificate.invariant.joined c.loop-certificate.invariant.placed
