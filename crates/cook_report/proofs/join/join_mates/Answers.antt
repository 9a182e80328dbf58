use Rattle.std.proofs.Common.{List, sym, subst}
use Rattle.mate_facts.specs.declared.entry.MateEntry.{MateEntry}
use Rattle.hand_dominance.specs.declared.version.Version.{Version}
use Rattle.cert_order.specs.Entries.{HaveSame}
use Rattle.cook_report.specs.Joined.{IsJoinedVersion}
use Rattle.cook_report.proofs.Joining.{are_joined, all_borne_out, covers_as_much, mate_line}
use Rattle.cook_report.proofs.join.join_mates.Goals as goal

pub returns-clause-entries : goal.returns-clause-entries
returns-clause-entries c =
    are_joined c.args.problem.now.position c.args.limit c.args.certificates.now c.in_ok-entries.entries.items c.in_ok-entries.ensures.joined c.in_ok-listing.field-0
    (subst (λ (es : List MateEntry). HaveSame c.in_ok-listing.field-0.entries es) c.deref.ensures.value c.in_ok-listing.ensures.same)

pub returns-clause-borne_out : goal.returns-clause-borne_out
returns-clause-borne_out c =
    all_borne_out c.args.problem.now.position c.args.limit c.args.certificates.now c.in_ok-entries.entries.items c.in_ok-entries.ensures.joined c.in_ok-listing.field-0
    (subst (λ (es : List MateEntry). HaveSame c.in_ok-listing.field-0.entries es) c.deref.ensures.value c.in_ok-listing.ensures.same)
    c.listing_laws.ensures.covers
    (subst (λ (v : Version). IsJoinedVersion c.args.certificates.now v) (sym c.in_ok-listing.ensures.version) c.joined_version.ensures)

pub returns-clause-covers : goal.returns-clause-covers
returns-clause-covers c =
    covers_as_much c.args.problem.now.position c.args.limit c.args.certificates.now c.in_ok-entries.entries.items c.in_ok-entries.ensures.joined c.in_ok-listing.field-0
    (subst (λ (es : List MateEntry). HaveSame c.in_ok-listing.field-0.entries es) c.deref.ensures.value c.in_ok-listing.ensures.same)
    c.listing_laws.ensures.covers
    (subst (λ (v : Version). IsJoinedVersion c.args.certificates.now v) (sym c.in_ok-listing.ensures.version) c.joined_version.ensures)

pub returns-clause-line : goal.returns-clause-line
returns-clause-line c =
    mate_line c.args.problem.now.position c.args.limit c.args.certificates.now c.in_ok-entries.entries.items c.in_ok-entries.ensures.joined c.in_ok-listing.field-0
    (subst (λ (es : List MateEntry). HaveSame c.in_ok-listing.field-0.entries es) c.deref.ensures.value c.in_ok-listing.ensures.same)
    c.listing_laws.ensures.covers
    (subst (λ (v : Version). IsJoinedVersion c.args.certificates.now v) (sym c.in_ok-listing.ensures.version) c.joined_version.ensures)
    c.requires c.in_ok-listing.ensures.problem
