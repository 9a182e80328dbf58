use Rattle.std.proofs.Common.{List, subst}
use Rattle.mate_facts.specs.declared.entry.MateEntry.{MateEntry}
use Rattle.cert_order.specs.Entries.{HaveSame}
use Rattle.shortest_facts.specs.Keys.{known_of}
use Rattle.shortest_lists.proofs.Mates.{rank_there, positions_there, entries_there}
use Rattle.shortest_lists.proofs.mate.mate_of.Goals as goal

pub returns-clause-rank : goal.returns-clause-rank
returns-clause-rank c =
    rank_there (known_of c.args.facts.now) c.args.problem.now.position c.in_ok-mate_certificate.field-0 c.in_ok-entries.entries.items
    (subst (λ (es : List MateEntry). HaveSame c.in_ok-mate_certificate.field-0.entries es) c.deref.ensures.value c.in_ok-mate_certificate.ensures.same)
    c.in_ok-entries.ensures.root

pub returns-clause-positions : goal.returns-clause-positions
returns-clause-positions c =
    positions_there (known_of c.args.facts.now) c.args.problem.now.position c.in_ok-mate_certificate.field-0 c.in_ok-entries.entries.items
    (subst (λ (es : List MateEntry). HaveSame c.in_ok-mate_certificate.field-0.entries es) c.deref.ensures.value c.in_ok-mate_certificate.ensures.same)
    c.in_ok-entries.ensures.listed c.in_ok-entries.ensures.all

pub returns-clause-entries : goal.returns-clause-entries
returns-clause-entries c =
    entries_there (known_of c.args.facts.now) c.args.problem.now.position c.in_ok-mate_certificate.field-0 c.in_ok-entries.entries.items
    (subst (λ (es : List MateEntry). HaveSame c.in_ok-mate_certificate.field-0.entries es) c.deref.ensures.value c.in_ok-mate_certificate.ensures.same)
    c.in_ok-entries.ensures.listed
