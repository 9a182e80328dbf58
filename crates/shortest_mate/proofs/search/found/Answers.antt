use Rattle.std.proofs.Common.{◌-◌, ℕ, arith, sym, ap, subst}
use Rattle.shortest_facts.specs.declared.fact.Fact.{Fact}
use Rattle.mate_facts.specs.Entries.{IsListedWith}
use Rattle.cert_text.specs.declared.certificate.Certificate.TheVariants.{Mate}
use Rattle.shortest_mate.proofs.Shown.{rank_shown}
use Rattle.shortest_mate.proofs.search.found.Goals as goal

pub returns-clause-finding : goal.returns-clause-finding
returns-clause-finding c = λ expansions made.
    let p = c.args.problem.now.position in
    let number = ap (λ (f : Fact). f.most) c.fact-number.ensures in
    let own : IsListedWith c.in_ok-certificate.certificate.entries c.fact-number.result.most p =
    subst (λ (n : ℕ). IsListedWith c.in_ok-certificate.certificate.entries n p) (sym number) c.in_ok-certificate.ensures.rank in
    let shown = c.valid_is_accepted.ensures.readable (Mate c.in_ok-certificate.certificate) p (c.in_ok-certificate.ensures.readable (omega arith)) c.in_ok-certificate.ensures.valid in
    let bounded = c.valid_bound_is_accepted.ensures.shows c.in_ok-bound.bound.entries p (c.fact-number.result.most - 1) c.in_ok-bound.ensures.valid in (
      record {
        valid = c.in_ok-certificate.ensures.valid;
        version = c.in_ok-certificate.ensures.version;
        own_rank = own;
        about = c.in_ok-bound.ensures.about;
        bound = c.in_ok-bound.ensures.valid;
        is_line = c.in_ok-line.ensures.line;
        mate = rank_shown c.in_ok-certificate.certificate p p.side c.fact-number.result.most own shown.ranks;
        none_shorter = bounded.no_mate;
        readable = c.in_ok-certificate.ensures.readable (omega arith);
        bound_readable = c.in_ok-bound.ensures.readable;
      },
      (let h = c.requires.length.within in omega (arith, h, number)),
    )
