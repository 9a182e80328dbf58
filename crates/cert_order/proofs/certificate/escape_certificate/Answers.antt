use Rattle.std.proofs.Common.{List, ℕ, Contains, subst}
use Rattle.cert_order.specs.Order.{ArePicked}
use Rattle.cert_order.proofs.Picked.{escaping, valid_escape, same_escape, count_escape, readable_escape}
use Rattle.cert_order.proofs.certificate.escape_certificate.Goals as goal

pub items_at-requires : goal.items_at-requires
items_at-requires c place there =
    c.in_ok-order.ensures.within place (subst (λ (os : List ℕ). Contains os place) c.deref.ensures.value there)

pub new-requires : goal.new-requires
new-requires c =
    escaping c.args.version c.args.problem.now.position c.args.entries.now c.in_ok-sorted.sorted.items c.in_ok-order.order.items c.args.problem.now.accepted c.requires
    c.in_ok-order.ensures
    (subst (λ (os : List ℕ). ArePicked c.args.entries.now os c.in_ok-sorted.sorted.items) c.deref.ensures.value c.in_ok-sorted.ensures)

pub returns-clause-valid : goal.returns-clause-valid
returns-clause-valid c =
    valid_escape c.args.version c.args.problem.now.position c.args.entries.now c.in_ok-sorted.sorted.items c.in_ok-order.order.items c.new.result c.new.ensures c.requires
    c.in_ok-order.ensures
    (subst (λ (os : List ℕ). ArePicked c.args.entries.now os c.in_ok-sorted.sorted.items) c.deref.ensures.value c.in_ok-sorted.ensures)

pub returns-clause-same : goal.returns-clause-same
returns-clause-same c =
    same_escape c.args.version c.args.problem.now.position c.args.entries.now c.in_ok-sorted.sorted.items c.in_ok-order.order.items c.new.result c.new.ensures
    c.in_ok-order.ensures
    (subst (λ (os : List ℕ). ArePicked c.args.entries.now os c.in_ok-sorted.sorted.items) c.deref.ensures.value c.in_ok-sorted.ensures)

pub returns-clause-count : goal.returns-clause-count
returns-clause-count c =
    count_escape c.args.version c.args.problem.now.position c.args.entries.now c.in_ok-sorted.sorted.items c.in_ok-order.order.items c.new.result c.new.ensures
    c.in_ok-order.ensures
    (subst (λ (os : List ℕ). ArePicked c.args.entries.now os c.in_ok-sorted.sorted.items) c.deref.ensures.value c.in_ok-sorted.ensures)

pub returns-clause-readable : goal.returns-clause-readable
returns-clause-readable c =
    readable_escape c.args.version c.args.problem.now.position c.args.entries.now c.in_ok-sorted.sorted.items c.in_ok-order.order.items c.new.result c.new.ensures
    c.args.problem.now.accepted c.laws.ensures c.requires c.in_ok-order.ensures
    (subst (λ (os : List ℕ). ArePicked c.args.entries.now os c.in_ok-sorted.sorted.items) c.deref.ensures.value c.in_ok-sorted.ensures)
