use Rattle.std.proofs.Common.{◌≡◌, ◌++◌, map, reverse}
use Rattle.std.specs.List.{flat_map}
use Rattle.notes.specs.Derivation.{source_of}
use Rattle.cert_extract.specs.Tree.{next_under}
use Rattle.cert_extract.proofs.steps.push_next.Given as goal

abbrev pub invariant-loop-between : goal.invariant-loop-between
invariant-loop-between l =
    map (λ n. n.now) l.pending.items ≡ map (λ n. n.now) l.initial.pending.items ++ flat_map (λ d. reverse (next_under d)) (map (λ n. n.now) l.yielded)

abbrev pub invariant-loop-next : goal.invariant-loop-next
invariant-loop-next l = map (λ n. n.now) l.pending.items ≡ map (λ n. n.now) l.initial.pending.items ++ map source_of (map (λ n. n.now) l.yielded)
