use Rattle.std.proofs.Common.{◌*◌, ◌/◌, ◌∙◌, ◌≡◌, ℕ, length, ap, arith}
use Rattle.std.proofs.lemmas.Bool.Decides.{nat_tests}
use Rattle.shared_table.proofs.Sizes.{all_rows}
use Rattle.shared_table.proofs.table.SharedTable.make.Goals as goal

pub returns-clause-rows : goal.returns-clause-rows
returns-clause-rows g c =
    let s = c.args.settings.now in
    let most = c.loop-shards.invariant in
    let least = c.loop-shards-test.false in
    let long = c.len.ensures in
    let all : length c.loop-shards.shards.items ≡ s.shards = grind (arith, nat_tests, most, least, long) in
    ap (λ (n : ℕ). n * (s.rows / s.shards)) all ∙ all_rows s.rows s.shards s.rows_power_of_two s.shards_power_of_two s.shards_within_rows
