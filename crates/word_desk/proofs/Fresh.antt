-- A seat that drew no end has no number above the most.
use Rattle.std.proofs.Common.{◌≡◌, ℕ, ◌+◌, ◌≤◌, length, arith}
use Rattle.search_limits.specs.declared.expansions.TheConstants.{MOST_EXPANSIONS}
use Rattle.search_limits.specs.declared.settings.TheConstants.{MOST_ROOM}
use Rattle.word_desk.specs.declared.view.View.{View}
use Rattle.word_desk.specs.Rule.{count_above}
use Rattle.word_desk.proofs.Sums.{count_above-le, count_above-le-length}

pub none_late : (expansions : ℕ) (v : View) → expansions ≤ MOST_EXPANSIONS → count_above expansions v.drawn + length v.missed ≡ 0
    → count_above MOST_EXPANSIONS v.drawn + count_above MOST_EXPANSIONS v.missed ≡ 0
none_late expansions v few no_end =
    let drawn = count_above-le expansions MOST_EXPANSIONS v.drawn few in
    let missed = count_above-le-length MOST_EXPANSIONS v.missed in
    omega (arith, no_end, drawn, missed)

pub none_later : (room : ℕ) (v : View) → room ≤ MOST_ROOM → count_above room v.claimed ≡ 0 → count_above MOST_ROOM v.claimed ≡ 0
none_later room v few no_end = let claimed = count_above-le room MOST_ROOM v.claimed few in omega (arith, no_end, claimed)
