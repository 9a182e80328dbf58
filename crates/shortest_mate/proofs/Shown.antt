-- What a rank in a mate shows.
use Rattle.std.proofs.Common.{ℕ, Contains, subst}
use Rattle.bit_boards.specs.declared.piece.Side.{Side}
use Rattle.board_core.specs.Board.{Board}
use Rattle.mate_def.specs.Mate.{RankAtMost}
use Rattle.mate_facts.specs.declared.entry.MateEntry.{MateEntry}
use Rattle.mate_facts.specs.Entries.{IsListedWith}
use Rattle.cert_text.specs.Certificate.{Mating}

pub rank_shown : (c : Mating) (b : Board) (attacker : Side) (rank : ℕ) → IsListedWith c.entries rank b
    → ((entry : MateEntry) → Contains c.entries entry → RankAtMost attacker entry.rank.number entry.at) → RankAtMost attacker rank b
rank_shown c b attacker rank at shown =
    subst (λ (n : ℕ). RankAtMost attacker n b) at.has_rank
    (subst (λ (q : Board). RankAtMost attacker at.entry.rank.number q) at.same (shown at.entry at.listed))
