-- What a note stands among, and the leaves of a set.
use Rattle.std.proofs.Common.{◌≡◌, ◌<◌, ℕ, List, [], Contains, ap, refl, subst}
use Rattle.bit_boards.specs.declared.piece.Side.{Side}
use Rattle.bit_boards.specs.Kind.{other}
use Rattle.board_core.specs.Board.{Board, kings_of}
use Rattle.mate_facts.specs.declared.entry.MateEntry.{MateEntry}
use Rattle.hand_dominance.specs.declared.version.Version.{Version}
use Rattle.notes.specs.declared.rule.Rule.{Rule}
use Rattle.notes.specs.declared.rule.Rule.TheVariants.{MateLeaf, EscapeLeaf}
use Rattle.notes.specs.Derivation.{IsNoLeaf, Ranked, step_among}
use Rattle.notes.specs.Set.{entries_of, positions_of, ranked_of, entries_with, positions_with, ranked_with}
use Rattle.notes.specs.Sets.{AreMates, AreEscapes, IsProblemOf, ranked, unranked}
use Rattle.notes.specs.declared.set.Set.{Set}
use Rattle.notes.specs.declared.set.Set.TheVariants as sets
use Rattle.std.specs.Prelude.{Option, Some, None}
use Rattle.std.specs.declared.sync.Arc.{Arc}
use Rattle.std.specs.declared.alloc.Global.{Global}
use Rattle.notes.specs.Valid.{IsInPlay, StandsAmong, meets}

-- what is no leaf stands among none
pub stands_alone : (rule : Rule) (attacker : Side) (b : Board) → IsNoLeaf rule → StandsAmong rule attacker b [] []
stands_alone (MateLeaf version rank) attacker b its = absurd its
stands_alone (EscapeLeaf version) attacker b its = absurd its
stands_alone rule attacker b its = (refl, refl)

-- a problem of the attacker is as play has it
in_play : (attacker : Side) (b : Board) → IsProblemOf attacker b → IsInPlay attacker b
in_play attacker b its = record {
  has_king = subst (λ (side : Side). 0 < kings_of b (other side)) its.turn its.is_problem.has_king;
  quiet = its.is_problem.quiet;
}

-- an entry of a mate is a leaf's
module _ (version : Version) (attacker : Side) (entries : List MateEntry) (entry : MateEntry) (are : AreMates version attacker entries)
    (there : Contains entries entry) where
  pub mate_play : IsInPlay attacker entry.at
  mate_play = in_play attacker entry.at (are.problems entry there)

  pub mate_meets : (height : ℕ) (beside : List Ranked) → beside ≡ ranked entries
      → meets (MateLeaf version entry.rank.number) (step_among (MateLeaf version entry.rank.number) attacker entry.at [] height beside) []
  mate_meets height beside these = (
    record { entries = entries; are = are; listed = record { entry = entry; listed = there; same = refl; has_rank = refl }; these = these },
    refl,
    refl,
  )

  pub mate_stands : StandsAmong (MateLeaf version entry.rank.number) attacker entry.at entries []
  mate_stands = (are, record { entry = entry; listed = there; same = refl; has_rank = refl }, refl)

-- and a position of an escape
module _ (version : Version) (attacker : Side) (positions : List Board) (b : Board) (are : AreEscapes version attacker positions)
    (there : Contains positions b) where
  pub escape_play : IsInPlay attacker b
  escape_play = in_play attacker b (are.problems b there)

  pub escape_meets : (height : ℕ) (beside : List Ranked) → beside ≡ unranked positions
      → meets (EscapeLeaf version) (step_among (EscapeLeaf version) attacker b [] height beside) []
  escape_meets height beside these = (record { positions = positions; are = are; listed = there; these = these }, refl, refl)

  pub escape_stands : StandsAmong (EscapeLeaf version) attacker b [] positions
  escape_stands = (are, there, refl)

-- what a set has, by its entries or its positions alone
pub ranked_mates : (set : Option (Arc Set Global)) → positions_with set ≡ [] → ranked_with set ≡ ranked (entries_with set)
ranked_mates None none = refl
ranked_mates (Some set) none = by_set set.value none
  where
    by_set : (it : Set) → positions_of it ≡ [] → ranked_of it ≡ ranked (entries_of it)
    by_set (sets.Mate entries) none = refl
    by_set (sets.Escape positions) none = ap unranked none

pub ranked_escapes : (set : Option (Arc Set Global)) → entries_with set ≡ [] → ranked_with set ≡ unranked (positions_with set)
ranked_escapes None none = refl
ranked_escapes (Some set) none = by_set set.value none
  where
    by_set : (it : Set) → entries_of it ≡ [] → ranked_of it ≡ unranked (positions_of it)
    by_set (sets.Mate entries) none = ap ranked none
    by_set (sets.Escape positions) none = refl
