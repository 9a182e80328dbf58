-- Moves one after the other.
use Rattle.std.proofs.Common.{◌≡◌, inr, ℕ, ◌+◌, List, ◌∷◌, sym, subst}
use Rattle.board_core.specs.Board.{Board}
use Rattle.board_core.specs.declared.moves.Move.{Move}
use Rattle.shogi_rules.specs.Rules.{IsQuiet, after}
use Rattle.usi_session.specs.Positions.{IsMoveOn, LeadTo, HasFirstIllegal}
use Rattle.usi_session.specs.Reading.{IsPlayedTo}

-- One more move was made.
pub played-more : (first here next : Board) (fields rest behind : List (List ℕ)) (number : ℕ) (field : List ℕ) (by : Move)
    → IsPlayedTo first fields here number rest → rest ≡ field ∷ behind → IsMoveOn here field by → next ≡ after here by → IsQuiet next
    → IsPlayedTo first fields next (number + 1) behind
played-more first here next fields rest behind number field by played parts on is quiet = record {
  quiet = quiet;
  lead = λ last leads. played.lead last (subst (λ (l : List (List ℕ)). LeadTo here l last) (sym parts) (by, on, subst (λ (b : Board). LeadTo b behind last) is leads));
  illegal = λ its_number text illegal. played.illegal its_number text
      (subst (λ (l : List (List ℕ)). HasFirstIllegal here number l its_number text) (sym parts)
      (inr (by, on, subst (λ (b : Board). HasFirstIllegal b (number + 1) behind its_number text) is illegal)));
}
