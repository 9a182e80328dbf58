-- The verdict of a note.
use Rattle.std.proofs.Common.{◌≡◌, ◌∷◌, [], List, inr, refl, arith}
use Rattle.std.specs.Prelude.{Result, Ok, Err, IfOk}
use Rattle.bit_boards.specs.declared.piece.Side.{Side}
use Rattle.board_core.specs.Board.{Board}
use Rattle.board_core.specs.declared.moves.Move.{Move}
use Rattle.usi_text.specs.Lines.{mate_text, nomate_text, AllHaveText}
use Rattle.cert_text.specs.Certificate.{Mating, Escaping}
use Rattle.cert_text.specs.Entries.{line}
use Rattle.cert_text.specs.Reading.{IsTextOf}
use Rattle.cert_text.specs.declared.certificate.Certificate.TheVariants as certificates
use Rattle.play_line.specs.Line.{IsMainLine}
use Rattle.app_texts.specs.Texts.{solution_text}
use Rattle.cert_text.specs.declared.certificate.Certificate.{Certificate}
use Rattle.cert_text.specs.Kinds.{claim_of, version_of}
use Rattle.notes.specs.Derivation.{Derivation, conclusion_of, version_in}
use Rattle.cert_extract.specs.Extracted.{claim_by, ComesFrom}
use Rattle.app_texts.specs.declared.answer.Solution.{Solution}
use Rattle.app_texts.specs.declared.answer.Solution.TheVariants.{Mate, NoMate, Unknown}
use Rattle.problem_answers.specs.Answer.{IsShown, IsVerdictOf}

-- The text of a mate's answer is the certificate's, behind the line of its moves, of which there is
-- one at least.
pub mate_told : (c : Mating) (attacker : Side) (b : Board) (moves : List Move) → IsMainLine c attacker b moves → AllHaveText moves
    → IsTextOf (certificates.Mate c) (solution_text (Mate c moves))
mate_told c attacker b [] is have = absurd is
mate_told c attacker b (move ∷ moves) is have =
    (line (mate_text (move ∷ moves)), inr (mate_text (move ∷ moves), (move ∷ moves, omega arith, have, refl), refl), refl)

-- That of an answer that there is none likewise.
pub no_mate_told : (c : Escaping) → IsTextOf (certificates.Escape c) (solution_text (NoMate c))
no_mate_told c = (line nomate_text, inr (nomate_text, refl, refl), refl)

-- What shows with the certificate of a note what it says is the note's verdict.
pub shown_by : (solution : Solution) (p : Board) (note : Derivation) (certificate : Certificate) → claim_of certificate ≡ claim_by (conclusion_of note)
    → version_of certificate ≡ version_in note → ComesFrom note certificate → IsShown p certificate solution → IsVerdictOf p note solution
shown_by (Mate c moves) p note certificate claim version from shown = record { certificate = certificate; claim = claim; version = version; from = from; shown = shown }
shown_by (NoMate c) p note certificate claim version from shown = record { certificate = certificate; claim = claim; version = version; from = from; shown = shown }
shown_by (Unknown cause crew) p note certificate claim version from shown = absurd shown

-- The same where memory may have been wanted.
pub verdict_of : {E : Type 0} (result : Result Solution E) (p : Board) (note : Derivation) (certificate : Certificate)
    → claim_of certificate ≡ claim_by (conclusion_of note) → version_of certificate ≡ version_in note
    → ComesFrom note certificate → IfOk result (IsShown p certificate) → IfOk result (IsVerdictOf p note)
verdict_of (Ok solution) p note certificate claim version from shown = shown_by solution p note certificate claim version from shown
verdict_of (Err error) p note certificate claim version from shown = tt
