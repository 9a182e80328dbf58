-- What a valid certificate lists is known together.
use Rattle.std.proofs.Common.{◌≡◌, List, Contains, sym, subst}
use Rattle.bit_boards.specs.declared.piece.Side.{Side}
use Rattle.board_core.specs.Board.{Board}
use Rattle.board_core.specs.Kept.{IsKept}
use Rattle.mate_facts.specs.declared.entry.MateEntry.{MateEntry}
use Rattle.hand_dominance.specs.declared.version.Version.{Version}
use Rattle.cert_text.specs.Certificate.{Mating, Escaping, IsMating, IsEscaping}
use Rattle.cert_check.specs.Valid.{ValidMate, ValidEscape}
use Rattle.notes.specs.Sets.{AreMates, AreEscapes}

module _ (version : Version) (side : Side) where
  pub mates_known : (c : Mating) (entries : List MateEntry) → version ≡ c.version → side ≡ c.problem.side → entries ≡ c.entries → IsMating c
      → ValidMate c c.problem → ((entry : MateEntry) → Contains entries entry → IsKept entry.at) → AreMates version side entries
  mates_known c entries versions sides items listing valid kept =
      subst (λ (v : Version). AreMates v side entries) (sym versions) (subst (λ (s : Side). AreMates c.version s entries) (sym sides)
      (subst (AreMates c.version c.problem.side) (sym items) (record {
        problems = λ entry inside.
            let its = (listing.listed entry inside).is_entry in
            record { is_problem = its.is_problem; turn = its.side };
        borne_out = λ entry inside. (kept entry (subst (λ (es : List MateEntry). Contains es entry) (sym items) inside), valid.entries entry inside);
      })))

  pub escapes_known : (c : Escaping) (positions : List Board) → version ≡ c.version → side ≡ c.problem.side → positions ≡ c.entries → IsEscaping c
      → ValidEscape c c.problem → ((b : Board) → Contains positions b → IsKept b) → AreEscapes version side positions
  escapes_known c positions versions sides items listing valid kept =
      subst (λ (v : Version). AreEscapes v side positions) (sym versions) (subst (λ (s : Side). AreEscapes c.version s positions) (sym sides)
      (subst (AreEscapes c.version c.problem.side) (sym items) (record {
        problems = λ b inside. let its = listing.listed b inside in record { is_problem = its.is_problem; turn = its.side };
        kept = λ b inside. kept b (subst (λ (bs : List Board). Contains bs b) (sym items) inside);
        closed = valid.closed;
      })))
