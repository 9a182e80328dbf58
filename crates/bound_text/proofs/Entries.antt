-- Entries by their texts.
use Rattle.std.proofs.Common.{◌≡◌, ℕ, List, ◌∷◌, ◌++◌, refl, sym, ◌∙◌, arith}
use Rattle.std.specs.Fmt.{decimal}
use Rattle.board_core.specs.Board.{Board}
use Rattle.sfen_text.specs.Spelling.{sfen_of}
use Rattle.sfen_text.specs.Laws.{PositionTextsApart, TextsAreLines}
use Rattle.cert_text.specs.Entries.{line}
use Rattle.cert_text.specs.Reading.{Lacks}
use Rattle.cert_text.proofs.Offered.{AreTold, cut_same, lacks_both, decimal_lacks, sfen_lacks, line_same, rank_small, rank_apart, spaced_no_end}
use Rattle.bound_text.specs.Bound.{bound_form, bound_entry_text}
use Rattle.bound_text.specs.declared.entry.BoundEntry.{BoundEntry}

-- the two fields of an entry
pub bound_fields : (entry : BoundEntry) (text : List ℕ) → bound_entry_text entry ≡ line text → text ≡ decimal entry.bound.number ++ 32 ∷ sfen_of entry.at
bound_fields entry text e = sym (line_same (decimal entry.bound.number ++ 32 ∷ sfen_of entry.at) text e)

pub bound_cut : (entry : BoundEntry) (text bound sfen : List ℕ) → text ≡ bound ++ 32 ∷ sfen → Lacks 32 bound → bound_entry_text entry ≡ line text
    → (bound ≡ decimal entry.bound.number) × (sfen ≡ sfen_of entry.at)
bound_cut entry text bound sfen p lack e =
    cut_same 32 bound sfen (decimal entry.bound.number) (sfen_of entry.at) lack (decimal_lacks 32 entry.bound.number (omega arith) (rank_small entry.bound))
    (sym p ∙ bound_fields entry text e)

-- The laws of texts that the lemmas on entries rest on.
pub record Laws : Type 0 where
  pub apart : PositionTextsApart
  pub lines : TextsAreLines

entry_same : (one two : BoundEntry) → one.bound ≡ two.bound → one.at ≡ two.at → one ≡ two
entry_same one two b p = λ i. record { bound = b i; at = p i }

-- entries that fit are lines other than `end`, and no two have one text
pub bound_told : Laws → (problem : Board) → AreTold (bound_form problem)
bound_told laws problem = record {
  lines = λ entry fits. record {
    inside = decimal entry.bound.number ++ 32 ∷ sfen_of entry.at;
    is_line = refl;
    lacks = lacks_both 10 (decimal entry.bound.number) (32 ∷ sfen_of entry.at) (decimal_lacks 10 entry.bound.number (omega arith) (rank_small entry.bound))
        ((λ (e : 32 ≡ 10). omega arith), sfen_lacks laws.lines entry.at fits.kept);
    no_end = λ e. spaced_no_end (decimal entry.bound.number) (sfen_of entry.at) e;
  };
  apart = λ one two f g e.
      let parts = bound_cut two (decimal one.bound.number ++ 32 ∷ sfen_of one.at) (decimal one.bound.number) (sfen_of one.at) refl
      (decimal_lacks 32 one.bound.number (omega arith) (rank_small one.bound)) (sym e) in
      entry_same one two (rank_apart one.bound two.bound parts.0) (laws.apart one.at two.at f.kept g.kept parts.1);
}
