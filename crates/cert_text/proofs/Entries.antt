-- Positions and entries by their texts.
use Rattle.std.proofs.Common.{◌≡◌, ◌<◌, ◌^◌, ℕ, List, [], ◌∷◌, ◌++◌, sym, ◌∙◌, append_assoc, arith}
use Rattle.std.specs.Fmt.{decimal}
use Rattle.std.proofs.lemmas.List.{append_cancel_right}
use Rattle.mate_facts.specs.declared.entry.MateEntry.{MateEntry}
use Rattle.mate_facts.specs.declared.rank.Rank.{Rank}
use Rattle.usi_text.specs.MoveText.{move_text}
use Rattle.sfen_text.specs.Spelling.{sfen_of}
use Rattle.cert_text.specs.Entries.{line, mate_entry_text}
use Rattle.cert_text.specs.Reading.{Lacks}
use Rattle.cert_text.proofs.Cuts.{cut_same, decimal_lacks, move_lacks}

pub line_same : (xs ys : List ℕ) → line xs ≡ line ys → xs ≡ ys
line_same xs ys e = append_cancel_right xs ys (10 ∷ []) e

pub rank_small : (rank : Rank) → rank.number < 2 ^ 64
rank_small rank = let h = rank.within in omega arith

-- The three fields of an entry.
pub entry_fields : (entry : MateEntry) (text : List ℕ) → mate_entry_text entry ≡ line text → text ≡ decimal entry.rank.number ++ 32 ∷ (move_text entry.by ++ 32 ∷ sfen_of entry.at)
entry_fields entry text e =
    sym (line_same (decimal entry.rank.number ++ 32 ∷ move_text entry.by ++ 32 ∷ sfen_of entry.at) text e) ∙ append_assoc (decimal entry.rank.number) (32 ∷ move_text entry.by) (32 ∷ sfen_of entry.at)

pub rank_cut : (entry : MateEntry) (text rank more : List ℕ) → text ≡ rank ++ 32 ∷ more → Lacks 32 rank → mate_entry_text entry ≡ line text
    → (rank ≡ decimal entry.rank.number) × (more ≡ move_text entry.by ++ 32 ∷ sfen_of entry.at)
rank_cut entry text rank more p lack e =
    cut_same 32 rank more (decimal entry.rank.number) (move_text entry.by ++ 32 ∷ sfen_of entry.at) lack (decimal_lacks 32 entry.rank.number (omega arith) (rank_small entry.rank)) (sym p ∙ entry_fields entry text e)

pub by_cut : (entry : MateEntry) (text rank more by sfen : List ℕ) → text ≡ rank ++ 32 ∷ more → Lacks 32 rank → more ≡ by ++ 32 ∷ sfen → Lacks 32 by
    → mate_entry_text entry ≡ line text → (by ≡ move_text entry.by) × (sfen ≡ sfen_of entry.at)
by_cut entry text rank more by sfen p lack q slack e =
    cut_same 32 by sfen (move_text entry.by) (sfen_of entry.at) slack (move_lacks 32 entry.by (omega arith)) (sym q ∙ (rank_cut entry text rank more p lack e).1)
