use Rattle.std.proofs.Common.{◌++◌, ◌∷◌, subst, sym, ◌∙◌}
use Rattle.std.specs.Fmt.{decimal}
use Rattle.usi_text.specs.MoveText.{move_text}
use Rattle.sfen_text.specs.Spelling.{sfen_of}
use Rattle.cert_text.specs.Reading.{Lacks}
use Rattle.cert_text.proofs.Cuts.{not_lacks}
use Rattle.cert_text.proofs.Entries.{entry_fields, rank_cut, by_cut}
use Rattle.cert_text.proofs.entry.MateEntryEntry.of_line.Goals as goal

pub returns-in_default-clause-none : goal.returns-in_default-clause-none
returns-in_default-clause-none c = λ entry fits e.
    not_lacks 32 (decimal entry.rank.number) (move_text entry.by ++ 32 ∷ sfen_of entry.at) (subst (Lacks 32) (entry_fields entry c.args.text.now e) c.in_default.ensures.none)

pub returns-in_default-cut-clause-none : goal.returns-in_default-cut-clause-none
returns-in_default-cut-clause-none c = λ entry fits e.
    not_lacks 32 (move_text entry.by) (sfen_of entry.at) (subst (Lacks 32)
    (rank_cut entry c.args.text.now c.in-Some.rank.now c.in-Some.more.now c.in-Some.ensures.parts c.in-Some.ensures.front e).1 c.in_default-cut.ensures.none)

pub returns-in_default-rank_of_text-clause-none : goal.returns-in_default-rank_of_text-clause-none
returns-in_default-rank_of_text-clause-none c = λ entry fits e.
    c.in_default-rank_of_text.ensures.none entry.rank
    (rank_cut entry c.args.text.now c.in-Some.rank.now c.in-Some.more.now c.in-Some.ensures.parts c.in-Some.ensures.front e).0

pub returns-in_default-read_move-clause-none : goal.returns-in_default-read_move-clause-none
returns-in_default-read_move-clause-none c = λ entry fits e.
    c.in_default-read_move.ensures.exact entry.by fits.listed.has_text
    (by_cut entry c.args.text.now c.in-Some.rank.now c.in-Some.more.now c.in-Some-cut.by.now c.in-Some-cut.sfen.now c.in-Some.ensures.parts c.in-Some.ensures.front c.in-Some-cut.ensures.parts c.in-Some-cut.ensures.front e).0

pub returns-in_default-2-clause-none : goal.returns-in_default-2-clause-none
returns-in_default-2-clause-none c = λ entry fits e.
    let none = rw c.in_default-2.is at c.in_ok-at.ensures.none in
    none entry.at fits.kept fits.listed.is_entry.is_problem (fits.listed.is_entry.side ∙ sym c.attacker.ensures)
    (by_cut entry c.args.text.now c.in-Some.rank.now c.in-Some.more.now c.in-Some-cut.by.now c.in-Some-cut.sfen.now c.in-Some.ensures.parts c.in-Some.ensures.front c.in-Some-cut.ensures.parts c.in-Some-cut.ensures.front e).1
