use Rattle.std.proofs.Common.{subst, sym, ◌∙◌}
use Rattle.std.specs.Fmt.{decimal}
use Rattle.sfen_text.specs.Spelling.{sfen_of}
use Rattle.cert_text.specs.Reading.{Lacks}
use Rattle.cert_text.proofs.Offered.{not_lacks}
use Rattle.bound_text.proofs.Entries.{bound_fields, bound_cut}
use Rattle.bound_text.proofs.entry.BoundEntryEntry.of_line.Goals as goal

pub returns-in_default-clause-none : goal.returns-in_default-clause-none
returns-in_default-clause-none c = λ entry fits e.
    not_lacks 32 (decimal entry.bound.number) (sfen_of entry.at) (subst (Lacks 32) (bound_fields entry c.args.text.now e) c.in_default.ensures.none)

pub returns-in_default-rank_of_text-clause-none : goal.returns-in_default-rank_of_text-clause-none
returns-in_default-rank_of_text-clause-none c = λ entry fits e.
    c.in_default-rank_of_text.ensures.none entry.bound
    (bound_cut entry c.args.text.now c.in-Some.bound.now c.in-Some.sfen.now c.in-Some.ensures.parts c.in-Some.ensures.front e).0

pub returns-in_default-2-clause-none : goal.returns-in_default-2-clause-none
returns-in_default-2-clause-none c = λ entry fits e.
    let none = rw c.in_default-2.is at c.in_ok-at.ensures.none in
    none entry.at fits.kept fits.listed.is_problem (fits.listed.side ∙ sym c.attacker.ensures)
    (bound_cut entry c.args.text.now c.in-Some.bound.now c.in-Some.sfen.now c.in-Some.ensures.parts c.in-Some.ensures.front e).1
