use Rattle.std.proofs.Common.{rules, refl, subst}
use Rattle.cert_text.specs.declared.limits.TheConstants.{MOST_ENTRIES}
use Rattle.cook_report.specs.Joined.{IsJoinEnd, entries_in}
use Rattle.cook_search.proofs.Mated.{answer_each, many_told, same_turns, some_evades, valid_each}
use Rattle.cook_search.proofs.lines.mated.Goals as goal

pub join_mates-requires : goal.join_mates-requires
join_mates-requires c =
    same_turns c.args.problem.now.position c.requires.shown.0 c.args.check c.args.evasions.now c.args.mates.now c.requires.shown.1

pub unreachable-requires : goal.unreachable-requires
unreachable-requires c =
    let above = subst (IsJoinEnd MOST_ENTRIES (entries_in c.args.mates.now)) c.in-Err-TooMany.field-0-is c.in-Err-TooMany.ensures.too_many in
    let some = some_evades c.args.problem.now.position c.requires.shown.0 c.args.check c.args.evasions.now c.args.mates.now MOST_ENTRIES c.requires.shown.1 above in
    let value = c.last.ensures.value in
    search rules

pub returns-in-Ok : goal.returns-in-Ok
returns-in-Ok c = λ searches shown.
    let p = c.args.problem.now.position in
    record {
      of_check = refl;
      true_of = c.in-Ok.ensures.line c.args.check (valid_each p searches c.args.check c.args.evasions.now c.args.mates.now shown)
          (answer_each p searches c.args.check c.args.evasions.now c.args.mates.now shown);
      kept = c.in-Ok.ensures.kept;
      told_by = record {
        certificates = c.args.mates.now;
        of_all = record { evasions = c.args.evasions.now; all = shown.all; of_searches = shown.of_searches };
        version = c.in-Ok.ensures.version;
        entries = c.in-Ok.ensures.entries;
        good = c.in-Ok.ensures.good;
        few = c.in-Ok.ensures.count;
      };
    }

pub returns-in-Some : goal.returns-in-Some
returns-in-Some c = λ searches shown.
    let above = subst (IsJoinEnd MOST_ENTRIES (entries_in c.args.mates.now)) c.in-Err-TooMany.field-0-is c.in-Err-TooMany.ensures.too_many in
    many_told c.args.problem.now.position searches c.args.check c.in-Some.evasion.now c.args.evasions.now c.args.mates.now (search rules) shown above
