use Rattle.std.proofs.Common.{codes, ℕ, Option, sym, subst}
use Rattle.std.specs.Option.{ForSome}
use Rattle.clap.specs.Words.{found_of, rows_of}
use Rattle.search_limits.specs.Sizes.{IsFromTo}
use Rattle.tsume_words.specs.declared.watch.TheConstants.{MOST_DEADLINE}
use Rattle.tsume_words.proofs.Texts.{readable_if, within_if}
use Rattle.tsume_words.proofs.given.search_watch.Goals as goal

pub number_if_given-deadline-requires : goal.number_if_given-deadline-requires
number_if_given-deadline-requires c = readable_if (codes "deadline") 1 MOST_DEADLINE (rows_of (found_of c.args.given.now)) c.requires.deadline

pub invariant_of-result : goal.invariant_of-result
invariant_of-result c = record {
  within = subst (λ (o : Option ℕ). ForSome o (IsFromTo 1 MOST_DEADLINE)) (sym c.number_if_given-deadline.ensures)
      (within_if (codes "deadline") 1 MOST_DEADLINE (rows_of (found_of c.args.given.now)) c.requires.deadline);
}
