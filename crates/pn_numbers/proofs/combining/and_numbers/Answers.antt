use Rattle.std.proofs.Common.{sym, subst}
use Rattle.pn_numbers.specs.declared.node.Node.TheVariants.{Defender}
use Rattle.pn_numbers.specs.Numbers.{IsNumbers}
use Rattle.pn_numbers.proofs.Totals.{numbers_again}
use Rattle.pn_numbers.proofs.combining.and_numbers.Goals as goal

pub returns-clause-again : goal.returns-clause-again
returns-clause-again c = λ all. subst IsNumbers (sym c.combined.ensures) (numbers_again Defender c.args.children.now all)
