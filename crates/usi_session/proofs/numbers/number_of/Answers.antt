-- Digits are ASCII, so what isn't UTF-8 writes no number.
use Rattle.std.proofs.Common.{◌≡◌, ◌==◌, ℕ, Bool, true, false, List, [], ◌∷◌, drop, refl, arith, cond}
use Rattle.std.specs.Str.{IsAscii}
use Rattle.std.specs.Str.Parse.{AllDigits, without_leading_plus}
use Rattle.std.proofs.lemmas.Str.{IsUtf8-from_ascii}
use Rattle.std.proofs.lemmas.Str.Ascii.{IsAscii-cons, IsAscii-nil}
use Rattle.std.proofs.lemmas.Fmt.{IsAscii-from_digits}
use Rattle.usi_session.proofs.numbers.number_of.Goals as goal

numeral-ascii : (text : List ℕ) → AllDigits 10 (without_leading_plus text) → IsAscii text
numeral-ascii [] all = IsAscii-nil
numeral-ascii (c ∷ cs) all = by (c == 43) refl all where
  by : (b : Bool) → c == 43 ≡ b → AllDigits 10 (drop (cond b 1 0) (c ∷ cs)) → IsAscii (c ∷ cs)
  by true e digits = IsAscii-cons c cs (grind arith) (IsAscii-from_digits cs digits)
  by false e digits = IsAscii-from_digits (c ∷ cs) digits

pub returns-in-Err-clause-none : goal.returns-in-Err-clause-none
returns-in-Err-clause-none c number writes = c.in-Err.ensures.cases.0 (IsUtf8-from_ascii c.args.text.now (numeral-ascii c.args.text.now writes.numeral.1))
