use Rattle.std.proofs.Common.{subst, sym, ap, ◌∙◌, arith}
use Rattle.std.specs.Fmt.{decimal}
use Rattle.std.specs.Str.{IsUtf8}
use Rattle.std.specs.Result.{result_ok}
use Rattle.std.proofs.lemmas.Fmt.{parse-decimal, IsAscii-decimal}
use Rattle.std.proofs.lemmas.Str.{IsUtf8-from_ascii}
use Rattle.cert_text.proofs.parts.value_of_text.Goals as goal

pub returns-in-Ok : goal.returns-in-Ok
returns-in-Ok c = λ n lt e.
    let same = parse-decimal 32 n c.in-Ok.digits.now c.parse.result lt (omega arith) (c.in-Ok.ensures.cases.0 ∙ e) c.parse.ensures.value.0 in c.ok.ensures.value ∙ ap result_ok same

pub returns-in-Err : goal.returns-in-Err
returns-in-Err c = λ n lt e. absurd (c.in-Err.ensures.cases.0 (subst IsUtf8 (sym e) (IsUtf8-from_ascii (decimal n) (IsAscii-decimal n (omega (arith, lt))))))
