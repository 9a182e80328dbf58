-- What was read is the text of one certificate; where it claims another verdict than the line
-- tells, its head is at fault, and else it is judged for its own problem.
use Rattle.std.proofs.Common.{inr, refl, sym}
use Rattle.std.proofs.lemmas.Result.{IfOk-weaker}
use Rattle.collection_text.specs.Told.{ToldView, seen}
use Rattle.cmd_certificates.proofs.Judgements.{own_told}
use Rattle.cmd_certificates.proofs.judging.told_of.Goals as goal

pub returns-then-not-claims : goal.returns-then-not-claims
returns-then-not-claims g c =
    inr (record {
      certificate = c.in-Ok.certificate;
      bare = c.is_bare.ensures.0 c.if-not-is_bare.false;
      text = record { read = c.in-Ok.ensures.exact; only = λ d readable is. sym (c.in-Ok.ensures.again d readable is) };
      another = λ same. let yes = c.claims.ensures.1 same in absurd (cc);
      is_head = refl;
    })

pub returns : goal.returns
returns g c =
    let line : ToldView = seen c.args.line.now in
    IfOk-weaker c.own_judgement.result _ _
    (λ told is. own_told line c.in-Ok.certificate told (record {
      bare = c.is_bare.ensures.0 c.if-not-is_bare.false;
      text = record { read = c.in-Ok.ensures.exact; only = λ d readable is. sym (c.in-Ok.ensures.again d readable is) };
      told = c.claims.ensures.0 c.if-not-claims.false;
    }) is) c.own_judgement.ensures
