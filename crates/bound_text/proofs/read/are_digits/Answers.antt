use Rattle.std.proofs.Common.{refl, arith}
use Rattle.bound_text.proofs.Numbers.{digits_from_places, places_from_digits}
use Rattle.bound_text.proofs.read.are_digits.Goals.{then-byte-lt48-via-then-byte-lt48, then-byte-lt48-via-else-byte-lt48+then-byte-gt57}
use Rattle.bound_text.proofs.read.are_digits.Goals as goal

pub returns-then-byte-lt48 : goal.returns-then-byte-lt48
returns-then-byte-lt48 c = (
  (λ e. absurd (cc)),
  (λ all.
      let at = places_from_digits c.args.text.now all c.loop-byte.byte-index (omega arith) in
      elim c.then-byte-lt48.branch [
        | then-byte-lt48-via-then-byte-lt48 w ↦ (let below = w.if-byte-lt48.true in absurd (omega arith))
        | then-byte-lt48-via-else-byte-lt48+then-byte-gt57 w ↦ (let above = w.if-byte-gt57.true in absurd (omega arith))
      ]),
)

pub returns : goal.returns
returns c = ((λ _. digits_from_places c.args.text.now (λ k inside. c.loop-byte.invariant k (omega arith))), (λ _. refl))
