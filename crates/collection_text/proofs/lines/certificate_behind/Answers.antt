-- A line of the certificate that isn't its last goes to the front; at the others it is over.
use Rattle.std.proofs.Common.{◌≡◌, ◌++◌, ℕ, List, sym, ap, ◌∙◌, append_assoc}
use Rattle.std.specs.List.{concat}
use Rattle.collection_text.specs.Lines.{certificate_lines, whole_lines}
use Rattle.collection_text.proofs.Cutting.{certificate-more}
use Rattle.collection_text.proofs.lines.certificate_behind.Goals as goal

pub loop-line-preserved : goal.loop-line-preserved
loop-line-preserved c =
    let before = c.loop-line.invariant in
    let line : List ℕ = c.split_first.result.0.now in
    let behind : List ℕ = c.split_first.result.1.now in
    let more : concat (certificate_lines (whole_lines c.loop-line.rest.now)) ≡ line ++ concat (certificate_lines (whole_lines behind)) =
    ap (λ (l : List (List ℕ)). concat (certificate_lines l)) c.split_first.ensures.lines
    ∙ ap concat (certificate-more line (whole_lines behind) (sym c.tells_ending.ensures ∙ c.if-tells_ending.false) (sym c.is_end.ensures ∙ c.if-is_end.false)) in (
      before.0 ++ line,
      before.1 ∙ ap (λ (l : List ℕ). before.0 ++ l) c.split_first.ensures.text ∙ sym (append_assoc before.0 line behind),
      before.2 ∙ ap (λ (l : List ℕ). before.0 ++ l) more ∙ sym (append_assoc before.0 line (concat (certificate_lines (whole_lines behind)))),
    )
