use Rattle.std.proofs.Common.{rules, ◌≡◌, ℕ, Option, Some, [], ◌∷◌, ◌++◌, subst}
use Rattle.std.specs.Prelude.{MatchOption}
use Rattle.input_lines.specs.Lines.{Place, Gave, IsOver, place_of}
use Rattle.input_lines.proofs.Taken.{one_more, whole_line, long_line}
use Rattle.input_lines.proofs.lines.InputLines.next.Goals as goal

-- What a byte is that was given.
byte_given : (before after : Place) (byte : ℕ) (next : Option ℕ) → next ≡ Some byte
    → MatchOption next (IsOver before × Gave before after []) (λ b. Gave before after (b ∷ [])) → Gave before after (byte ∷ [])
byte_given before after byte next is match =
    subst (λ (o : Option ℕ). MatchOption o (IsOver before × Gave before after []) (λ b. Gave before after (b ∷ []))) is match

-- The line and its line feed were given.
pub returns-then-byte-eq-LINE_FEED-clause-line : goal.returns-then-byte-eq-LINE_FEED-clause-line
returns-then-byte-eq-LINE_FEED-clause-line g c =
    let left = g.S.Source.left in
    let before = place_of c.args.self.now (left c.args.source.now) in
    let between = place_of c.loop-line.self (left c.loop-line.source) in
    let after = place_of c.next_byte.new.self (left c.next_byte.new.source) in
    let line = c.loop-line.line.items in
    let so_far = c.loop-line.invariant in
    let byte = byte_given between after c.in-Some.byte c.in_ok-byte.field-0 c.in-Some.is c.in_ok-byte.ensures.byte in
    whole_line before after line so_far.no_feed (search rules) c.next_byte.ensures.within
    (subst (λ (b : ℕ). Gave before after (line ++ b ∷ [])) c.if-byte-eq-LINE_FEED.true (one_more before between after line c.in-Some.byte so_far.gave byte))

-- The line has as many bytes as it may, and the next is no line feed.
pub returns-then-len-eq-MOST_LINE_BYTES-clause-too_long : goal.returns-then-len-eq-MOST_LINE_BYTES-clause-too_long
returns-then-len-eq-MOST_LINE_BYTES-clause-too_long g c =
    let left = g.S.Source.left in
    let between = place_of c.loop-line.self (left c.loop-line.source) in
    let after = place_of c.next_byte.new.self (left c.next_byte.new.source) in
    let so_far = c.loop-line.invariant in
    λ _. long_line (place_of c.args.self.now (left c.args.source.now)) between after c.loop-line.line.items c.in-Some.byte so_far.no_feed so_far.gave
    (byte_given between after c.in-Some.byte c.in_ok-byte.field-0 c.in-Some.is c.in_ok-byte.ensures.byte) (search rules) (search rules)
