-- What was given of an input.
use Rattle.std.proofs.Common.{◌≡◌, ℕ, List, [], ◌∷◌, ◌++◌, Option, None, Some, sym, ◌∙◌, ap, refl, inl, inr, subst, arith, length, append_assoc, length-append}
use Rattle.std.specs.Prelude.{◌≤◌, ◌≢◌}
use Rattle.tsume_io.specs.Source.{Took}
use Rattle.input_lines.specs.Lines.{Place, Gave, HasNoFeed, HasMore, IsOver, IsLineGiven, AreLinesGiven, IsTooLong, beginning, first_lines, place_of}
use Rattle.input_lines.specs.declared.lines.TheConstants.{MOST_LINE_BYTES, MOST_INPUT_BYTES}

-- one byte more was taken
took_more : (a b c : Option (List ℕ)) (first : List ℕ) (byte : ℕ) → Took a b first → Took b c (byte ∷ []) → Took a c (first ++ byte ∷ [])
took_more None None None first byte p q = tt
took_more None None (Some z) first byte p q = absurd q
took_more None (Some y) c first byte p q = absurd p
took_more (Some x) None c first byte p q = absurd p
took_more (Some x) (Some y) None first byte p q = absurd q
took_more (Some x) (Some y) (Some z) first byte p q = p ∙ ap (λ l. first ++ l) q ∙ sym (append_assoc first (byte ∷ []) z)

-- one byte more was given
pub one_more : (a b c : Place) (first : List ℕ) (byte : ℕ) → Gave a b first → Gave b c (byte ∷ []) → Gave a c (first ++ byte ∷ [])
one_more a b c first byte p q = record {
  took = took_more a.to_come b.to_come c.to_come first byte p.took q.took;
  counted = omega (arith, p.counted, q.counted, length-append first (byte ∷ []));
}

-- a line and its line feed were given
pub whole_line : (before after : Place) (line : List ℕ) → HasNoFeed line → length line ≤ MOST_LINE_BYTES → after.given ≤ MOST_INPUT_BYTES → Gave before after (line ++ 10 ∷ []) → IsLineGiven before after line
whole_line before after line no_feed within few gave = record {
  is_line = record { no_feed = no_feed; within = within };
  within = few;
  bytes = line ++ 10 ∷ [];
  for_line = inl refl;
  gave = gave;
}

-- a last line was given
pub last_line : (before after : Place) (line : List ℕ) → HasNoFeed line → length line ≤ MOST_LINE_BYTES → after.given ≤ MOST_INPUT_BYTES → line ≢ [] → IsOver after → Gave before after line → IsLineGiven before after line
last_line before after line no_feed within few some over gave = record {
  is_line = record { no_feed = no_feed; within = within };
  within = few;
  bytes = line;
  for_line = inr (refl, some, over);
  gave = gave;
}

-- nothing was given, so what is to come is the same
same_come : (a b : Option (List ℕ)) → Took a b [] → b ≡ a
same_come None None p = refl
same_come None (Some y) p = absurd p
same_come (Some x) None p = absurd p
same_come (Some x) (Some y) p = ap (λ l. Some l) (sym p)

-- a byte to come
pub came : (given : ℕ) (ahead others : List ℕ) (byte : ℕ) (left : Option (List ℕ)) → ahead ≡ byte ∷ others → HasMore (place_of (record { ahead = ahead; given = given }) left)
came given ahead others byte None is = record { byte = byte; after = None; took = tt }
came given ahead others byte (Some rest) is = record { byte = byte; after = Some (others ++ rest); took = ap (λ l. l ++ rest) is }

-- a byte was to come before nothing was given
pub more_by_same : (a b : Place) → Gave a b [] → HasMore b → HasMore a
more_by_same a b same more = record {
  byte = more.byte;
  after = more.after;
  took = subst (λ (o : Option (List ℕ)). Took o more.after (more.byte ∷ [])) (same_come a.to_come b.to_come same.took) more.took;
}

-- a line that is too long, by a byte that was given
pub long_line : (before between after : Place) (line : List ℕ) (byte : ℕ) → HasNoFeed line → Gave before between line → Gave between after (byte ∷ [])
    → length line ≡ MOST_LINE_BYTES → byte ≢ 10 → IsTooLong before
long_line before between after line byte no_feed gave more full other = record {
  line = line;
  no_feed = no_feed;
  between = between;
  gave = gave;
  more = record { byte = byte; after = after.to_come; took = more.took };
  full = inl (full, other);
}

-- an input that is too long
pub long_input : (before between : Place) (line : List ℕ) → HasNoFeed line → Gave before between line → HasMore between → between.given ≡ MOST_INPUT_BYTES → IsTooLong before
long_input before between line no_feed gave more full = record {
  line = line;
  no_feed = no_feed;
  between = between;
  gave = gave;
  more = more;
  full = inr full;
}

-- one line more was given
pub line_more : (a b c : Place) (lines : List (List ℕ)) (line : List ℕ) → AreLinesGiven a lines b → IsLineGiven b c line → AreLinesGiven a (lines ++ line ∷ []) c
line_more a b c [] line at more = (c, subst (λ (p : Place). IsLineGiven p c line) at more, refl)
line_more a b c (first ∷ lines) line (between, given, rest) more = (between, given, line_more between b c lines line rest more)

-- a reader that has read nothing stands at the beginning
pub at_beginning : (told : Option (List ℕ)) → place_of first_lines told ≡ beginning told
at_beginning None = refl
at_beginning (Some bytes) = refl
