-- The promise in plain words, from how a run ended.
use Rattle.std.proofs.Common.{◌≡◌, ℕ, List, Option, Some, Ok, Err, Vec, Global, subst, sym, refl}
use Rattle.board_core.specs.declared.moves.Move.{Move}
use Rattle.board_core.specs.Board.{Board}
use Rattle.board_core.specs.Kept.{IsKept}
use Rattle.shogi_rules.specs.Tsume.{IsProblem}
use Rattle.mate_def.specs.Mate.{RankAtMost}
use Rattle.mate_facts.specs.declared.rank.Rank.{Rank}
use Rattle.usi_text.specs.Lines.{mate_text}
use Rattle.cert_text.specs.Certificate.{CertificateView, Mating}
use Rattle.bound_text.specs.declared.entry.BoundEntry.{BoundEntry}
use Rattle.bound_text.specs.Reading as bounds
use Rattle.bound_check.specs.Valid.{IsValidBound}
use Rattle.search_limits.specs.declared.cause.Cause.{Cause}
use Rattle.app_texts.specs.declared.fault.ProblemFault.{ProblemFault}
use Rattle.problem_answers.specs.Reading.{OneReading, StandsFor}
use Rattle.shortest_mate.specs.declared.finding.Finding.{Finding}
use Rattle.shortest_mate.specs.declared.finding.Finding.TheVariants.{Found, NoneWithin, Unknown}
use Rattle.shortest_mate.specs.Finding.{IsPrintable, IsNoneWithin, IsShortest}
use Rattle.one_run.specs.declared.ended.Ended.{Ended}
use Rattle.one_run.proofs.Offered.{took_it}
use Rattle.one_run.specs.Outside.{Shown}
use Rattle.one_run.specs.Run.{IsDecided, IsEnded, IsRun, IsWellPosed}
use Rattle.one_run.specs.Stops.{Signals, once_armed}
use Rattle.cmd_shortest.specs.Asked.{ShortestView}
use Rattle.cmd_shortest.specs.Headline.{HasProblemLeft, IsShortestRun, NamesNone, NamesShortest, StandsForNone, StandsForShortest, StandsForUnknown, Tells, TellsAfter}
use Rattle.cmd_shortest.specs.Meaning.{shortest_meaning}
use Rattle.cmd_shortest.specs.declared.answer.ShortestAnswer.{ShortestAnswer}

-- what is found of a shortest mate names it, and its text is accepted
names_shortest : (p : Board) (rank : Rank) (c : Mating) (b : CertificateView BoundEntry) (moves : Vec Move Global)
    → IsPrintable (Found rank c b moves) → c.problem ≡ p → IsShortest p rank c b moves.items → NamesShortest rank c b moves
names_shortest p rank c b moves printed own is =
    let at = subst (λ (q : Board). IsShortest q rank c b moves.items) (sym own) is in
    record {
      mate = at.mate;
      none_shorter = at.none_shorter;
      accepted = record {
        rank = rank;
        certificate = c;
        bound = b;
        readable = (at.readable, at.bound_readable, at.version);
        text = (mate_text moves.items, (moves.items, printed.0, printed.1, refl), refl);
        is_rank = refl;
        board = c.problem;
        judged_for = refl;
        accepted = record {
          mate = record {
            valid = at.valid;
            ranked = at.own_rank;
          };
          bound = at.bound;
          shortest = record { mate = at.mate; no_shorter = at.none_shorter };
        };
      };
      line = at.is_line;
    }

-- and what is found of a limit
names_none : (p : Board) (limit : Rank) (b : CertificateView BoundEntry) → IsKept p → IsProblem p → IsNoneWithin p limit.number b → NamesNone limit b
names_none p limit b kept problem is = record {
  none = subst (λ (q : Board). RankAtMost q.side limit.number q → ⊥) (sym is.about) is.none;
  accepted = record {
    limit = limit;
    bound = b;
    readable = (
      subst IsKept (sym is.about) kept,
      subst IsProblem (sym is.about) problem,
      subst (λ (q : Board). bounds.IsReadable q b) (sym is.about) is.bound_readable,
    );
    text = refl;
    is_limit = refl;
    board = b.problem;
    judged_for = refl;
    accepted = record {
      problem = refl;
      bound = subst (λ (q : Board). IsValidBound b.entries q limit.number) (sym is.about) is.bound;
      no_mate = subst (λ (q : Board). RankAtMost q.side limit.number q → ⊥) (sym is.about) is.none;
    };
  };
}

-- how a run ended that told this was decided so
decided : (asked : ShortestView) (stops : Signals) (source sink : Shown) (finding : Finding) (made : ℕ) (ended : Ended ShortestAnswer ProblemFault)
    → IsEnded (shortest_meaning asked) stops source sink ended → TellsAfter made ended finding
    → IsDecided (shortest_meaning asked) stops source (record { finding = finding; made = made })
decided asked stops source sink finding made ended does tells =
    (subst (λ (e : Ended ShortestAnswer ProblemFault). IsEnded (shortest_meaning asked) stops source sink e) tells does).decided

-- the bytes that the source told are those of the decision
stands_at : (asked : ShortestView) (stops : Signals) (source : Shown) (input : List ℕ) (answer : ShortestAnswer)
    (d : IsDecided (shortest_meaning asked) stops source answer) → source.told ≡ Some input → StandsFor asked.form input (Ok d.true_of.problem)
stands_at asked stops source input answer d told =
    subst (λ (i : List ℕ). StandsFor asked.form i (Ok d.true_of.problem)) (took_it source.told source.told_after d.input input told d.read.took) d.true_of.stands_for

own_found_of : (asked : ShortestView) (stops : Signals) (source sink : Shown) (rank : Rank) (c : Mating) (b : CertificateView BoundEntry) (moves : Vec Move Global)
    (ended : Ended ShortestAnswer ProblemFault) → IsEnded (shortest_meaning asked) stops source sink ended → Tells ended (Found rank c b moves)
    → NamesShortest rank c b moves
own_found_of asked stops source sink rank c b moves ended does tells =
    let d = decided asked stops source sink (Found rank c b moves) tells.0 ended does tells.1 in
    names_shortest d.true_of.problem rank c b moves d.true_of.printable d.true_of.true_of.0.valid.problem d.true_of.true_of.0

own_none_of : (asked : ShortestView) (stops : Signals) (source sink : Shown) (limit : Rank) (b : CertificateView BoundEntry)
    (ended : Ended ShortestAnswer ProblemFault) → IsEnded (shortest_meaning asked) stops source sink ended → Tells ended (NoneWithin limit b)
    → NamesNone limit b
own_none_of asked stops source sink limit b ended does tells =
    let d = decided asked stops source sink (NoneWithin limit b) tells.0 ended does tells.1 in
    names_none d.true_of.problem limit b d.true_of.kept d.true_of.stands_for.is_problem
    (subst (λ (n : ℕ). IsNoneWithin d.true_of.problem n b) (sym d.true_of.true_of.0) d.true_of.true_of.1)

found_of : (asked : ShortestView) (stops : Signals) (source sink : Shown) (input : List ℕ) (rank : Rank) (c : Mating) (b : CertificateView BoundEntry) (moves : Vec Move Global)
    (ended : Ended ShortestAnswer ProblemFault) → IsEnded (shortest_meaning asked) stops source sink ended → source.told ≡ Some input
    → Tells ended (Found rank c b moves) → StandsForShortest asked.form asked.limit input rank c b moves
found_of asked stops source sink input rank c b moves ended does told tells =
    let answer : ShortestAnswer = record { finding = Found rank c b moves; made = tells.0 } in
    let d = decided asked stops source sink (Found rank c b moves) tells.0 ended does tells.1 in
    record {
      stands_for = subst (λ (p : Board). StandsFor asked.form input (Ok p)) (sym d.true_of.true_of.0.valid.problem) (stands_at asked stops source input answer d told);
      within = d.true_of.true_of.1;
      names = own_found_of asked stops source sink rank c b moves ended does tells;
    }

none_of : (asked : ShortestView) (stops : Signals) (source sink : Shown) (input : List ℕ) (limit : Rank) (b : CertificateView BoundEntry)
    (ended : Ended ShortestAnswer ProblemFault) → IsEnded (shortest_meaning asked) stops source sink ended → source.told ≡ Some input
    → Tells ended (NoneWithin limit b) → StandsForNone asked.form asked.limit input limit b
none_of asked stops source sink input limit b ended does told tells =
    let answer : ShortestAnswer = record { finding = NoneWithin limit b; made = tells.0 } in
    let d = decided asked stops source sink (NoneWithin limit b) tells.0 ended does tells.1 in
    record {
      stands_for = subst (λ (p : Board). StandsFor asked.form input (Ok p)) (sym d.true_of.true_of.1.about) (stands_at asked stops source input answer d told);
      is_limit = d.true_of.true_of.0;
      names = own_none_of asked stops source sink limit b ended does tells;
    }

unknown_of : (asked : ShortestView) (stops : Signals) (source sink : Shown) (input : List ℕ) (made : ℕ) (cause : Cause)
    (ended : Ended ShortestAnswer ProblemFault) → IsEnded (shortest_meaning asked) stops source sink ended → source.told ≡ Some input
    → TellsAfter made ended (Unknown cause) → StandsForUnknown asked (once_armed asked.watch.deadline stops) input made cause
unknown_of asked stops source sink input made cause ended does told tells =
    let answer : ShortestAnswer = record { finding = Unknown cause; made = made } in
    let d = decided asked stops source sink (Unknown cause) made ended does tells in
    record {
      problem = d.true_of.problem;
      stands_for = stands_at asked stops source input answer d told;
      why = d.true_of.true_of;
      heeded = d.true_of.heeded;
      polled = d.true_of.polled;
    }

-- what stands for a problem has no fault
posed_of : OneReading → (asked : ShortestView) (left : Option (List ℕ)) → HasProblemLeft asked.form left → IsWellPosed (shortest_meaning asked) left
posed_of one asked left given = record {
  input = given.input;
  told = given.told;
  short = given.short;
  faultless = λ fault is. let same = one asked.form given.input (Ok given.problem) (Err fault) given.stands_for is in absurd (cc);
}

-- a run of `shortest` keeps all that it promises
pub shortest_run : OneReading → (asked : ShortestView) (stops : Signals) (source sink : Shown) (ended : Ended ShortestAnswer ProblemFault)
    → IsRun (shortest_meaning asked) stops source sink ended → IsShortestRun asked stops source sink ended
shortest_run one asked stops source sink ended run = record {
  found = λ input rank c b moves told is. found_of asked stops source sink input rank c b moves ended run.does told is;
  none_within = λ input limit b told is. none_of asked stops source sink input limit b ended run.does told is;
  gave_up = λ input made cause told is. unknown_of asked stops source sink input made cause ended run.does told is;
  own_found = λ rank c b moves is. own_found_of asked stops source sink rank c b moves ended run.does is;
  own_none = λ limit b is. own_none_of asked stops source sink limit b ended run.does is;
  does = run.does;
  used = run.used;
  counted = run.counted;
  complete = λ given sound kept. run.complete (posed_of one asked source.told given) sound kept;
}
