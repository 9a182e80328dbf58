use Rattle.std.proofs.Common.{◌≡◌, ◌++◌}
use Rattle.std.proofs.lemmas.List.Elements.{All-same, All-append}
use Rattle.word_desk.specs.WordDesk.{DeskSeatView}
use Rattle.shared_tests.proofs.shared_desk.together.Goals as goal

pub returns-clause-seats : goal.returns-clause-seats
returns-clause-seats c =
    let P : DeskSeatView → Type 0 = λ s. (s.desk ≡ c.args.desk.now) × (s.parts ≡ 1) in
    let low = c.args.seats.items in
    let high = c.args.others.items in
    All-same P c.append.new.self.items (low ++ high) c.in_ok-append.ensures.items (All-append P low high c.requires.seats c.requires.others)
