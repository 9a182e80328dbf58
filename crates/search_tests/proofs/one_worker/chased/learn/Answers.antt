use Rattle.notes.specs.declared.words.Update.TheVariants.{Note as Noted}
use Rattle.lone_port.specs.Lone.{worker_at_first, book_of}
use Rattle.search_tests.proofs.Learnt.{learnt_suits}
use Rattle.search_tests.proofs.one_worker.chased.learn.Goals as goal

pub returns : goal.returns
returns c = λ number.
    learnt_suits (worker_at_first c.args.problem.now.position number) (book_of c.args.port.now) (book_of c.enter-kept.new.self) (book_of c.leave.new.self)
    c.key-key.result _ c.enter-kept.result (Noted c.args.note) c.enter-kept.ensures.book c.leave.ensures.book (c.requires.suits number)
