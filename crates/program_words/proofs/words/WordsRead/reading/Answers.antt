use Rattle.program_words.proofs.words.WordsRead.reading.Goals as goal

pub returns-clause-failed : goal.returns-clause-failed
returns-clause-failed c = c.kept.ensures.failed

pub returns-clause-complete : goal.returns-clause-complete
returns-clause-complete c = c.kept.ensures.complete
