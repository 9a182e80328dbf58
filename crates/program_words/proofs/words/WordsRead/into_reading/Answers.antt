use Rattle.program_words.proofs.words.WordsRead.into_reading.Goals as goal

pub returns-clause-failed : goal.returns-clause-failed
returns-clause-failed c = c.into_kept.ensures.failed

pub returns-clause-complete : goal.returns-clause-complete
returns-clause-complete c = c.into_kept.ensures.complete
