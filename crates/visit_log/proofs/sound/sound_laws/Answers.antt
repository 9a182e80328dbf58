use Rattle.visit_log.proofs.SoundSteps.{stays_sound, reached_sound, asks_sound, opened_sound, looked_sound, back_sound}
use Rattle.visit_log.proofs.Ended.{asks_end}
use Rattle.visit_log.proofs.Paths.{paths_once}
use Rattle.visit_log.proofs.sound.sound_laws.Goals as goal

pub returns-clause-stays : goal.returns-clause-stays
returns-clause-stays c = λ task s t happening is sound happens. stays_sound task s t happening sound happens

pub returns-clause-reached : goal.returns-clause-reached
returns-clause-reached c = λ task happenings s is runs. reached_sound task happenings s runs

pub returns-clause-asks : goal.returns-clause-asks
returns-clause-asks c = λ task s is sound. asks_sound task s.stage s.frames sound

pub returns-clause-opened : goal.returns-clause-opened
returns-clause-opened c = λ task f fs kept children place are. opened_sound task f fs kept children place are

pub returns-clause-looked : goal.returns-clause-looked
returns-clause-looked c = λ task f fs sight sound at there may tells. looked_sound task f fs sight sound at there may tells

pub returns-clause-back : goal.returns-clause-back
returns-clause-back c = λ task f g gs child left above sound there solved. back_sound task f gs g child left above sound there solved

pub returns-clause-ends : goal.returns-clause-ends
returns-clause-ends c = λ task happenings s end is runs. asks_end task happenings s end is runs

pub returns-clause-paths : goal.returns-clause-paths
returns-clause-paths c = λ task happenings s runs. paths_once task happenings s runs
