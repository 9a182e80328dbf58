use Rattle.std.proofs.Common.{refl, subst}
use Rattle.std.specs.Prelude.{Some}
use Rattle.notes.specs.declared.words.Draw.{Draw}
use Rattle.visit_log.specs.declared.words.Request.TheVariants.{Draw as Draws}
use Rattle.visit_log.specs.declared.words.Reply.TheVariants.{Draw as Drew}
use Rattle.lone_port.specs.Lone.{Turns}
use Rattle.search_pool.proofs.watched.WatchedPort.draw.Goals as goal

pub returns-in-Go-clause-turn : goal.returns-in-Go-clause-turn
returns-in-Go-clause-turn g c =
    λ path. (refl, refl, (subst (λ (d : Draw). Turns c.args.self.now.port.now path Draws (Some (Drew d)) c.draw-draw.new.self) c.in-Go.is (c.draw-draw.ensures.turn path), refl))

pub returns-in_default : goal.returns-in_default
returns-in_default g c = record { turn = λ path. (refl, refl, (c.draw-draw.ensures.turn path, refl)); book = c.draw-draw.ensures.book }
