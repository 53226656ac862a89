-- By what a world keeps.
use Rattle.core_world.proofs.worlds_are_kept.Goals as goal
use Rattle.core_world.proofs.Keeping.{world_kept}

pub returns : goal.returns
returns g c = λ w kept. world_kept (g.L.Law.may_start c.args.law.now) (g.L.Law.may_say c.args.law.now) (g.L.Law.proper c.args.law.now) w kept.sessions
