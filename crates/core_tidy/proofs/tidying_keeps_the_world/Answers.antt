use Rattle.core_tidy.proofs.tidying_keeps_the_world.Goals as goal
use Rattle.core_tidy.proofs.Stepping.{tidying_steps}

pub returns : goal.returns
returns g c = record { step = λ w does s x kept tidies table is can. tidying_steps (g.L.Law.may_start c.args.law.now) (g.L.Law.may_say c.args.law.now) (g.L.Law.proper c.args.law.now) w kept does tidies table s x is can }
