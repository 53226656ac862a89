use Rattle.std.proofs.Common.{subst}
use Rattle.std.specs.Prelude.{None}
use Rattle.oak_machine.specs.History.{Past}
use Rattle.oak_machine.specs.Runs.{IsRunOf}
use Rattle.core_world.proofs.Seen.{seen_stays}
use Rattle.core_world.proofs.what_is_seen_stays.Goals as goal
use Rattle.core_world.specs.States.{origin}

pub returns : goal.returns
returns g c = λ u e past v r kept grown settled seen some. seen_stays (g.L.Law.may_start c.args.law.now) (g.L.Law.may_say c.args.law.now) u.clusters u.sessions u.begin (origin u) e past
    (subst (λ (l : Past). IsRunOf (g.L.Law.may_start c.args.law.now) (g.L.Law.may_say c.args.law.now) u.clusters u.sessions u.begin l) grown kept.sessions.run) v settled r seen some
