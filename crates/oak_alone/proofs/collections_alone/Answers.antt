use Rattle.oak_alone.proofs.collections_alone.Goals as goal
use Rattle.oak_alone.proofs.Whole.{collects_alone}

pub returns : goal.returns
returns g c = collects_alone (g.L.Law.may_start c.args.law.now) (g.L.Law.may_say c.args.law.now) g.row.L.Denot
