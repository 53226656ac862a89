use Rattle.oak_alone.proofs.splits_alone.Goals as goal
use Rattle.oak_alone.proofs.Whole.{splits_alone}

pub returns : goal.returns
returns g c = splits_alone (g.L.Law.may_start c.args.law.now) (g.L.Law.may_say c.args.law.now) g.row.L.Denot
