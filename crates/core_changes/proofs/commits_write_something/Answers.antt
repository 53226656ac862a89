-- By the draws of the run.
use Rattle.core_changes.proofs.Written.{are_writing}
use Rattle.core_changes.proofs.commits_write_something.Goals as goal

pub returns : goal.returns
returns g c = λ clusters sessions begin past from to nodes run.
    are_writing (g.L.Law.may_start c.args.law.now) (g.L.Law.may_say c.args.law.now) clusters sessions begin (g.L.Law.writes c.args.law.now) nodes (g.L.Law.proper c.args.law.now) past run from to
