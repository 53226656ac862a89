-- By the draws of a run.
use Rattle.core_nodes.proofs.times_are_counted.Goals as goal
use Rattle.core_nodes.proofs.Times.{known_events, known_most}

pub returns-clause-draws : goal.returns-clause-draws
returns-clause-draws g c = λ begin clusters sessions past k s nodes run node is. known_most begin clusters sessions nodes (g.L.Law.may_start c.args.law.now) (g.L.Law.may_say c.args.law.now) past run k s node is

pub returns-clause-events : goal.returns-clause-events
returns-clause-events g c = λ begin clusters sessions past k s nodes run node is. known_events begin clusters sessions nodes (g.L.Law.may_start c.args.law.now) (g.L.Law.may_say c.args.law.now) past run k s node is
