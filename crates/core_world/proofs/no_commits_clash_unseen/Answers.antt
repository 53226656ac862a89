-- By what a world keeps.
use Rattle.core_world.proofs.no_commits_clash_unseen.Goals as goal
use Rattle.core_world.proofs.Truths.{comes_through, has_cause, leaves_nothing, no_clash_unseen}

pub returns-clause-apart : goal.returns-clause-apart
returns-clause-apart g c = λ w r o kept apart cr co clash. no_clash_unseen (g.L.Law.may_start c.args.law.now) (g.L.Law.may_say c.args.law.now) (g.L.Law.proper c.args.law.now) w kept.sessions r o apart cr co clash

pub returns-clause-causes : goal.returns-clause-causes
returns-clause-causes g c = λ w r item o kept h. has_cause (g.L.Law.may_start c.args.law.now) (g.L.Law.may_say c.args.law.now) (g.L.Law.proper c.args.law.now) w kept.sessions r item o h

pub returns-clause-through : goal.returns-clause-through
returns-clause-through g c = λ w r kept ended apart. comes_through (g.L.Law.may_start c.args.law.now) (g.L.Law.may_say c.args.law.now) (g.L.Law.proper c.args.law.now) w kept.sessions r ended apart

pub returns-clause-undone : goal.returns-clause-undone
returns-clause-undone g c = λ w r p d kept ended uncommitted is. leaves_nothing (g.L.Law.may_start c.args.law.now) (g.L.Law.may_say c.args.law.now) (g.L.Law.proper c.args.law.now) w kept.sessions r ended uncommitted p d is
