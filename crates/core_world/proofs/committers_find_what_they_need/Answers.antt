-- By what a world keeps.
use Rattle.core_world.proofs.Shadowed.{shadowed}
use Rattle.core_world.proofs.committers_find_what_they_need.Goals as goal
use Rattle.core_world.proofs.Truths.{due_drawn, flies_there, met_rooted, root_stays}

pub returns-clause-flies : goal.returns-clause-flies
returns-clause-flies g c = λ w s x kept here. flies_there (g.L.Law.may_start c.args.law.now) (g.L.Law.may_say c.args.law.now) (g.L.Law.proper c.args.law.now) w kept.sessions s x here

pub returns-clause-met : goal.returns-clause-met
returns-clause-met g c = λ w s x p f kept here h. met_rooted (g.L.Law.may_start c.args.law.now) (g.L.Law.may_say c.args.law.now) (g.L.Law.proper c.args.law.now) w kept.sessions s x here p f h

pub returns-clause-due : goal.returns-clause-due
returns-clause-due g c = λ w s x f kept here h. due_drawn (g.L.Law.may_start c.args.law.now) (g.L.Law.may_say c.args.law.now) (g.L.Law.proper c.args.law.now) w kept.sessions s x here f h

pub returns-clause-roots : goal.returns-clause-roots
returns-clause-roots g c = λ w e r nodes run drawn. root_stays (g.L.Law.may_start c.args.law.now) (g.L.Law.may_say c.args.law.now) w.clusters w.sessions w.begin nodes e w.past r run drawn

pub returns-clause-shadowed : goal.returns-clause-shadowed
returns-clause-shadowed g c = λ w s x p o n kept here moved outside. shadowed (g.L.Law.may_start c.args.law.now) (g.L.Law.may_say c.args.law.now) (g.L.Law.proper c.args.law.now) w kept.sessions s x here p o n moved outside
