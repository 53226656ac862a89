-- By what is kept of each reader of changes.
use Rattle.core_world.proofs.changes_are_observed.Goals as goal
use Rattle.core_world.proofs.Whole.{changes_whole, feed_whole, lies_whole, notice_whole, unnotice_whole}

pub returns-clause-begins : goal.returns-clause-begins
returns-clause-begins g c = λ w s a from pin kept on few login stays at has. notice_whole (g.L.Law.may_start c.args.law.now) (g.L.Law.may_say c.args.law.now) (g.L.Law.proper c.args.law.now) w kept s a from pin on few login stays at has

pub returns-clause-feeds : goal.returns-clause-feeds
returns-clause-feeds g c = λ w s r kept here table. feed_whole (g.L.Law.may_start c.args.law.now) (g.L.Law.may_say c.args.law.now) (g.L.Law.proper c.args.law.now) w kept (g.L.Law.writes c.args.law.now) s r here table

pub returns-clause-gone : goal.returns-clause-gone
returns-clause-gone g c = λ w s kept. unnotice_whole (g.L.Law.may_start c.args.law.now) (g.L.Law.may_say c.args.law.now) (g.L.Law.proper c.args.law.now) w kept s

pub returns-clause-lies : goal.returns-clause-lies
returns-clause-lies g c = λ w s r kept here. lies_whole (g.L.Law.may_start c.args.law.now) (g.L.Law.may_say c.args.law.now) (g.L.Law.proper c.args.law.now) w kept s r here

pub returns-clause-gives : goal.returns-clause-gives
returns-clause-gives g c = λ w s r o kept here ends. changes_whole (g.L.Law.may_start c.args.law.now) (g.L.Law.may_say c.args.law.now) (g.L.Law.proper c.args.law.now) w kept s r o here ends
