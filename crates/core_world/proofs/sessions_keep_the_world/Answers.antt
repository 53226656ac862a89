-- Each step by its lemma.
use Rattle.core_world.proofs.sessions_keep_the_world.Goals as goal
use Rattle.core_world.proofs.Whole.{gone_whole, leave_whole, list_whole, load_whole, login_whole, observe_whole, read_whole, refresh_whole, said_whole, start_whole, task_end_whole, went_whole}

pub returns-clause-start : goal.returns-clause-start
returns-clause-start g c = λ clusters sessions nodes. start_whole (g.L.Law.may_start c.args.law.now) (g.L.Law.may_say c.args.law.now) clusters sessions nodes

pub returns-clause-login : goal.returns-clause-login
returns-clause-login g c = λ w s kept on there first. login_whole (g.L.Law.may_start c.args.law.now) (g.L.Law.may_say c.args.law.now) (g.L.Law.proper c.args.law.now) w kept s on there first

pub returns-clause-refresh : goal.returns-clause-refresh
returns-clause-refresh g c = λ w s kept on login stays none unread unobserved. refresh_whole (g.L.Law.may_start c.args.law.now) (g.L.Law.may_say c.args.law.now) (g.L.Law.proper c.args.law.now) w kept s on login stays none unread unobserved

pub returns-clause-leave : goal.returns-clause-leave
returns-clause-leave g c = λ w s kept on few login stays none unread unobserved. leave_whole (g.L.Law.may_start c.args.law.now) (g.L.Law.may_say c.args.law.now) (g.L.Law.proper c.args.law.now) w kept s on few login stays none unread unobserved

pub returns-clause-observe : goal.returns-clause-observe
returns-clause-observe g c = λ w s pin kept few login stays unread unobserved has. observe_whole (g.L.Law.may_start c.args.law.now) (g.L.Law.may_say c.args.law.now) (g.L.Law.proper c.args.law.now) w kept s pin few login stays unread unobserved has

pub returns-clause-said : goal.returns-clause-said
returns-clause-said g c = λ w s i text kept next lawful. said_whole (g.L.Law.may_start c.args.law.now) (g.L.Law.may_say c.args.law.now) (g.L.Law.proper c.args.law.now) w kept s i text next lawful

pub returns-clause-went : goal.returns-clause-went
returns-clause-went g c = λ w s k kept other apart login stays. went_whole (g.L.Law.may_start c.args.law.now) (g.L.Law.may_say c.args.law.now) (g.L.Law.proper c.args.law.now) w kept s k other apart login stays

pub returns-clause-load : goal.returns-clause-load
returns-clause-load g c = λ w s a pin p kept on login stays has. load_whole (g.L.Law.may_start c.args.law.now) (g.L.Law.may_say c.args.law.now) (g.L.Law.proper c.args.law.now) w kept s a pin p on login stays has

pub returns-clause-list : goal.returns-clause-list
returns-clause-list g c = λ w s a pin p kept on login stays has. list_whole (g.L.Law.may_start c.args.law.now) (g.L.Law.may_say c.args.law.now) (g.L.Law.proper c.args.law.now) w kept s a pin p on login stays has

pub returns-clause-read : goal.returns-clause-read
returns-clause-read g c = λ w s r kept here table. read_whole (g.L.Law.may_start c.args.law.now) (g.L.Law.may_say c.args.law.now) (g.L.Law.proper c.args.law.now) w kept s r here table

pub returns-clause-gone : goal.returns-clause-gone
returns-clause-gone g c = λ w s kept. gone_whole (g.L.Law.may_start c.args.law.now) (g.L.Law.may_say c.args.law.now) (g.L.Law.proper c.args.law.now) w kept s

pub returns-clause-task_end : goal.returns-clause-task_end
returns-clause-task_end g c = λ w s e kept own may. task_end_whole (g.L.Law.may_start c.args.law.now) (g.L.Law.may_say c.args.law.now) (g.L.Law.proper c.args.law.now) w kept s e own may
