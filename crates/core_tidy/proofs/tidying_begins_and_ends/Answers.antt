use Rattle.core_tidy.proofs.tidying_begins_and_ends.Goals as goal
use Rattle.core_tidy.proofs.Beginning.{begins_collection, begins_split, ends_tidying, told_tidy}
use Rattle.core_tidy.proofs.Whole.{starts_tidy}

pub returns-clause-start : goal.returns-clause-start
returns-clause-start g c = λ clusters sessions. starts_tidy clusters sessions

pub returns-clause-split : goal.returns-clause-split
returns-clause-split g c = λ w does s a pin p kept tidies on login stays has. begins_split (g.L.Law.may_start c.args.law.now) (g.L.Law.may_say c.args.law.now) (g.L.Law.proper c.args.law.now) w kept does tidies s a pin p on login stays has

pub returns-clause-collection : goal.returns-clause-collection
returns-clause-collection g c = λ w does s a kept tidies login stays. begins_collection (g.L.Law.may_start c.args.law.now) (g.L.Law.may_say c.args.law.now) (g.L.Law.proper c.args.law.now) w kept does tidies s a login stays

pub returns-clause-end : goal.returns-clause-end
returns-clause-end g c = λ w does s kept tidies. ends_tidying (g.L.Law.may_start c.args.law.now) (g.L.Law.may_say c.args.law.now) (g.L.Law.proper c.args.law.now) w kept does tidies s

pub returns-clause-told : goal.returns-clause-told
returns-clause-told g c = λ w does s e kept tidies none own may. told_tidy (g.L.Law.may_start c.args.law.now) (g.L.Law.may_say c.args.law.now) (g.L.Law.proper c.args.law.now) w kept does tidies s none e own may
