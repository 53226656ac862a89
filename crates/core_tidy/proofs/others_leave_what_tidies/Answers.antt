use Rattle.core_tidy.proofs.others_leave_what_tidies.Goals as goal
use Rattle.core_tidy.proofs.Making.{plain_made}
use Rattle.core_tidy.proofs.Whole.{others_tidy}

pub returns-clause-plain : goal.returns-clause-plain
returns-clause-plain g c = λ w u does kept later tidies plain. (plain_made (g.L.Law.may_start c.args.law.now) (g.L.Law.may_say c.args.law.now) w tidies.numbered tidies.own u later plain.own plain.grown plain.clusters plain.sessions plain.begin plain.formers plain.low plain.table plain.holds plain.previous plain.nodes).lets

pub returns-clause-others : goal.returns-clause-others
returns-clause-others g c = λ w u does s kept later tidies lets none others. others_tidy (g.L.Law.may_start c.args.law.now) (g.L.Law.may_say c.args.law.now) (g.L.Law.proper c.args.law.now) w u kept later does tidies (λ p k. ⊥) lets s none (λ p k h. h) others
