use Rattle.core_begun.proofs.Runs.{told_history, used_history}
use Rattle.core_begun.proofs.runs_can_be_read_from_their_start.Goals as goal

pub returns-clause-told : goal.returns-clause-told
returns-clause-told g c = λ h is. told_history (g.L.Law.may_start c.args.law.now) (g.L.Law.may_say c.args.law.now) (g.L.Law.proper c.args.law.now) h is

pub returns-clause-used : goal.returns-clause-used
returns-clause-used g c = λ h v is hand. used_history (g.L.Law.may_start c.args.law.now) (g.L.Law.may_say c.args.law.now) h v is hand
