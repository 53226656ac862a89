-- By the induction over runs.
use Rattle.core_heads.proofs.bases_are_settled.Goals as goal
use Rattle.core_heads.proofs.Stays.{hand_settled, hand_tree_stays, hand_unseen}

pub returns-clause-settled : goal.returns-clause-settled
returns-clause-settled g c = λ h v is hand. hand_settled (g.L.Law.may_start c.args.law.now) (g.L.Law.may_say c.args.law.now) h v is hand

pub returns-clause-unseen : goal.returns-clause-unseen
returns-clause-unseen g c = λ h d v is hand. hand_unseen (g.L.Law.may_start c.args.law.now) (g.L.Law.may_say c.args.law.now) h v d is hand

pub returns-clause-stays : goal.returns-clause-stays
returns-clause-stays g c = λ h added v is hand. hand_tree_stays (g.L.Law.may_start c.args.law.now) (g.L.Law.may_say c.args.law.now) h v added is hand
