-- An edit that is proper at its base is so with what is independent of it.
use Rattle.core_merge.proofs.Merged.{edit_proper, proper_below}
use Rattle.core_merge.proofs.Order.{proper_in_order}
use Rattle.core_merge.proofs.merged_edits_stay_proper.Goals as goal

pub returns-clause-base : goal.returns-clause-base
returns-clause-base g c = λ h r d m drawn.
    edit_proper h.clusters h.sessions m.nodes h.begin (g.L.Law.may_start c.args.law.now) (g.L.Law.may_say c.args.law.now) (g.L.Law.proper c.args.law.now) m.marking h.past m.run r d drawn

pub returns-clause-below : goal.returns-clause-below
returns-clause-below g c = λ h v r d m closed done drawn seen.
    proper_below h.clusters h.sessions m.nodes h.begin (g.L.Law.may_start c.args.law.now) (g.L.Law.may_say c.args.law.now) (g.L.Law.proper c.args.law.now) m.marking h.past m.run r d drawn v closed done seen

pub returns-clause-order : goal.returns-clause-order
returns-clause-order g c = λ h r d m drawn may.
    proper_in_order h.clusters h.sessions m.nodes h.begin (g.L.Law.may_start c.args.law.now) (g.L.Law.may_say c.args.law.now) (g.L.Law.proper c.args.law.now) m.marking h.past m.run r d drawn may
