-- By the merging theorem, and what runs say of heads, bases and checkpoints.
use Rattle.core_heads.proofs.Runs.{closed_run, head_run, sound_run}
use Rattle.core_merge.proofs.Merged.{base_tree_merged, tree_merged}
use Rattle.core_merge.proofs.Order.{order_is_same, tree_in_order}
use Rattle.core_merge.proofs.merged_trees_are_trees.Goals as goal

pub returns-clause-closed : goal.returns-clause-closed
returns-clause-closed g c = λ h v m closed.
    tree_merged h.clusters h.sessions m.nodes h.begin (g.L.Law.may_start c.args.law.now) (g.L.Law.may_say c.args.law.now) (g.L.Law.proper c.args.law.now) m.marking h.past m.run v closed

pub returns-clause-heads : goal.returns-clause-heads
returns-clause-heads g c = λ h k m node.
    let held = head_run h.clusters h.sessions m.nodes h.begin (g.L.Law.may_start c.args.law.now) (g.L.Law.may_say c.args.law.now) h.past m.run k node in
    tree_merged h.clusters h.sessions m.nodes h.begin (g.L.Law.may_start c.args.law.now) (g.L.Law.may_say c.args.law.now) (g.L.Law.proper c.args.law.now) m.marking h.past m.run _
    (closed_run h.clusters h.sessions m.nodes h.begin (g.L.Law.may_start c.args.law.now) (g.L.Law.may_say c.args.law.now) h.past m.run _ held)

pub returns-clause-bases : goal.returns-clause-bases
returns-clause-bases g c = λ h s v m is.
    let held = (sound_run h.clusters h.sessions m.nodes h.begin (g.L.Law.may_start c.args.law.now) (g.L.Law.may_say c.args.law.now) h.past m.run).bases s v is in
    tree_merged h.clusters h.sessions m.nodes h.begin (g.L.Law.may_start c.args.law.now) (g.L.Law.may_say c.args.law.now) (g.L.Law.proper c.args.law.now) m.marking h.past m.run v
    (closed_run h.clusters h.sessions m.nodes h.begin (g.L.Law.may_start c.args.law.now) (g.L.Law.may_say c.args.law.now) h.past m.run v held)

pub returns-clause-kept : goal.returns-clause-kept
returns-clause-kept g c = λ h id v m is.
    let held = (sound_run h.clusters h.sessions m.nodes h.begin (g.L.Law.may_start c.args.law.now) (g.L.Law.may_say c.args.law.now) h.past m.run).kept id v is in
    tree_merged h.clusters h.sessions m.nodes h.begin (g.L.Law.may_start c.args.law.now) (g.L.Law.may_say c.args.law.now) (g.L.Law.proper c.args.law.now) m.marking h.past m.run v
    (closed_run h.clusters h.sessions m.nodes h.begin (g.L.Law.may_start c.args.law.now) (g.L.Law.may_say c.args.law.now) h.past m.run v held)

pub returns-clause-order : goal.returns-clause-order
returns-clause-order g c = λ h m.
    tree_in_order h.clusters h.sessions m.nodes h.begin (g.L.Law.may_start c.args.law.now) (g.L.Law.may_say c.args.law.now) (g.L.Law.proper c.args.law.now) m.marking h.past m.run

pub returns-clause-draws : goal.returns-clause-draws
returns-clause-draws g c = λ h r d m drawn.
    base_tree_merged h.clusters h.sessions m.nodes h.begin (g.L.Law.may_start c.args.law.now) (g.L.Law.may_say c.args.law.now) (g.L.Law.proper c.args.law.now) m.marking h.past m.run r d drawn

pub returns-clause-same : goal.returns-clause-same
returns-clause-same g c = λ h v m closed each.
    order_is_same h.clusters h.sessions m.nodes h.begin (g.L.Law.may_start c.args.law.now) (g.L.Law.may_say c.args.law.now) (g.L.Law.proper c.args.law.now) m.marking h.past m.run v closed each
