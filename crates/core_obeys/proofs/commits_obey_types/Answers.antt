-- By the theorem on types, and what runs say of bases.
use Rattle.core_heads.proofs.Runs.{closed_run, sound_run}
use Rattle.core_obeys.proofs.Obeys.{types_obeyed, types_seen}
use Rattle.core_obeys.proofs.commits_obey_types.Goals as goal

pub returns-clause-order : goal.returns-clause-order
returns-clause-order g c = λ types tokens h m.
    types_obeyed h.clusters h.sessions m.nodes h.begin (g.L.Law.may_start c.args.law.now) (g.L.Law.may_say c.args.law.now) (g.L.Law.proper c.args.law.now) types tokens m.plans m.typed h.past m.run

pub returns-clause-closed : goal.returns-clause-closed
returns-clause-closed g c = λ types tokens h v m closed.
    types_seen h.clusters h.sessions m.nodes h.begin (g.L.Law.may_start c.args.law.now) (g.L.Law.may_say c.args.law.now) (g.L.Law.proper c.args.law.now) types tokens m.plans m.typed h.past m.run v closed

pub returns-clause-bases : goal.returns-clause-bases
returns-clause-bases g c = λ types tokens h s v m is.
    let held = (sound_run h.clusters h.sessions m.nodes h.begin (g.L.Law.may_start c.args.law.now) (g.L.Law.may_say c.args.law.now) h.past m.run).bases s v is in
    types_seen h.clusters h.sessions m.nodes h.begin (g.L.Law.may_start c.args.law.now) (g.L.Law.may_say c.args.law.now) (g.L.Law.proper c.args.law.now) types tokens m.plans m.typed h.past m.run v
    (closed_run h.clusters h.sessions m.nodes h.begin (g.L.Law.may_start c.args.law.now) (g.L.Law.may_say c.args.law.now) h.past m.run v held)
