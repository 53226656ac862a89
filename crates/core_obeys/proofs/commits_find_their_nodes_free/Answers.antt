-- By the theorem on locks and checked-in nodes.
use Rattle.core_obeys.proofs.Obeys.{commit_free}
use Rattle.core_obeys.proofs.commits_find_their_nodes_free.Goals as goal

pub returns : goal.returns
returns g c = λ types tokens h r d m drawn may.
    commit_free h.clusters h.sessions m.nodes h.begin (g.L.Law.may_start c.args.law.now) (g.L.Law.may_say c.args.law.now) (g.L.Law.proper c.args.law.now) types tokens m.plans h.past m.run r d drawn may
