-- By the theorem on references.
use Rattle.core_obeys.proofs.Obeys.{references_kept}
use Rattle.core_obeys.proofs.commits_keep_references.Goals as goal

pub returns : goal.returns
returns g c = λ types tokens h m tidy.
    references_kept h.clusters h.sessions m.nodes h.begin (g.L.Law.may_start c.args.law.now) (g.L.Law.may_say c.args.law.now) (g.L.Law.proper c.args.law.now) types tokens m.plans h.past m.run tidy
