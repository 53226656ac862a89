use Rattle.std.proofs.Common.{ap, ◌∙◌}
use Rattle.jr_tree.specs.Trees.{Nodes, node_at}
use Rattle.core_begun.specs.Told.{start_in}
use Rattle.core_begun.proofs.Course.{reading_since}
use Rattle.core_begun.proofs.Runs.{tree_in}
use Rattle.core_begun.proofs.documents_kept_since_a_start_mean_the_tree.Goals as goal

pub returns-clause-start : goal.returns-clause-start
returns-clause-start c = λ start ds past done v t p world held. reading_since start ds past done v t world held p

pub returns-clause-history : goal.returns-clause-history
returns-clause-history c = λ clusters begin ds past done v t p world held.
    reading_since (start_in clusters begin) ds past done v t world held p ∙ ap (λ (u : Nodes). node_at u p) (tree_in clusters begin past v)
