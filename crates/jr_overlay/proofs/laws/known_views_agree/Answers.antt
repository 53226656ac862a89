use Rattle.std.proofs.Common.{sym, ◌∙◌}
use Rattle.jr_overlay.proofs.Below.{seen_under, subtree_known}
use Rattle.jr_overlay.proofs.Children.{children_known}
use Rattle.jr_overlay.proofs.Commits.{known_seen}
use Rattle.jr_overlay.proofs.Views.{node_at-view}
use Rattle.jr_overlay.proofs.laws.known_views_agree.Goals as goal

pub returns-clause-node : goal.returns-clause-node
returns-clause-node c = λ t k changed p tree agrees over known.
    known_seen t k changed p agrees over known ∙ sym (node_at-view t changed tree.paths over.paths p)

pub returns-clause-children : goal.returns-clause-children
returns-clause-children c = λ t k changed p tree agrees known. children_known p t k changed tree agrees known

pub returns-clause-below : goal.returns-clause-below
returns-clause-below c = λ t k changed p tree sorted agrees over nothing.
    subtree_known t tree k sorted agrees p nothing changed over.paths

pub returns-clause-nodes_below : goal.returns-clause-nodes_below
returns-clause-nodes_below c = λ t k changed p q tree sorted agrees over nothing under.
    seen_under t tree k sorted agrees p nothing changed q under ∙ sym (node_at-view t changed tree.paths over.paths q)
