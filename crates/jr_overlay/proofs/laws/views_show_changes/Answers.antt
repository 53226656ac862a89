use Rattle.jr_overlay.proofs.Views.{node_at-view, sorted-view}
use Rattle.jr_overlay.proofs.laws.views_show_changes.Goals as goal

pub returns-clause-nodes : goal.returns-clause-nodes
returns-clause-nodes c = node_at-view

pub returns-clause-order : goal.returns-clause-order
returns-clause-order c = sorted-view
