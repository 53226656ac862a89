use Rattle.std.proofs.Common.{ap, ◌∙◌}
use Rattle.jr_tree.specs.Edits.{changes}
use Rattle.jr_tree.specs.Trees.{Nodes}
use Rattle.jr_known.specs.Gone.{gone_nodes}
use Rattle.jr_known.proofs.Leaving.{left_earlier}
use Rattle.jr_known.proofs.gone.leave_gone.Goals as goal

pub returns-clause-earlier : goal.returns-clause-earlier
returns-clause-earlier c = λ t tree agrees earlier.
    left_earlier c.args.part.now c.args.fresh.now c.args.told.now c.requires.known t tree agrees c.in_order.ensures.nodes c.requires.whole earlier c.in_ok-edit.edit.writes c.apply.new.self
    (c.in_ok-edit.ensures
    ∙ (ap (λ (g : Nodes). changes g c.new.result) c.in_ok-gone.ensures
    ∙ ap (λ (none : Nodes). changes (gone_nodes c.args.part.now c.args.fresh.now c.args.told.now) none) c.new.ensures))
    c.in_ok-apply.ensures.agrees
