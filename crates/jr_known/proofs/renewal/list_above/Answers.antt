use Rattle.std.proofs.Common.{sym, ◌∙◌}
use Rattle.jr_known.proofs.Listing.{lists_at_child, lists_nameless, lists_topmost}
use Rattle.jr_known.proofs.renewal.list_above.Goals as goal

pub returns-in_default : goal.returns-in_default
returns-in_default c = lists_nameless c.args.part.now c.args.born c.args.path.now (sym c.in_default.ensures)

pub returns-in-Some-2 : goal.returns-in-Some-2
returns-in-Some-2 c =
    lists_at_child c.args.part.now c.list_child.new.part c.args.born c.args.path.now c.in-Some-2.above c.in-Some.name.now c.list_child.result (sym c.in-Some.ensures) (sym c.in_ok-above.ensures ∙ c.in-Some-2.is) c.list_child.ensures

pub returns-in-None : goal.returns-in-None
returns-in-None c = lists_topmost c.args.part.now c.args.born c.args.path.now (sym c.in_ok-above.ensures ∙ c.in-None.is)
