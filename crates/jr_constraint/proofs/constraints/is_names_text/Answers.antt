use Rattle.std.proofs.Common.{◌+◌, drop, false}
use Rattle.jr_path.specs.Ids.{joined}
use Rattle.jr_constraint.proofs.NamesText.{name_behind}
use Rattle.jr_constraint.proofs.constraints.is_names_text.Goals as goal

pub loop-name-preserved : goal.loop-name-preserved
loop-name-preserved c =
    name_behind c.args.names.now c.loop-name.name-index c.name-item.result c.args.text.now c.loop-name.rest.now _ c.loop-name-test.true c.name-item.is c.loop-name.invariant
    (rw c.as_str.ensures at (c.in-Some.ensures (joined (drop (c.loop-name.name-index + 1) c.args.names.now))))

pub returns-in-None : goal.returns-in-None
returns-in-None c =
    name_behind c.args.names.now c.loop-name.name-index c.name-item.result c.args.text.now c.loop-name.rest.now false c.loop-name-test.true c.name-item.is c.loop-name.invariant
    (rw c.as_str.ensures at (c.in-None.ensures (joined (drop (c.loop-name.name-index + 1) c.args.names.now))))
