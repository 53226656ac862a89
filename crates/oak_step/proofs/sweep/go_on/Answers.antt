use Rattle.oak_step.proofs.sweep.go_on.Goals as goal

pub returns-in-Root : goal.returns-in-Root
returns-in-Root c = record { made = c.pass.ensures.made c.args.memory.now; places = c.pass.ensures.places; order = c.pass.ensures.order }

pub returns-in-Learn-clause-made : goal.returns-in-Learn-clause-made
returns-in-Learn-clause-made c = c.learn.ensures.made c.args.node c.args.table.now
