use Rattle.oak_step.proofs.back.read.Goals as goal

pub returns-in-Read-clause-made : goal.returns-in-Read-clause-made
returns-in-Read-clause-made c = c.read_root.ensures.made c.args.node c.args.memory.now

pub returns-in-Learn-clause-made : goal.returns-in-Learn-clause-made
returns-in-Learn-clause-made c = c.learn.ensures.made c.args.s c.args.table.now
