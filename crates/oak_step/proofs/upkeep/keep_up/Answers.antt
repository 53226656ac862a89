use Rattle.oak_step.proofs.upkeep.keep_up.Goals as goal

pub returns-in-Write-clause-made : goal.returns-in-Write-clause-made
returns-in-Write-clause-made c = rw c.in-Write.is (c.write.ensures.made c.args.node c.args.table.now)

pub returns-in-Noted-clause-made : goal.returns-in-Noted-clause-made
returns-in-Noted-clause-made c = rw c.in-Noted.is (c.begin.ensures.made c.args.memory.now)

pub returns-in-Publish-clause-made : goal.returns-in-Publish-clause-made
returns-in-Publish-clause-made c = rw c.in-Publish.is (c.publish.ensures.made c.args.memory.now)

pub returns-in-Sweep-clause-made : goal.returns-in-Sweep-clause-made
returns-in-Sweep-clause-made c = rw c.in-Sweep.is (c.begin_sweep.ensures.made c.args.memory.now)

pub returns-in-Checkpoint-clause-made : goal.returns-in-Checkpoint-clause-made
returns-in-Checkpoint-clause-made c = rw c.in-Checkpoint.is (c.checkpoint.ensures.made c.args.node)

pub returns-in-Release-clause-made : goal.returns-in-Release-clause-made
returns-in-Release-clause-made c = rw c.in-Release.is (c.release.ensures.made c.args.node c.args.memory.now)

pub returns-in-Attach-clause-made : goal.returns-in-Attach-clause-made
returns-in-Attach-clause-made c = rw c.in-Attach.is (c.attach.ensures.made c.args.node c.args.memory.now)

pub returns-in-Detach-clause-made : goal.returns-in-Detach-clause-made
returns-in-Detach-clause-made c = rw c.in-Detach.is (c.pin_on.ensures.made c.args.node c.args.table.now)

pub returns-in-Detaching-clause-made : goal.returns-in-Detaching-clause-made
returns-in-Detaching-clause-made c = rw c.in-Detaching.is (c.detach.ensures.made c.args.node c.args.memory.now)

pub returns-in-Observe-clause-made : goal.returns-in-Observe-clause-made
returns-in-Observe-clause-made c = rw c.in-Observe.is (c.observe_on.ensures.made c.args.node c.args.table.now)
