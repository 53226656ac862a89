use Rattle.oak_saves.proofs.Acting.{write_made}
use Rattle.oak_saves.proofs.Needs.{write_needs}
use Rattle.oak_saves.proofs.commit.write.Goals as goal

pub returns-in-Ok-clause-made : goal.returns-in-Ok-clause-made
returns-in-Ok-clause-made c =
    write_made c.args.s c.args.table.now c.update.new.table c.args.events.now.list c.push_kept.new.self.list c.args.committer.now c.feed.new.self c.in_ok-op.op c.in_ok-op.ensures c.requires.stage c.in-Ok.before
    c.in-Ok.ensures.made c.push_kept.ensures.list c.feed.result c.feed.ensures.ok c.feed.ensures.err

pub returns-in-Ok-clause-needs : goal.returns-in-Ok-clause-needs
returns-in-Ok-clause-needs c = write_needs c.args.s c.args.table.now c.update.new.table c.args.events.now.list c.push_kept.new.self.list c.args.committer.now c.feed.new.self c.requires.stage (returns-in-Ok-clause-made c)
