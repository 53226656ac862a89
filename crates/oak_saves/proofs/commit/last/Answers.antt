use Rattle.std.proofs.Common.{◌++◌, ◌∷◌, [], ap, ◌∙◌}
use Rattle.std.proofs.lemmas.Result.{on_ok_weaker}
use Rattle.oak_machine.specs.declared.event.Event.TheVariants as event
use Rattle.oak_saves.proofs.Acting.{last_fails, last_made, last_refused_by}
use Rattle.oak_saves.proofs.Needs.{last_needs}
use Rattle.oak_saves.proofs.commit.last.Goals as goal

pub returns-in-Ok-clause-made : goal.returns-in-Ok-clause-made
returns-in-Ok-clause-made c =
    last_made 0 c.args.table.now c.update.new.table c.args.events.now.list c.push_kept.new.self.list c.args.committer.now c.feed.new.self c.in_ok-op.op c.in_ok-op.ensures c.requires.stage c.in-Ok.before
    c.in-Ok.ensures.made (c.push_kept.ensures.list ∙ ap (λ r. c.args.events.now.list ++ event.Commit r ∷ []) c.revision-r.ensures) c.feed.result c.feed.ensures.ok c.feed.ensures.only

pub returns-in-Ok-clause-needs : goal.returns-in-Ok-clause-needs
returns-in-Ok-clause-needs c = last_needs 0 c.args.table.now c.update.new.table c.args.events.now.list c.push_kept.new.self.list c.args.committer.now c.feed.new.self c.requires.stage (returns-in-Ok-clause-made c)

pub returns-in-Err-clause-made : goal.returns-in-Err-clause-made
returns-in-Err-clause-made c =
    on_ok_weaker c.refused_last.result
    (last_refused_by 0 c.args.table.now c.update.new.table c.args.events.now.list c.refused_last.new.events.list c.args.committer.now c.refused_last.new.committer c.in_ok-op.op c.in_ok-op.ensures c.requires.stage c.in-Err.fault c.in-Err.ensures.made)
    c.refused_last.ensures.made

pub returns-in-Err-clause-needs : goal.returns-in-Err-clause-needs
returns-in-Err-clause-needs c = on_ok_weaker c.refused_last.result (last_needs 0 c.args.table.now c.update.new.table c.args.events.now.list c.refused_last.new.events.list c.args.committer.now c.refused_last.new.committer c.requires.stage) (returns-in-Err-clause-made c)

pub refused_last-requires-clause-fault : goal.refused_last-requires-clause-fault
refused_last-requires-clause-fault c = last_fails c.args.table.now c.update.new.table c.args.committer.now c.in_ok-op.op c.in_ok-op.ensures c.requires.stage c.in-Err.fault c.in-Err.ensures.made
