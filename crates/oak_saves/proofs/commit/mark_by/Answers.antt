use Rattle.std.proofs.Common.{◌++◌, ◌∷◌, [], ap, ◌∙◌}
use Rattle.oak_machine.specs.declared.event.Event.TheVariants as event
use Rattle.oak_saves.proofs.Acting.{mark_made, mark_refused}
use Rattle.oak_saves.proofs.Needs.{mark_needs}
use Rattle.oak_saves.proofs.commit.mark_by.Goals as goal

pub returns-in-Ok-clause-made : goal.returns-in-Ok-clause-made
returns-in-Ok-clause-made c =
    mark_made c.args.s c.args.table.now c.update.new.table c.args.events.now.list c.push_kept.new.self.list c.args.committer.now c.feed.new.self c.args.op.now c.requires.due c.requires.stage c.in-Ok.before
    c.in-Ok.ensures.made c.push_kept.ensures.list c.feed.result c.feed.ensures.ok c.feed.ensures.only

pub returns-in-Ok-clause-needs : goal.returns-in-Ok-clause-needs
returns-in-Ok-clause-needs c = mark_needs c.args.s c.args.table.now c.update.new.table c.args.events.now.list c.push_kept.new.self.list c.args.committer.now c.feed.new.self c.requires.stage (returns-in-Ok-clause-made c)

pub returns-in-Err-Unmet-clause-made : goal.returns-in-Err-Unmet-clause-made
returns-in-Err-Unmet-clause-made c =
    mark_refused c.args.s c.args.table.now c.update.new.table c.args.events.now.list c.push_kept-in-Err-Unmet.new.self.list c.args.committer.now c.feed-in-Err-Unmet.new.self c.args.op.now c.requires.due c.requires.stage c.in-Err-Unmet.cond c.in-Err-Unmet.kept
    (rw c.in-Err-Unmet.field-0-is at c.in-Err-Unmet.ensures.made) (event.Refuse c.args.committer.now.revision c.args.item c.args.other) c.requires.refusal
    (c.push_kept-in-Err-Unmet.ensures.list ∙ ap (λ r. c.args.events.now.list ++ event.Refuse r c.args.item c.args.other ∷ []) c.revision.ensures) c.feed-in-Err-Unmet.result c.feed-in-Err-Unmet.ensures.ok c.feed-in-Err-Unmet.ensures.only

pub returns-in-Err-Unmet-clause-needs : goal.returns-in-Err-Unmet-clause-needs
returns-in-Err-Unmet-clause-needs c = mark_needs c.args.s c.args.table.now c.update.new.table c.args.events.now.list c.push_kept-in-Err-Unmet.new.self.list c.args.committer.now c.feed-in-Err-Unmet.new.self c.requires.stage (returns-in-Err-Unmet-clause-made c)
