use Rattle.std.proofs.Common.{◌∙◌, ap}
use Rattle.oak_store.specs.Tables.{after_undo}
use Rattle.oak_saves.proofs.Acting.{undo_asks, undo_made}
use Rattle.oak_saves.proofs.Needs.{undo_needs}
use Rattle.oak_saves.proofs.commit.undo.Goals as goal

pub undo_id-requires : goal.undo_id-requires
undo_id-requires c = undo_asks c.args.committer.now c.requires.stage

pub returns-clause-made : goal.returns-clause-made
returns-clause-made c =
    undo_made c.args.s c.args.table.now c.undo.new.table c.args.events.now.list c.push_kept.new.self.list c.args.committer.now c.feed.new.self c.undo_id.result.now c.requires.stage c.undo_id.ensures
    (c.undo.ensures.undone ∙ ap (after_undo c.args.table.now c.undo_id.result.now) c.revision.ensures) c.push_kept.ensures.list c.feed.result c.feed.ensures.ok c.feed.ensures.only

pub returns-clause-needs : goal.returns-clause-needs
returns-clause-needs c = undo_needs c.args.s c.args.table.now c.undo.new.table c.args.events.now.list c.push_kept.new.self.list c.args.committer.now c.feed.new.self c.requires.stage (returns-clause-made c)
