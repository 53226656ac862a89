-- What has nothing of a revision gets nothing of it.
use Rattle.core_world.proofs.what_is_undone_stays_undone.Goals as goal
use Rattle.core_world.proofs.Cleared.{clears, copy_brings, dead_stays, prune_brings, removal_brings}
use Rattle.core_world.proofs.Cleared.{split_brings, unwritten_at_work, unwritten_free}
use Rattle.core_world.proofs.Lives.{told}
use Rattle.core_world.proofs.Freed.{undo_brings, undo_leaves, update_brings, write_brings}
use Rattle.std.proofs.Common.{ap, is_some, Option}
use Rattle.oak_machine.specs.declared.event.Draw.{Draw}

pub returns-clause-undone : goal.returns-clause-undone
returns-clause-undone g c = λ w p r kept. undo_leaves w.table kept.sessions.committing.sound.ordered p r

pub returns-clause-by_undo : goal.returns-clause-by_undo
returns-clause-by_undo g c = λ w q p o r kept. undo_brings w.table kept.sessions.committing.sound.ordered q o p r

pub returns-clause-by_write : goal.returns-clause-by_write
returns-clause-by_write g c = λ q r writes marks p. write_brings r q writes marks p

pub returns-clause-by_update : goal.returns-clause-by_update
returns-clause-by_update g c = λ t op p r. update_brings r t op p

pub returns-clause-by_prune : goal.returns-clause-by_prune
returns-clause-by_prune g c = λ w s m t q p old op r may free. prune_brings w s p r free m t q old op may

pub returns-clause-by_split : goal.returns-clause-by_split
returns-clause-by_split g c = λ w s read pin q p old e r may free. split_brings w s p r free read pin q old e may

pub returns-clause-by_copy : goal.returns-clause-by_copy
returns-clause-by_copy g c = λ w s q p k x r free. copy_brings w s p r free q k x

pub returns-clause-by_removal : goal.returns-clause-by_removal
returns-clause-by_removal g c = λ w s i p r sorted free. removal_brings w s p r free i sorted

pub returns-clause-dead : goal.returns-clause-dead
returns-clause-dead g c = λ u e past d kept at dead.
    dead_stays (g.L.Law.may_start c.args.law.now) (g.L.Law.may_say c.args.law.now) u kept.sessions e past d at dead

pub returns-clause-clears : goal.returns-clause-clears
returns-clause-clears g c = λ w k kept stopped gone. clears w kept.sessions.committing k stopped gone

pub returns-clause-at_work : goal.returns-clause-at_work
returns-clause-at_work g c = λ w s x p kept here unwritten.
    let past = told (g.L.Law.may_start c.args.law.now) (g.L.Law.may_say c.args.law.now)
    (g.L.Law.proper c.args.law.now) w kept.sessions in
    unwritten_at_work w kept.sessions.committing past s x here p unwritten

pub returns-clause-written : goal.returns-clause-written
returns-clause-written g c = λ w d p kept dead unwritten.
    unwritten_free w kept.sessions.committing d.revision
    (kept.sessions.committing.sound.new d.revision (ap (λ (o : Option Draw). is_some o) dead.draw)) p unwritten
