-- Each step by the update that it makes.
use Rattle.std.proofs.Common.{[], refl}
use Rattle.std.specs.Prelude.{map}
use Rattle.oak_doc.specs.declared.update.Change.TheVariants as change
use Rattle.core_world.specs.Steps.{setting_op}
use Rattle.oak_sync.specs.Publishing.{back_op}
use Rattle.oak_recover.specs.Recovering.{publish_op}
use Rattle.oak_checkpoint.specs.Settings.{settings_op}
use Rattle.oak_sweep.specs.Sweeping.{sweep_op}
use Rattle.core_world.proofs.Cleared.{last_brings, mark_brings, settings_bring, step_brings}
use Rattle.core_world.proofs.Freed.{undo_brings, update_brings}
use Rattle.core_world.proofs.no_step_brings_back_what_is_dead.Goals as goal

pub returns-clause-write : goal.returns-clause-write
returns-clause-write g c = λ w s x q p rest d kept here dead free.
    step_brings w kept.sessions.committing s x here d dead p free q rest

pub returns-clause-mark : goal.returns-clause-mark
returns-clause-mark g c = λ w s x f rest p r free. mark_brings w s p r free x f rest

pub returns-clause-last : goal.returns-clause-last
returns-clause-last g c = λ w s x p r free. last_brings w s p r free x

pub returns-clause-undo : goal.returns-clause-undo
returns-clause-undo g c = λ w s x q p rest r kept free.
    undo_brings w.table kept.sessions.committing.sound.ordered q x.draw.revision p r free

pub returns-clause-clear : goal.returns-clause-clear
returns-clause-clear g c = λ w s q p o r kept free.
    undo_brings w.table kept.sessions.committing.sound.ordered q o p r free

pub returns-clause-back : goal.returns-clause-back
returns-clause-back g c = λ w s q p o r free. (
  update_brings r w.table (back_op q o) p refl free,
  update_brings r w.table (back_op [] o) p refl free,
  update_brings r w.table (sweep_op o) p refl free,
)

pub returns-clause-publish : goal.returns-clause-publish
returns-clause-publish g c = λ w k o p r free. update_brings r w.table (publish_op o) p refl free

pub returns-clause-settings : goal.returns-clause-settings
returns-clause-settings g c = λ w s i pin p r free. (
  settings_bring w s p r free (setting_op (change.Checkpoint i pin)) refl,
  settings_bring w s p r free (setting_op (change.Release i)) refl,
  settings_bring w s p r free (setting_op (change.Attach s i)) refl,
  settings_bring w s p r free (setting_op (change.Detach s)) refl,
)

pub returns-clause-unfound : goal.returns-clause-unfound
returns-clause-unfound g c = λ w s k p r free. settings_bring w s p r free (setting_op k) refl

pub returns-clause-drop : goal.returns-clause-drop
returns-clause-drop g c = λ w s ss p r free.
    settings_bring w s p r free (settings_op (map change.Detach ss)) refl
