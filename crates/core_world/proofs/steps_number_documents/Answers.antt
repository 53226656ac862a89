use Rattle.std.specs.Prelude.{map}
use Rattle.oak_doc.specs.declared.update.Change.TheVariants as change
use Rattle.core_world.proofs.Numbering.{back_numbers, clear_numbers, copied_numbers, drop_numbers, last_numbers, mark_numbers, pruned_numbers, publish_numbers, settings_numbers, split_numbers, undo_numbers, write_numbers}
use Rattle.core_world.proofs.Numbers.{removed_step, still_step}
use Rattle.core_world.proofs.steps_number_documents.Goals as goal

pub returns-clause-write : goal.returns-clause-write
returns-clause-write c = λ w s x p rest low. write_numbers w low s x p rest

pub returns-clause-mark : goal.returns-clause-mark
returns-clause-mark c = λ w s x f rest low. mark_numbers w low s x f rest

pub returns-clause-last : goal.returns-clause-last
returns-clause-last c = λ w s x low. last_numbers w low s x

pub returns-clause-undo : goal.returns-clause-undo
returns-clause-undo c = λ w s x p rest low. undo_numbers w low s x p rest

pub returns-clause-back : goal.returns-clause-back
returns-clause-back c = λ w s p r low. back_numbers w low s p r

pub returns-clause-checkpoint : goal.returns-clause-checkpoint
returns-clause-checkpoint c = λ w s i pin low. settings_numbers w low (change.Checkpoint i pin)

pub returns-clause-release : goal.returns-clause-release
returns-clause-release c = λ w i low. settings_numbers w low (change.Release i)

pub returns-clause-attach : goal.returns-clause-attach
returns-clause-attach c = λ w s i low. settings_numbers w low (change.Attach s i)

pub returns-clause-unfound : goal.returns-clause-unfound
returns-clause-unfound c = λ w s k low. settings_numbers w low k

pub returns-clause-detach : goal.returns-clause-detach
returns-clause-detach c = λ w s low. settings_numbers w low (change.Detach s)

pub returns-clause-split : goal.returns-clause-split
returns-clause-split c = λ w s read pin p old e low. split_numbers w low s read pin p old e

pub returns-clause-copied : goal.returns-clause-copied
returns-clause-copied c = λ w s p k x low number. copied_numbers w low s p k x number

pub returns-clause-pruned : goal.returns-clause-pruned
returns-clause-pruned c = λ w s p old op low. pruned_numbers w low s p old op

pub returns-clause-gone : goal.returns-clause-gone
returns-clause-gone c = λ w s i sorted. removed_step w.table i sorted

pub returns-clause-clear : goal.returns-clause-clear
returns-clause-clear c = λ w s p r low. clear_numbers w low p r

pub returns-clause-publish : goal.returns-clause-publish
returns-clause-publish c = λ w k r low. publish_numbers w low r

pub returns-clause-drop : goal.returns-clause-drop
returns-clause-drop c = λ w s sessions low. drop_numbers w low (map change.Detach sessions)

pub returns-clause-still : goal.returns-clause-still
returns-clause-still c = still_step
