use Rattle.core_begun.proofs.World.{kept_write_op, kept_undo_op, kept_mark_op, kept_settings, kept_previous, kept_moved, kept_pruned, kept_removed}
use Rattle.core_begun.proofs.steps_keep_what_began_with_a_start.Goals as goal

pub returns-clause-write : goal.returns-clause-write
returns-clause-write c = λ start ds now past done r drawn p marks op number world is flying open_ wop new main. kept_write_op start ds now past done world r drawn is flying open_ p op number marks wop new main

pub returns-clause-undo : goal.returns-clause-undo
returns-clause-undo c = λ start ds now past done r drawn p d op number world is flying open_ there rise only main. kept_undo_op start ds now past done world r drawn is flying open_ p op number d there rise only main

pub returns-clause-mark : goal.returns-clause-mark
returns-clause-mark c = λ start ds now past done p op number world at all main. kept_mark_op start ds now past done world p op number at all main

pub returns-clause-others : goal.returns-clause-others
returns-clause-others c = λ start ds now past done world node previous. kept_settings start ds now past done world node previous

pub returns-clause-previous : goal.returns-clause-previous
returns-clause-previous c = λ start ds now past done p k world change unlisted. kept_previous start ds now past done world p k change unlisted

pub returns-clause-moved : goal.returns-clause-moved
returns-clause-moved c = λ start ds now past done p old d e x world is there main moved. kept_moved start ds now past done world p old d e x is there main moved

pub returns-clause-pruned : goal.returns-clause-pruned
returns-clause-pruned c = λ start ds now past done p old d world is main pruned. kept_pruned start ds now past done world p old d is main pruned

pub returns-clause-removed : goal.returns-clause-removed
returns-clause-removed c = λ start ds now past done p old world is elsewhere gone unwanted. kept_removed start ds now past done world p old is elsewhere gone unwanted
