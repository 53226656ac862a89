use Rattle.core_watch.proofs.GoingOn.{on_event, on_last, on_mark, on_moved, on_others, on_previous, on_pruned, on_removed, on_undo, on_write}
use Rattle.core_watch.proofs.steps_let_readers_read_on.Goals as goal

pub returns-clause-event : goal.returns-clause-event
returns-clause-event c = λ start pin ds past done e world none. on_event start pin ds past done world e none

pub returns-clause-write : goal.returns-clause-write
returns-clause-write c = λ start pin ds now past done r dr p marks op number world held drawn flying uncommitted wop new main. on_write start pin ds now past done world held r dr drawn flying uncommitted p marks op number wop new main

pub returns-clause-undo : goal.returns-clause-undo
returns-clause-undo c = λ start pin ds now past done r dr p d op number world held drawn flying uncommitted is rise only main. on_undo start pin ds now past done world held r dr drawn flying uncommitted p d op number is rise only main

pub returns-clause-mark : goal.returns-clause-mark
returns-clause-mark c = λ start pin ds now past done p op number world held at all main. on_mark start pin ds now past done world held p op number at all main

pub returns-clause-others : goal.returns-clause-others
returns-clause-others c = λ start pin ds now past done world held node previous. on_others start pin ds now past done world held node previous

pub returns-clause-last : goal.returns-clause-last
returns-clause-last c = λ start pin ds now past done r dr op number world held drawn may at only main then. on_last start pin ds now past done world held r dr op number drawn may at only main then

pub returns-clause-pruned : goal.returns-clause-pruned
returns-clause-pruned c = λ start pin ds now past done p old d world held is main pruned. on_pruned start pin ds now past done world held p old d is main pruned

pub returns-clause-moved : goal.returns-clause-moved
returns-clause-moved c = λ start pin ds now past done p old d e x world held is there main moved. on_moved start pin ds now past done world held p old d e x is there main moved

pub returns-clause-removed : goal.returns-clause-removed
returns-clause-removed c = λ start pin ds now past done p old world held is elsewhere gone stay unwanted. on_removed start pin ds now past done world held p old is elsewhere gone stay unwanted

pub returns-clause-previous : goal.returns-clause-previous
returns-clause-previous c = λ start pin ds now past done p k world held change unlisted. on_previous start pin ds now past done world held p k change unlisted
