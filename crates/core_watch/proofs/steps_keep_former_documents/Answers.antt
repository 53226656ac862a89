use Rattle.core_watch.proofs.StayingOn.{formers_event, formers_last, formers_listed, formers_mark, formers_others, formers_previous, formers_pruned, formers_removed, formers_undo, formers_write}
use Rattle.core_watch.proofs.steps_keep_former_documents.Goals as goal

pub returns-clause-event : goal.returns-clause-event
returns-clause-event c = λ start ds past done e formers world none are. formers_event start ds past done world e none formers are

pub returns-clause-write : goal.returns-clause-write
returns-clause-write c = λ start ds now past done r dr p marks op number formers world drawn flying uncommitted wop new main are. formers_write start ds now past done world r dr drawn flying uncommitted p marks op number wop new main formers are

pub returns-clause-undo : goal.returns-clause-undo
returns-clause-undo c = λ start ds now past done r dr p d op number formers world drawn flying uncommitted is rise only main are. formers_undo start ds now past done world r dr drawn flying uncommitted p d op number is rise only main formers are

pub returns-clause-mark : goal.returns-clause-mark
returns-clause-mark c = λ start ds now past done p op number formers world at all main are. formers_mark start ds now past done world p op number at all main formers are

pub returns-clause-others : goal.returns-clause-others
returns-clause-others c = λ start ds now past done formers world node previous are. formers_others start ds now past done world node previous formers are

pub returns-clause-last : goal.returns-clause-last
returns-clause-last c = λ start ds now past done r dr op number formers world drawn may at only main then are. formers_last start ds now past done world r dr op number drawn may at only main then formers are

pub returns-clause-pruned : goal.returns-clause-pruned
returns-clause-pruned c = λ start ds now past done p old d formers world is main pruned are. formers_pruned start ds now past done world p old d is main pruned formers are

pub returns-clause-moved : goal.returns-clause-moved
returns-clause-moved c = λ start ds now past done p old d e x formers world is there main moved number new are. formers_listed start ds now past done world p old d e x is there main moved number formers new are

pub returns-clause-removed : goal.returns-clause-removed
returns-clause-removed c = λ start ds now past done p old formers world is elsewhere gone previous unwanted are. formers_removed start ds now past done world p old is elsewhere gone previous unwanted formers are

pub returns-clause-previous : goal.returns-clause-previous
returns-clause-previous c = λ start ds now past done p k formers world change unlisted copied are. formers_previous start ds now past done world p k change unlisted formers copied are
