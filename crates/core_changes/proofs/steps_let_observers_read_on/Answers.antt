use Rattle.core_changes.proofs.Steps.{step_commit, step_documents, step_event}
use Rattle.core_changes.proofs.steps_let_observers_read_on.Goals as goal

pub returns-clause-event : goal.returns-clause-event
returns-clause-event c = λ start from pin ds past done e world none new. step_event start from pin ds past done world e none new

pub returns-clause-documents : goal.returns-clause-documents
returns-clause-documents c = λ start from pin ds now past done world held on. step_documents start from pin ds past done world now held on

pub returns-clause-commit : goal.returns-clause-commit
returns-clause-commit c = λ start from pin ds now past done r dr world held drawn may on. step_commit start from pin ds past done world now r dr held drawn may on
