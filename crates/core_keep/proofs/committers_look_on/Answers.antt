use Rattle.core_keep.proofs.Lookers.{looks_begin, looks_find, looks_last, moved_looks, others_look, previous_looks, pruned_looks, removed_looks, same_looks}
use Rattle.core_keep.proofs.committers_look_on.Goals as goal

pub returns-clause-begins : goal.returns-clause-begins
returns-clause-begins c = looks_begin

pub returns-clause-lasts : goal.returns-clause-lasts
returns-clause-lasts c = λ ds now formers more unseen p stood copy asked look grows looks goes. looks_last ds now formers more grows unseen p stood copy asked look looks goes

pub returns-clause-finds : goal.returns-clause-finds
returns-clause-finds c = λ ds formers unseen p stood copy asked look e looks i unasked copied. looks_find ds formers unseen p stood copy asked look looks e i unasked copied

pub returns-clause-changed : goal.returns-clause-changed
returns-clause-changed c = λ ds now unseen p copy asked at d main whole. same_looks ds now unseen p copy asked at d main whole

pub returns-clause-moved : goal.returns-clause-moved
returns-clause-moved c = λ ds now unseen p copy asked at old d e is main prev. moved_looks ds now unseen p copy asked at old d e is main prev

pub returns-clause-pruned : goal.returns-clause-pruned
returns-clause-pruned c = λ ds now k unseen p copy asked at old d unbound is main pruned. pruned_looks ds now unseen p copy asked k at old d unbound is main pruned

pub returns-clause-previous : goal.returns-clause-previous
returns-clause-previous c = λ ds now unseen p copy asked at k change unlisted. previous_looks ds now unseen p copy asked at k change unlisted

pub returns-clause-others : goal.returns-clause-others
returns-clause-others c = λ ds now unseen p copy asked node previous. others_look ds now unseen p copy asked node previous

pub returns-clause-removed : goal.returns-clause-removed
returns-clause-removed c = λ ds now k unseen p copy asked at old keeps course down unbound is elsewhere stay unwanted. removed_looks ds now k keeps course down unseen unbound p copy asked at old is elsewhere stay unwanted
