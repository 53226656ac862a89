use Rattle.core_keep.proofs.Going.{pruned_goes, moved_goes, removed_goes, previous_goes, besides_goes, course_goes}
use Rattle.core_keep.proofs.others_let_readers_go_on.Goals as goal

pub returns-clause-pruned : goal.returns-clause-pruned
returns-clause-pruned c = λ ds now k v t p copy asked at old d keeps course held is main pruned. pruned_goes ds now k keeps course v t held p copy asked at old d is main pruned

pub returns-clause-moved : goal.returns-clause-moved
returns-clause-moved c = λ ds now k v t p copy asked at old d e x keeps course held is there main moved. moved_goes ds now k keeps course v t held p copy asked at old d e x is there main moved

pub returns-clause-removed : goal.returns-clause-removed
returns-clause-removed c = λ ds now k v t p copy asked at old keeps course held is elsewhere gone stay unwanted. removed_goes ds now k keeps course v t held p copy asked at old is elsewhere gone stay unwanted

pub returns-clause-previous : goal.returns-clause-previous
returns-clause-previous c = λ ds now k v t p copy asked at j keeps course held change unlisted. previous_goes ds now k keeps course v t held p copy asked at j change unlisted

pub returns-clause-besides : goal.returns-clause-besides
returns-clause-besides c = λ ds now k v t p copy asked at d own keeps course held main open_ unseen same. besides_goes ds now k keeps course v t held p copy asked at d main own open_ unseen same

pub returns-clause-told : goal.returns-clause-told
returns-clause-told c = λ ds k later v t p copy asked fall falls tree same done. course_goes ds k later v t p copy asked fall falls tree same done
