use Rattle.core_world.proofs.Copying.{copied_absent, copied_apart, copied_now, copied_on, copied_passed, dropped_copied, moved_lets, others_let, previous_lets, pruned_lets, removed_lets, same_lets}
use Rattle.core_world.proofs.Numbers.{passed_on}
use Rattle.core_world.proofs.splits_stay_apart.Goals as goal

pub returns-clause-begins : goal.returns-clause-begins
returns-clause-begins c = λ t k formers p n x are numbered none early low within. copied_now t k formers are p n x numbered none early low within

pub returns-clause-apart : goal.returns-clause-apart
returns-clause-apart c = copied_apart

pub returns-clause-passed : goal.returns-clause-passed
returns-clause-passed c = λ t p k x d copied is other. copied_passed t p k x copied d is other

pub returns-clause-absent : goal.returns-clause-absent
returns-clause-absent c = copied_absent

pub returns-clause-behind : goal.returns-clause-behind
returns-clause-behind c = λ t u p k step passed. passed_on t u step p k passed

pub returns-clause-lasts : goal.returns-clause-lasts
returns-clause-lasts c = λ t u p k x step lets copied. copied_on t p k x copied u step lets

pub returns-clause-changed : goal.returns-clause-changed
returns-clause-changed c = λ t u p at k d main whole. same_lets t u p k at d main whole

pub returns-clause-moved : goal.returns-clause-moved
returns-clause-moved c = λ t u p at k old d e is main prev apart. moved_lets t u p k at old d e is main prev apart

pub returns-clause-pruned : goal.returns-clause-pruned
returns-clause-pruned c = λ t u p at k old d keep is main prev. pruned_lets t u p k at old d keep is main prev

pub returns-clause-removed : goal.returns-clause-removed
returns-clause-removed c = λ t u p at k elsewhere gone stay. removed_lets t u p k at elsewhere gone stay

pub returns-clause-previous : goal.returns-clause-previous
returns-clause-previous c = λ t u p at k j change behind. previous_lets t u p k at j change behind

pub returns-clause-others : goal.returns-clause-others
returns-clause-others c = others_let

pub returns-clause-dropped : goal.returns-clause-dropped
returns-clause-dropped c = dropped_copied
