use Rattle.core_keep.proofs.Unseen.{unseen_left, garbage_without}
use Rattle.core_keep.proofs.collections_leave_marks.Goals as goal

pub returns-clause-pruned : goal.returns-clause-pruned
returns-clause-pruned c = λ ds p m t old op number keys ns q below rise garbage unseen. unseen_left ds p m t below old op number keys ns rise garbage q unseen

pub returns-clause-removed : goal.returns-clause-removed
returns-clause-removed c = λ m t old q garbage unseen. garbage_without m t old garbage q unseen
