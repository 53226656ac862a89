use Rattle.core_begun.proofs.Collecting.{split_writes, split_lists}
use Rattle.core_begun.proofs.splits_since_a_start_move.Goals as goal

pub returns-clause-write : goal.returns-clause-write
returns-clause-write c = λ start ds now past done formers p k world are numbered change none. split_writes start ds now past done formers p k world are numbered change none

pub returns-clause-list : goal.returns-clause-list
returns-clause-list c = split_lists
