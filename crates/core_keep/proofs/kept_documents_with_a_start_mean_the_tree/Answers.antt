use Rattle.core_keep.proofs.From.{reading_from}
use Rattle.core_keep.proofs.kept_documents_with_a_start_mean_the_tree.Goals as goal

pub returns : goal.returns
returns c = λ start past base ds v t p first sound closed keeps course down held. reading_from start past base ds v t first sound closed keeps course down held p
