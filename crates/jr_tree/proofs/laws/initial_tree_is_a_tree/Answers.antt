use Rattle.std.proofs.Common.{refl}
use Rattle.jr_tree.proofs.laws.initial_tree_is_a_tree.Goals as goal

pub returns : goal.returns
returns c = record { paths = refl; names = refl; root = refl; parents = refl }
