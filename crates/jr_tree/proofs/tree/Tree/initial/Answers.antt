use Rattle.std.proofs.Common.{refl}
use Rattle.std.specs.Prelude.{codes}
use Rattle.jr_path.proofs.OwnNames.{prefixed_name}
use Rattle.jr_tree.proofs.tree.Tree.initial.Goals as goal

pub of-requires : goal.of-requires
of-requires c = prefixed_name (codes "jcr") (codes "system") refl

pub of-requires-2 : goal.of-requires-2
of-requires-2 c = prefixed_name (codes "jcr") (codes "versionStorage") refl

pub first_node-requires : goal.first_node-requires
first_node-requires c = prefixed_name (codes "nt") (codes "unstructured") refl

pub first_node-requires-2 : goal.first_node-requires-2
first_node-requires-2 c = prefixed_name (codes "rep") (codes "system") refl

pub first_node-requires-3 : goal.first_node-requires-3
first_node-requires-3 c = prefixed_name (codes "rep") (codes "versionStorage") refl
