use Rattle.jr_path.proofs.Parts.{last_name-child, parent_of-child}
use Rattle.jr_path.proofs.laws.parts_of_paths.Goals as goal

pub returns-clause-child : goal.returns-clause-child
returns-clause-child c = λ path name. (parent_of-child path name, last_name-child path name)
