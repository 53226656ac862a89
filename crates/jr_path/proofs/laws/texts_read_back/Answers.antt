use Rattle.jr_path.proofs.TextLaws.{names_read_back, paths_read_back}
use Rattle.jr_path.proofs.laws.texts_read_back.Goals as goal

pub returns-clause-name : goal.returns-clause-name
returns-clause-name c = names_read_back

pub returns-clause-path : goal.returns-clause-path
returns-clause-path c = paths_read_back
