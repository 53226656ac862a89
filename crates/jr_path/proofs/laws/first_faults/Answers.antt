use Rattle.jr_path.specs.Grammar.{IsName}
use Rattle.jr_path.specs.Paths.{IsPathText}
use Rattle.jr_path.proofs.TextLaws.{one_fault}
use Rattle.jr_path.proofs.laws.first_faults.Goals as goal

pub returns-clause-name : goal.returns-clause-name
returns-clause-name c = one_fault IsName

pub returns-clause-path : goal.returns-clause-path
returns-clause-path c = one_fault IsPathText
