use Rattle.jr_gen.proofs.Whole.{are_spelled, sized, unbroken}
use Rattle.jr_gen.proofs.laws.generated_scripts_are_read.Goals as goal

pub returns-clause-read : goal.returns-clause-read
returns-clause-read c = are_spelled

pub returns-clause-unbroken : goal.returns-clause-unbroken
returns-clause-unbroken c = λ seed m some few.
    unbroken c.scripts_are_unique.ensures _ (are_spelled seed m some few)

pub returns-clause-sizes : goal.returns-clause-sizes
returns-clause-sizes c = sized c.scripts_are_unique.ensures
