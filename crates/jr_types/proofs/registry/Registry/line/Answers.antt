use Rattle.jr_types.proofs.Found.{line_none}
use Rattle.jr_types.proofs.registry.Registry.line.Goals as goal

pub returns-in-Some-clause-within : goal.returns-in-Some-clause-within
returns-in-Some-clause-within c = rw c.as_slice.ensures c.in-Some.ensures.within

pub returns-in-Some-clause-line : goal.returns-in-Some-clause-line
returns-in-Some-clause-line c = rw c.as_slice.ensures c.in-Some.ensures.line

pub returns-in-None-clause-line : goal.returns-in-None-clause-line
returns-in-None-clause-line c = line_none c.args.self.now c.args.name.now c.in-None.ensures
