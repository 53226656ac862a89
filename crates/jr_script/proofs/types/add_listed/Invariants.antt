use Rattle.jr_script.proofs.Adding.{AreAddedTo}
use Rattle.jr_script.proofs.types.add_listed.Given as goal

abbrev pub invariant-loop-index : goal.invariant-loop-index
invariant-loop-index l = AreAddedTo l.initial.registry l.items l.index l.registry
