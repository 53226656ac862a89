use Rattle.jr_args.proofs.Lists.{IsReadTo}
use Rattle.jr_args.specs.Trees.{mixin_of}
use Rattle.jr_args.proofs.tree.names.Given as goal

abbrev pub invariant-loop-index : goal.invariant-loop-index
invariant-loop-index l = IsReadTo mixin_of l.items l.index l.names.items
