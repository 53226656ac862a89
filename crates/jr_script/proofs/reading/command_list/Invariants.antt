use Rattle.jr_args.proofs.Lists.{IsReadTo}
use Rattle.jr_args.specs.Commands.{command_of}
use Rattle.jr_script.proofs.reading.command_list.Given as goal

abbrev pub invariant-loop-index : goal.invariant-loop-index
invariant-loop-index l = IsReadTo command_of l.items l.index l.commands.items
