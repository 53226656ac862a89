use Rattle.jr_args.proofs.Lists.{IsReadTo}
use Rattle.jr_script.specs.Schedules.{entry_of}
use Rattle.jr_script.proofs.schedule.entry_list.Given as goal

abbrev pub invariant-loop-index : goal.invariant-loop-index
invariant-loop-index l = IsReadTo (entry_of l.sessions) l.items l.index l.entries.items
