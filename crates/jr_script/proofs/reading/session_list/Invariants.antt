use Rattle.jr_args.proofs.Lists.{IsReadTo}
use Rattle.jr_script.specs.Scripts.{session_of}
use Rattle.jr_script.proofs.reading.session_list.Given as goal

abbrev pub invariant-loop-index : goal.invariant-loop-index
invariant-loop-index l = IsReadTo (session_of l.clusters) l.items l.index l.sessions.items
