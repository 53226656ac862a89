use Rattle.std.proofs.Common.{◌≡◌, take}
use Rattle.jr_known.specs.Gone.{gone_nodes}
use Rattle.jr_known.proofs.gone.gone_nodes.Given as goal

abbrev pub invariant-loop-path : goal.invariant-loop-path
invariant-loop-path l = l.gone ≡ gone_nodes l.part l.fresh (take l.path-index l.told)
