use Rattle.oak_sync.proofs.Sets.{AddsBelow}
use Rattle.oak_sync.proofs.paths.put_upward.Given as goal

-- the prefixes that are shorter are put
abbrev pub invariant-loop-depth : goal.invariant-loop-depth
invariant-loop-depth l = AddsBelow l.path l.depth l.initial.ids l.ids
