use Rattle.std.specs.List.Sorted.{IsStrictlySortedBy}
use Rattle.std.specs.Map.{keys_of}
use Rattle.jr_list.proofs.Entries.{copied_step}
use Rattle.jr_list.proofs.keyed.KeyedDeepCopy.copy.Goals as goal

pub loop-key-preserved-in_ok-insert : goal.loop-key-preserved-in_ok-insert
loop-key-preserved-in_ok-insert g c =
    copied_step g.K.Ord.cmp g.met.K.Ord.total _ _ _ _ _ _ _ _ _ c.in_ok-insert.ensures.entries c.in_ok-copy.ensures c.in_ok-copy-2.ensures c.in-Some.ensures.steps c.loop-key.invariant
    (let sorted : IsStrictlySortedBy g.K.Ord.cmp (keys_of c.self.inside.map.entries) = c.into_iter-key-iterator.ensures.into_iter_gives.5 in rw c.self.view_is at sorted)

pub loop-key-preserved : goal.loop-key-preserved
loop-key-preserved g c =
    copied_step g.K.Ord.cmp g.met.K.Ord.total _ _ _ _ _ _ _ _ _ c.in_ok-insert.ensures.entries c.in_ok-copy.ensures c.in_ok-copy-2.ensures c.in-Some.ensures.steps c.loop-key.invariant
    (let sorted : IsStrictlySortedBy g.K.Ord.cmp (keys_of c.self.inside.map.entries) = c.into_iter-key-iterator.ensures.into_iter_gives.5 in rw c.self.view_is at sorted)
