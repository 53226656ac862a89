use Rattle.std.specs.Map.Iter.{deref}
use Rattle.jr_tree.proofs.Merging.{room_refused}
use Rattle.jr_tree.proofs.apply.make_room.Goals as goal

pub returns-clause-err : goal.returns-clause-err
returns-clause-err c =
    room_refused deref _ _ _ _ _ _ _ c.in-Err.ensures.err.0 c.requires c.in_ok-missing.ensures c.deref.ensures.value c.deref-in-Err.ensures.value c.in-Err.ensures.err.1 c.remove_paths.ensures
