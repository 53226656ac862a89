use Rattle.std.specs.Map.Iter.{deref}
use Rattle.jr_path.specs.Names.{path_cmp}
use Rattle.jr_tree.proofs.Entries.{tested}
use Rattle.jr_overlay.proofs.Places.{places_refused}
use Rattle.jr_overlay.proofs.commit.make_places.Goals as goal

pub returns-clause-err : goal.returns-clause-err
returns-clause-err c =
    places_refused deref _ _ _ _ _ _ _ _ c.in-Err.ensures.err.0 (tested path_cmp _ c.len.ensures.ordered) c.in_ok-untouched.ensures c.deref.ensures.value c.deref-in-Err.ensures.value c.in-Err.ensures.err.1
    c.remove_places.ensures
