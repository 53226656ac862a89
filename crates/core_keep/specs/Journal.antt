-- What bounds of a journal see, edits that write no item both, and events that leave what is held.
use Rattle.std.specs.Prelude.{◌≡◌, Bool, true, false, cond, List, None, is_some, IsTrue}
use Rattle.std.specs.Ordering.{eq_by_cmp}
use Rattle.std.specs.List.{list_any}
use Rattle.jr_path.specs.declared.name.Name.{Name}
use Rattle.jr_path.specs.declared.path.Path.{Path}
use Rattle.jr_rev.specs.declared.revision.Revision.{Revision}
use Rattle.jr_rev.specs.Revisions.{revision_cmp}
use Rattle.jr_rev.specs.Vectors.{sees}
use Rattle.jr_tree.specs.declared.edit.Write.{Write}
use Rattle.jr_tree.specs.Items.{here_of, put_of, written}
use Rattle.oak_machine.specs.declared.event.Draw.{Draw}
use Rattle.oak_machine.specs.declared.event.Event.{Event}
use Rattle.oak_machine.specs.declared.event.Event.TheVariants as event
use Rattle.oak_machine.specs.History.{Past}
use Rattle.core_read.specs.Commits.{Sight}
use Rattle.core_read.specs.World.{Progress}

-- the event is a bound whose base sees r
abbrev pub bounds : Revision → Event → Bool
bounds r (event.Bound m t) = sees m r
bounds r _ = false

-- the event is a bound whose sweep vector sees r
abbrev pub sweeps : Revision → Event → Bool
sweeps r (event.Bound m t) = sees t r
sweeps r _ = false

-- some bound so far sees r
abbrev pub is_bounded : Past → Sight
is_bounded past r = list_any (bounds r) past

-- the sweep vector of some bound so far sees r
abbrev pub is_swept : Past → Sight
is_swept past r = list_any (sweeps r) past

-- no item is written by both
pub record Separate (ws us : List Write) : Type 0 where
  pub node : (p : Path) → IsTrue (is_some (written (here_of p) ws)) → written (here_of p) us ≡ None
  pub prop : (p : Path) (n : Name) → IsTrue (is_some (written (put_of p n) ws))
      → written (put_of p n) us ≡ None

-- the progress of one revision is changed
abbrev pub with_progress : Progress → Revision → (Path → Bool) → Progress
with_progress done r f q p = cond (eq_by_cmp revision_cmp q r) (f p) (done q p)

-- an event that is no Draw, Commit, End or Bound
abbrev pub is_idle : Event → Bool
is_idle (event.Draw d) = false
is_idle (event.Commit r) = false
is_idle (event.End r) = false
is_idle (event.Bound m t) = false
is_idle _ = true

-- an event that is no Draw, Commit or Bound
abbrev pub leaves_held : Event → Bool
leaves_held (event.Draw d) = false
leaves_held (event.Commit r) = false
leaves_held (event.Bound m t) = false
leaves_held _ = true
