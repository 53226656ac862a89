-- The updates of the settings' document, and what is looked up there.
use Rattle.std.specs.Prelude.{ℕ, false, List, [], ◌∷◌, map, Option, None}
use Rattle.std.specs.Map.{lookup}
use Rattle.std.specs.BTreeMap.{is_at}
use Rattle.std.specs.Ordering.{nat_cmp}
use Rattle.jr_path.specs.Names.{name_cmp}
use Rattle.jr_path.specs.declared.path.DocId.TheVariants as id
use Rattle.jr_path.specs.Lists.{Text}
use Rattle.jr_rev.specs.declared.vector.Pin.{Pin}
use Rattle.oak_doc.specs.declared.document.Document.{Document}
use Rattle.oak_doc.specs.declared.update.UpdateOp.{UpdateOp}
use Rattle.oak_doc.specs.declared.update.Change.{Change}
use Rattle.oak_doc.specs.declared.update.Change.TheVariants as change

-- changes of the settings' document, without a condition; where there is none, none is made
abbrev pub settings_op : List Change → UpdateOp
settings_op changes = record { id = id.Settings; create = false; cond = None; changes = changes }

-- a pin becomes the checkpoint of an id
abbrev pub create_op : Text → Pin → UpdateOp
create_op id pin = settings_op (change.Checkpoint id pin ∷ [])

-- session s becomes a reader of the checkpoint of an id
abbrev pub attach_op : ℕ → Text → UpdateOp
attach_op s id = settings_op (change.Attach s id ∷ [])

-- session s is no reader any more
abbrev pub detach_op : ℕ → UpdateOp
detach_op s = settings_op (change.Detach s ∷ [])

-- the checkpoint of an id is dropped
abbrev pub release_op : Text → UpdateOp
release_op id = settings_op (change.Release id ∷ [])

-- these sessions are no readers any more
abbrev pub drop_readers_op : List ℕ → UpdateOp
drop_readers_op sessions = settings_op (map change.Detach sessions)

-- the checkpoint of an id
abbrev pub checkpoint_of : Document → Text → Option Pin
checkpoint_of d id = lookup (is_at (name_cmp id)) d.checkpoints

-- the pin at which session s reads, while it is attached
abbrev pub reader_of : Document → ℕ → Option Pin
reader_of d s = lookup (is_at (nat_cmp s)) d.readers
