-- What moves, entry by entry, as code reads it.
use Rattle.std.specs.Prelude.{ℕ, Bool, cond, true, List, [], ◌∷◌, map, Option, None, Some}
use Rattle.std.specs.Ordering.{eq_by_cmp}
use Rattle.std.specs.BTreeMap.{insert_entry}
use Rattle.std.specs.Map.{keys_of}
use Rattle.std.specs.List.{filter, flat_map, fold, list_any}
use Rattle.jr_path.specs.Ids.{id_cmp}
use Rattle.jr_path.specs.declared.name.Name.{Name}
use Rattle.jr_value.specs.declared.value.Property.{Property}
use Rattle.jr_rev.specs.declared.revision.Revision.{Revision}
use Rattle.jr_rev.specs.declared.vector.Pin.{Pin}
use Rattle.jr_rev.specs.Revisions.{revision_cmp, is_same}
use Rattle.oak_doc.specs.declared.document.Document.{Document}
use Rattle.oak_doc.specs.declared.document.PrevEntry.{PrevEntry}
use Rattle.oak_doc.specs.declared.update.Change.{Change}
use Rattle.oak_doc.specs.declared.update.Change.TheVariants as change
use Rattle.oak_doc.specs.declared.update.EntryKey.{EntryKey}
use Rattle.oak_doc.specs.declared.update.Field.TheVariants as field
use Rattle.oak_read.specs.Meaning.{Documents, documents_in}
use Rattle.oak_read.specs.Wanted.{Known}
use Rattle.oak_prev.specs.Splits.{entry_from, older_values}
use Rattle.oak_prev.specs.declared.moving.Moved.{Moved}

-- the documents that a splitter knows: the one that it read, and other commit roots
abbrev pub documents_known : Document → Known → Documents
documents_known d roots x = cond (eq_by_cmp id_cmp x d.id) (Some d) (documents_in roots x)

-- an entry of a property: its name, its revision and its value
abbrev pub Entry : Type 0
Entry = Name × Revision × Option Property

-- an entry that is lent
abbrev pub entry_of : Moved → Entry
entry_of m = (m.name.now, m.revision, m.value.now)

-- the entries of one property
abbrev pub entries_of : Name → List (Revision × Option Property) → List Entry
entries_of n es = map (λ e. (n, e.0, e.1)) es

-- the entries that move, by property and then by revision
abbrev pub moved_entries : Documents → Pin → Document → List Entry
moved_entries ds pin d = flat_map (λ p. entries_of p.0 (older_values ds pin d p.1)) d.props

-- as the key by which it is dropped
abbrev pub entry_key : Entry → EntryKey
entry_key e = record { field = field.Prop e.0; revision = e.1 }

-- as the change that writes it
abbrev pub writing_change : Entry → Change
writing_change e = change.Prop e.0 e.1 e.2

-- the revisions of some entries, as a set
abbrev pub revisions_of : List Entry → List (Revision × Bool)
revisions_of es = fold (λ rs e. insert_entry revision_cmp rs e.1 true) [] es

-- the depths of the commit roots of some revisions
abbrev pub root_depths : List (Revision × Bool) → List (Revision × ℕ) → List (Revision × ℕ)
root_depths rs es = filter (λ e. list_any (is_same e.0) (keys_of rs)) es

-- how a previous document with these revisions is listed, by the number that was read, if there is one
abbrev pub listing_entry : ℕ → List (Revision × Bool) → Option PrevEntry
listing_entry n rs = by (keys_of rs)
  where
    by : List Revision → Option PrevEntry
    by [] = None
    by (r ∷ rs) = Some (entry_from n r rs)
