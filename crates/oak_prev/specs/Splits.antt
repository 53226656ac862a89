-- What a split moves out of a document that it read.
use Rattle.std.specs.Prelude.{ℕ, Bool, true, false, ◌&&◌, List, [], ◌∷◌, ◌++◌, length, map, Option, None, Some, IsTrue}
use Rattle.std.specs.Map.{keys_of}
use Rattle.std.specs.FinMap.{is_sorted}
use Rattle.jr_path.specs.Names.{name_cmp}
use Rattle.std.specs.BTreeMap.{insert_entry}
use Rattle.std.specs.List.{filter, flat_map, fold, list_all, list_any}
use Rattle.jr_rev.specs.declared.revision.Revision.{Revision}
use Rattle.jr_rev.specs.declared.vector.Pin.{Pin}
use Rattle.jr_rev.specs.Revisions.{revision_cmp, is_same}
use Rattle.jr_rev.specs.Vectors.{sees}
use Rattle.oak_doc.specs.declared.document.Document.{Document}
use Rattle.oak_doc.specs.declared.document.PrevEntry.{PrevEntry}
use Rattle.oak_doc.specs.declared.update.EntryKey.{EntryKey}
use Rattle.oak_doc.specs.declared.update.Field.TheVariants as field
use Rattle.oak_doc.specs.declared.update.Cond.TheVariants.{Unchanged, Missing}
use Rattle.oak_doc.specs.declared.update.Change.TheVariants as change
use Rattle.oak_doc.specs.declared.update.UpdateOp.{UpdateOp}
use Rattle.jr_path.specs.declared.path.DocId.TheVariants.{Prev}
use Rattle.oak_doc.specs.Updates.{Props}
use Rattle.oak_read.specs.Meaning.{Documents, is_committed, path_of}

-- all but the last
abbrev pub older : {X : Type 0} → List X → List X
older [] = []
older (x ∷ []) = []
older (x ∷ y ∷ xs) = x ∷ older (y ∷ xs)

-- there is something in a list
abbrev pub is_filled : {X : Type 0} → List X → Bool
is_filled [] = false
is_filled (x ∷ xs) = true

-- a property that moves nothing is left out
abbrev pub has_values : {N X : Type 0} → N × List X → Bool
has_values p = is_filled p.1

-- the highest and the lowest of some revisions in ascending order, with the number that was read
abbrev pub entry_from : ℕ → Revision → List Revision → PrevEntry
entry_from n low rs = record { number = n; high = fold (λ q r. r) low rs; low = low }

module _ (ds : Documents) (pin : Pin) where
  -- the committed values of a property that the base sees, but the latest of them
  abbrev pub older_values : {X : Type 0} → Document → List (Revision × X) → List (Revision × X)
  older_values d es = older (filter (λ e. sees pin.base e.0 && is_committed ds pin.sweep d e.0) es)

  -- what moves, by property
  abbrev pub moved_props : Document → Props
  moved_props d = filter has_values (map (λ p. (p.0, older_values d p.1)) d.props)

  -- the entries that move
  abbrev pub moved_keys : Document → List EntryKey
  moved_keys d = flat_map (λ p. map (λ e. record { field = field.Prop p.0; revision = e.0 }) p.1) (moved_props d)

  -- how many entries move
  abbrev pub moved_count : Document → ℕ
  moved_count d = length (moved_keys d)

  -- the revisions of what moves, in ascending order
  abbrev pub moved_revisions : Document → List Revision
  moved_revisions d = keys_of (fold (λ es k. insert_entry revision_cmp es k.revision true) [] (moved_keys d))

  -- the depths of the commit roots of what moves, which are copied
  abbrev pub moved_roots : Document → List (Revision × ℕ)
  moved_roots d = filter (λ e. list_any (is_same e.0) (moved_revisions d)) d.commit_root

  -- how the previous document is listed, where something moves
  abbrev pub listed_as : Document → Option PrevEntry
  listed_as d = by (moved_revisions d)
    where
      by : List Revision → Option PrevEntry
      by [] = None
      by (r ∷ rs) = Some (entry_from d.mod_count r rs)

  -- the previous document is written, where there is none of its id
  abbrev pub previous_write : Document → UpdateOp
  previous_write d = record {
    id = Prev d.mod_count (path_of d.id);
    create = true;
    cond = Some Missing;
    changes = map (λ e. change.CommitRoot e.0 e.1) (moved_roots d) ++ flat_map (λ p. map (λ e. change.Prop p.0 e.0 e.1) p.1) (moved_props d);
  }

  -- then what moved is taken out of the document and the previous document listed, where it has the number read
  abbrev pub main_write : Document → PrevEntry → UpdateOp
  main_write d e = record { id = d.id; create = false; cond = Some (Unchanged d.mod_count); changes = change.Prune (moved_keys d) ∷ change.List e ∷ [] }

-- a document's entries are in order: names, the values of each, and the notes of commit roots
pub record IsInOrder (d : Document) : Type 0 where
  pub names : IsTrue (is_sorted name_cmp d.props)
  pub values : IsTrue (list_all (λ p. is_sorted revision_cmp p.1) d.props)
  pub roots : IsTrue (is_sorted revision_cmp d.commit_root)
