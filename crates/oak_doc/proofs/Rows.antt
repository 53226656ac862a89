-- The documents of a first save: /a is added with p = 5 as r1-0-1.
use Rattle.std.proofs.Common.{◌≡◌, ℕ, true, false, Some, None, List, [], ◌∷◌, refl, pos, Ok, Err}
use Rattle.jr_path.specs.declared.path.DocId.TheVariants.{Node}
use Rattle.jr_value.specs.declared.value.Property.{Property}
use Rattle.jr_value.specs.declared.value.Property.TheVariants.{Single}
use Rattle.jr_value.specs.declared.value.Value.TheVariants.{Long}
use Rattle.jr_rev.specs.declared.revision.Revision.{Revision}
use Rattle.jr_rev.specs.Vectors.{start}
use Rattle.oak_doc.specs.declared.document.Document.{Document}
use Rattle.oak_doc.specs.declared.update.UpdateOp.{UpdateOp}
use Rattle.oak_doc.specs.declared.update.Cond.TheVariants.{NoCollision}
use Rattle.oak_doc.specs.declared.update.OpFault.TheVariants.{Unmet, Absent}
use Rattle.oak_doc.specs.declared.update.Kept.TheVariants.{Entry}
use Rattle.oak_doc.specs.declared.update.Change.TheVariants as change
use Rattle.oak_doc.specs.declared.update.Field.TheVariants as field
use Rattle.oak_doc.specs.declared.update.Cond.TheVariants.{Unchanged}
use Rattle.oak_doc.specs.Updates.{updated, document_of}

abbrev a : List (List ℕ)
a = (97 ∷ []) ∷ []

abbrev p : List ℕ
p = 112 ∷ []

abbrev start_revision : Revision
start_revision = record { time = 0; counter = 0; cluster = 1 }

abbrev r : Revision
r = record { time = 1; counter = 0; cluster = 1 }

abbrev o : Revision
o = record { time = 2; counter = 0; cluster = 1 }

abbrev five : Property
five = Single (Long (pos 5))

-- the document of /a
abbrev write_a : UpdateOp
write_a = record { id = Node a; create = true; cond = None; changes = change.Deleted r false ∷ change.Prop p r (Some five) ∷ change.CommitRoot r 0 ∷ [] }

abbrev document_a : Document
document_a = record (document_of None (Node a)) { mod_count = 6; deleted = (r, false) ∷ []; commit_root = (r, 0) ∷ []; props = (p, (r, Some five) ∷ []) ∷ [] }

written : updated None write_a 6 ≡ Ok document_a
written = refl

-- undoing leaves an empty document
undone : updated (Some document_a) (record { id = Node a; create = false; cond = None; changes = change.Undo r ∷ [] }) 7 ≡ Ok (record (document_of None (Node a)) { mod_count = 7 })
undone = refl

-- the last write of the root, and the same with a collision that is kept
abbrev root : Document
root = record (document_of None (Node [])) { mod_count = 5; deleted = (start_revision, false) ∷ []; touched = (r, tt) ∷ []; last_rev = start 1; sweep_rev = start 1 }

abbrev last_write : UpdateOp
last_write = record { id = Node []; create = false; cond = Some (NoCollision r); changes = change.Revisions r ∷ [] }

abbrev root_after : Document
root_after = record root { mod_count = 7; revisions = (r, tt) ∷ [] }

committed : updated (Some root) last_write 7 ≡ Ok root_after
committed = refl

refused : updated (Some (record root { collisions = (r, (o, record { path = a; name = Some p })) ∷ [] })) last_write 7 ≡ Err (Unmet (NoCollision r) (Entry o (record { path = a; name = Some p })))
refused = refl

absent : updated None last_write 7 ≡ Err Absent
absent = refl

-- one entry is pruned, and the property without values goes
pruned_one : updated (Some document_a) (record { id = Node a; create = false; cond = Some (Unchanged 6); changes = change.Prune (record { field = field.Prop p; revision = r } ∷ record { field = field.CommitRoot; revision = r } ∷ []) ∷ [] }) 8
    ≡ Ok (record document_a { mod_count = 8; commit_root = []; props = [] })
pruned_one = refl
