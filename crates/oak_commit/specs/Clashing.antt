-- What a committer looks at in a document: marks, the status of a commit, a collision; what it asks for then; and where it stands.
use Rattle.std.specs.Prelude.{Bool, true, false, cond, ◌||◌, List, [], ◌∷◌, ◌++◌, map, Option, None, Some, is_some}
use Rattle.std.specs.Option.{option_map}
use Rattle.std.specs.Map.{keys_of}
use Rattle.std.specs.BTreeMap.{insert_entry}
use Rattle.std.specs.List.{filter, filter_map, flat_map, fold, list_any}
use Rattle.jr_path.specs.declared.path.Path.{Path}
use Rattle.jr_path.specs.declared.path.Item.{Item}
use Rattle.jr_path.specs.declared.path.DocId.TheVariants as id
use Rattle.jr_rev.specs.declared.revision.Revision.{Revision}
use Rattle.jr_rev.specs.declared.vector.RevVec.{RevVec}
use Rattle.jr_rev.specs.Revisions.{revision_cmp, is_same}
use Rattle.jr_rev.specs.Vectors.{sees}
use Rattle.oak_clash.specs.declared.mark.Mark.{Mark}
use Rattle.oak_clash.specs.declared.mark.Mark.TheVariants.{Exists, Guard, Touch, Prop}
use Rattle.oak_clash.specs.declared.mark.MarkAt.{MarkAt}
use Rattle.oak_clash.specs.Clashes.{clash, first_mark, marks_at, marked_item}
use Rattle.oak_doc.specs.declared.document.Document.{Document}
use Rattle.oak_doc.specs.declared.update.UpdateOp.{UpdateOp}
use Rattle.oak_doc.specs.declared.update.Cond.TheVariants.{NotCommitted}
use Rattle.oak_doc.specs.declared.update.Change.TheVariants as change
use Rattle.oak_doc.specs.Updates.{of_revision, values_of_property}

-- a list of entries by revision has one of revision r
abbrev pub has : {X : Type 0} → List (Revision × X) → Revision → Bool
has es r = is_some (of_revision es r)

-- the document has the entry that a mark of r leaves
abbrev pub has_mark : Document → Revision → Mark → Bool
has_mark d r Exists = has d.deleted r
has_mark d r Guard = has d.guard r
has_mark d r Touch = has d.touched r
has_mark d r (Prop n) = has (values_of_property d.props n) r

-- the document, where it is there, has the entry that a mark of r leaves
abbrev pub marked : Option Document → Revision → Mark → Bool
marked None r m = false
marked (Some d) r m = has_mark d r m

-- the document has r as committed
abbrev pub noted : Option Document → Revision → Bool
noted None r = false
noted (Some d) r = has d.revisions r

-- who marked r as collided with there, and r's item
abbrev pub collision : Option Document → Revision → Option (Revision × Item)
collision None r = None
collision (Some d) r = of_revision d.collisions r

-- the marks that a document has of r, in their order
abbrev pub marks_in : Option Document → Revision → List Mark
marks_in None r = []
marks_in (Some d) r = filter (has_mark d r) (Exists ∷ Guard ∷ Touch ∷ map Prop (keys_of d.props))

-- the revisions that have a mark there, in ascending order
abbrev pub marked_revisions : Option Document → List Revision
marked_revisions None = []
marked_revisions (Some d) = keys_of (fold (λ es r. insert_entry revision_cmp es r true) [] (keys_of d.deleted ++ (keys_of d.guard ++ (keys_of d.touched ++ flat_map (λ e. keys_of e.1) d.props))))

-- another revision that was met, with one's own item and its
pub record Met : Type 0 where
  pub other : Revision
  pub mine : Item
  pub theirs : Item

-- the item of the first of some marks at p that clashes with one of the others
abbrev pub met_among : Path → List Mark → List Mark → Option Item
met_among p ms os = option_map (marked_item p) (first_mark (filter (λ m. list_any (clash m) os) ms))

-- the other revision o as met, where there are both one's own item and its
abbrev pub met_with : Revision → Option Item → Option Item → Option Met
met_with o (Some mine) (Some theirs) = Some (record { other = o; mine = mine; theirs = theirs })
met_with o _ _ = None

-- what r, with its marks and its base, meets in a document: each other revision that its base doesn't see, with a clashing mark
abbrev pub found : RevVec → Revision → Path → List MarkAt → Option Document → List Met
found base r p ms d = filter_map (λ o. cond (is_same o r || sees base o) None (met_with o (met_among p (marks_at p ms) (marks_in d o)) (met_among p (marks_in d o) (marks_at p ms)))) (marked_revisions d)

-- the mark of a collision with r in its item, on the commit root of the other revision, where that isn't committed
abbrev pub mark_op : Path → Revision → Revision → Item → UpdateOp
mark_op root o r item = record { id = id.Node root; create = true; cond = Some (NotCommitted o); changes = change.Collision o r item ∷ [] }

-- the undoing of the document of the node at p
abbrev pub undo_op : Revision → Path → UpdateOp
undo_op r p = record { id = id.Node p; create = false; cond = None; changes = change.Undo r ∷ [] }

-- a committer: all its documents, those still to write, those written and not undone, the marks still to make, whether it undoes, and whether it does so for want of memory
pub record Writer : Type 0 where
  pub paths : List Path
  pub left : List Path
  pub written : List Path
  pub due : List Met
  pub undoing : Bool
  pub wants : Bool
