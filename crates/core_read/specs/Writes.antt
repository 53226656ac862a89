-- Which changes are entries of one revision, and documents whose entries are in order.
use Rattle.std.specs.Prelude.{Bool, true, false, IsTrue}
use Rattle.std.specs.FinMap.{is_sorted}
use Rattle.jr_path.specs.Names.{name_cmp}
use Rattle.jr_rev.specs.declared.revision.Revision.{Revision}
use Rattle.jr_rev.specs.Revisions.{is_same}
use Rattle.oak_doc.specs.declared.document.Document.{Document}
use Rattle.oak_doc.specs.declared.update.Change.{Change}
use Rattle.oak_doc.specs.declared.update.Change.TheVariants as change

-- an entry of r, or of no revision that is looked up
abbrev pub is_entry_of : Revision → Change → Bool
is_entry_of r (change.Deleted q b) = is_same q r
is_entry_of r (change.CommitRoot q depth) = is_same q r
is_entry_of r (change.Prop n q x) = is_same q r
is_entry_of r (change.Collision q o item) = true
is_entry_of r (change.Touched q) = true
is_entry_of r (change.Guard q) = true
is_entry_of r (change.LastRev q) = true
is_entry_of r (change.SweepRev q) = true
is_entry_of r _ = false

-- the names of the properties rise
pub record IsOrderedDocument (d : Document) : Type 0 where
  pub names : IsTrue (is_sorted name_cmp d.props)
