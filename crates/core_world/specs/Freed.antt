-- Documents that have nothing of a revision, and changes that bring nothing of it.
use Rattle.std.specs.Prelude.{Bool, true, false, not, is_some, Option, IsFalse}
use Rattle.jr_rev.specs.declared.revision.Revision.{Revision}
use Rattle.jr_rev.specs.Revisions.{is_same}
use Rattle.oak_clash.specs.declared.mark.Mark.{Mark}
use Rattle.oak_commit.specs.Clashing.{marked}
use Rattle.oak_doc.specs.declared.document.Document.{Document}
use Rattle.oak_doc.specs.declared.update.Change.{Change}
use Rattle.oak_doc.specs.declared.update.Change.TheVariants as change
use Rattle.core_read.specs.Holds.{root_entry}

-- no mark and no commit root of r
pub record HasNothing (o : Option Document) (r : Revision) : Type 0 where
  pub marks : (m : Mark) → IsFalse (marked o r m)
  pub root : IsFalse (is_some (root_entry o r))

-- the change is no entry of r, no undoing and no pruning
abbrev pub brings_nothing : Revision → Change → Bool
brings_nothing r (change.Deleted q b) = not (is_same r q)
brings_nothing r (change.CommitRoot q depth) = not (is_same r q)
brings_nothing r (change.Guard q) = not (is_same r q)
brings_nothing r (change.Touched q) = not (is_same r q)
brings_nothing r (change.Prop n q x) = not (is_same r q)
brings_nothing r (change.Undo q) = false
brings_nothing r (change.Prune keys) = false
brings_nothing r _ = true
