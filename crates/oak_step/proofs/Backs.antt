-- What background writes and reads ask of the documents, and are answered.
use Rattle.std.proofs.Common.{◌≡◌, ◌≢◌, Bool, true, false, cond, [], length, Option, Some, None, refl, sym, ap, subst, ◌∙◌}
use Rattle.std.specs.Prelude.{◌==◌}
use Rattle.std.specs.declared.alloc.Global.{Global}
use Rattle.jr_path.specs.declared.path.DocId.TheVariants as id
use Rattle.jr_path.specs.declared.path.Path.{Path}
use Rattle.oak_doc.specs.Updates.{updated}
use Rattle.oak_doc.specs.declared.document.Document.{Document}
use Rattle.oak_node.specs.declared.pending.Pending.{Pending}
use Rattle.oak_store.specs.Tables.{Table, found, next_number}
use Rattle.core_world.specs.Steps.{after_update}
use Rattle.oak_sync.specs.Learning as learning
use Rattle.oak_sync.specs.Publishing.{HasWrittenNothing, back_op, due, fed, stage_of, went_on}
use Rattle.oak_sync.specs.declared.back_read.BackRead.{BackRead}
use Rattle.oak_sync.specs.declared.back_write.BackWrite.{BackWrite}
use Rattle.oak_sync.specs.declared.stage.Stage.TheVariants as stage
use Rattle.oak_sync.proofs.Standing.{IsPathDue, begun_due, finds_root, path_due, reads_root}
use Rattle.oak_acts.specs.Acts.{replied}
use Rattle.oak_step.specs.Parts.{IsPublishing, after_ask, answered_by, learned_on, published_on}

-- ---- a background write

-- a stage with a document due
pub publishing_at : (b : BackWrite) → stage_of b ≢ stage.Done → IsPublishing (stage_of b)
publishing_at b busy = let it = path_due b busy in subst IsPublishing (sym (it.1).stage) (by (length (it.0) == 0))
  where
    by : (c : Bool) → IsPublishing (cond c stage.Publish stage.Write)
    by true = tt
    by false = tt

pub publishing_first : (a : Global) (n : Pending) (b : BackWrite) → HasWrittenNothing a n b → IsPublishing (stage_of b)
publishing_first a n b is = publishing_at b (begun_due a n b is)

-- the table that a background write leaves
pub told_table : (t : Table) (b : BackWrite) (p : Path) → IsPathDue b p → after_ask t (due b) ≡ after_update t (back_op p b.upto)
told_table t b p is = ap (after_ask t) is.asks

-- whatever the document that is told is, the next one comes
pub goes_on : (t : Table) (b : BackWrite) (p : Path) → IsPathDue b p → published_on t b ≡ went_on b
goes_on t b p is = ap (λ a. fed b (answered_by t a)) is.asks ∙ by (found t (id.Node p))
  where
    by : (o : Option Document) → fed b (replied o (updated o (back_op p b.upto) (next_number t))) ≡ went_on b
    by None = refl
    by (Some d) = refl

-- ---- a background read

-- a reading leaves the table
pub read_table : (t : Table) (b : BackRead) → learning.stage_of b ≡ stage.Read → after_ask t (learning.due b) ≡ t
read_table t b at = ap (after_ask t) (finds_root b at)

pub reads_on : (t : Table) (b : BackRead) → learning.stage_of b ≡ stage.Read → learned_on t b ≡ learning.with_root b (found t (id.Node []))
reads_on t b at = ap (λ a. learning.fed b (answered_by t a)) (finds_root b at) ∙ reads_root b (found t (id.Node [])) at
