-- What is due of background writes and reads, by the stages in which they stand.
use Rattle.std.proofs.Common.{◌≡◌, ◌≢◌, zero, Bool, true, false, cond, List, [], ◌∷◌, ◌++◌, length, Option, Some, None, refl, sym, ap, ◌∙◌, arith}
use Rattle.std.specs.Prelude.{◌==◌, slice_get}
use Rattle.std.specs.Option.{option_map_or}
use Rattle.std.specs.declared.alloc.Global.{Global}
use Rattle.std.proofs.lemmas.Bool.{eqb-true}
use Rattle.jr_path.specs.Ids.{names_of}
use Rattle.jr_path.specs.declared.path.DocId.TheVariants as id
use Rattle.jr_path.specs.declared.path.Path.{Path}
use Rattle.oak_doc.specs.declared.asks.Ask.{Ask}
use Rattle.oak_doc.specs.declared.asks.Ask.TheVariants as ask
use Rattle.oak_doc.specs.declared.asks.MemoryAsk.TheVariants as memory
use Rattle.oak_doc.specs.declared.asks.Reply.TheVariants as reply
use Rattle.oak_doc.specs.declared.document.Document.{Document}
use Rattle.oak_node.specs.declared.pending.Pending.{Pending}
use Rattle.oak_sync.specs.Learning as learning
use Rattle.oak_sync.specs.Publishing.{HasWrittenNothing, back_op, due, stage_of, write_stage}
use Rattle.oak_sync.specs.declared.back_read.BackRead.{BackRead}
use Rattle.oak_sync.specs.declared.back_read.Step.{Step}
use Rattle.oak_sync.specs.declared.back_read.Step.TheVariants as step
use Rattle.oak_sync.specs.declared.back_write.BackWrite.{BackWrite}
use Rattle.oak_sync.specs.declared.stage.Stage.TheVariants as stage
use Rattle.oak_sync.proofs.Ending.{root_last}

-- ---- a background write

-- a document is due, below the root or not
pub record IsPathDue (b : BackWrite) (p : Path) : Type 0 where
  pub path : slice_get b.paths b.written ≡ Some p
  pub asks : due b ≡ ask.Update (back_op p b.upto)
  pub stage : stage_of b ≡ write_stage p

path_there : (b : BackWrite) (p : Path) → slice_get b.paths b.written ≡ Some p → IsPathDue b p
path_there b p is = record {
  path = is;
  asks = ap (λ o. option_map_or (λ q. ask.Update (back_op q b.upto)) o ask.Done) is;
  stage = ap (λ o. option_map_or write_stage o stage.Done) is;
}

pub path_due : (b : BackWrite) → stage_of b ≢ stage.Done → (p : Path) × IsPathDue b p
path_due b busy = by (slice_get b.paths b.written) refl
  where
    by : (o : Option Path) → slice_get b.paths b.written ≡ o → (p : Path) × IsPathDue b p
    by None is = absurd (busy (ap (λ o. option_map_or write_stage o stage.Done) is))
    by (Some p) is = (p, path_there b p is)

-- the path of the document that is due is one
abbrev path_in : Ask → Path
path_in (ask.Update op) = names_of op.id
path_in _ = []

pub one_due : (b : BackWrite) (p q : Path) → due b ≡ ask.Update (back_op p b.upto) → due b ≡ ask.Update (back_op q b.upto) → p ≡ q
one_due b p q e f = ap path_in (sym e ∙ f)

-- below the root
pub below_due : (b : BackWrite) → stage_of b ≡ stage.Write → (p : Path) × IsPathDue b p × ((length p == 0) ≡ false)
below_due b at = let it = path_due b (λ done. apart (sym at ∙ done)) in (it.0, it.1, by (length (it.0) == 0) (sym (it.1).stage ∙ at))
  where
    apart : stage.Write ≢ stage.Done
    apart h = cc

    by : (c : Bool) → cond c stage.Publish stage.Write ≡ stage.Write → c ≡ false
    by true h = cc
    by false h = refl

-- the root's
pub root_due : (b : BackWrite) → stage_of b ≡ stage.Publish → IsPathDue b []
root_due b at = let it = path_due b (λ done. apart (sym at ∙ done)) in path_there b [] ((it.1).path ∙ ap Some (none (it.0) (by (length (it.0) == 0) (sym (it.1).stage ∙ at))))
  where
    apart : stage.Publish ≢ stage.Done
    apart h = cc

    by : (c : Bool) → cond c stage.Publish stage.Write ≡ stage.Publish → c ≡ true
    by true h = refl
    by false h = cc

    none : (p : Path) → (length p == 0) ≡ true → p ≡ []
    none [] h = refl
    none (n ∷ p) h = absurd (omega (arith, eqb-true (length (n ∷ p)) 0 h))

-- one that has begun has a document due
pub begun_due : (a : Global) (pending : Pending) (b : BackWrite) → HasWrittenNothing a pending b → stage_of b ≢ stage.Done
begun_due a pending b is done =
    let root = root_last pending.paths b.paths is.paths in
    by root.0 (ap (λ (ps : List Path). option_map_or write_stage (slice_get ps zero) stage.Done) (sym root.1) ∙ (ap (λ (c : BackWrite). option_map_or write_stage (slice_get b.paths c.written) stage.Done) (sym is.state) ∙ done))
  where
    apart : (c : Bool) → cond c stage.Publish stage.Write ≢ stage.Done
    apart true h = cc
    apart false h = cc

    by : (front : List Path) → option_map_or write_stage (slice_get (front ++ [] ∷ []) zero) stage.Done ≢ stage.Done
    by [] h = apart true h
    by (p ∷ ps) h = apart (length p == 0) h

-- ---- a background read

pub at_root : (b : BackRead) → learning.stage_of b ≡ stage.Read → b ≡ record b { step = step.Root }
at_root b at = by b.step refl at
  where
    by : (s : Step) → b.step ≡ s → learning.stage_of (record b { step = s }) ≡ stage.Read → b ≡ record b { step = step.Root }
    by step.Root is h = ap (λ (s : Step). record b { step = s }) is
    by step.Learn is h = cc
    by step.Done is h = cc

pub at_learn : (b : BackRead) → learning.stage_of b ≡ stage.Learn → b ≡ record b { step = step.Learn }
at_learn b at = by b.step refl at
  where
    by : (s : Step) → b.step ≡ s → learning.stage_of (record b { step = s }) ≡ stage.Learn → b ≡ record b { step = step.Learn }
    by step.Root is h = cc
    by step.Learn is h = ap (λ (s : Step). record b { step = s }) is
    by step.Done is h = cc

-- the root's document is due
pub finds_root : (b : BackRead) → learning.stage_of b ≡ stage.Read → learning.due b ≡ ask.Find (id.Node [])
finds_root b at = ap learning.due (at_root b at)

-- both vectors are to be learned
pub learns_both : (b : BackRead) → learning.stage_of b ≡ stage.Learn → learning.due b ≡ ask.Memory (memory.Learn b.last b.sweep)
learns_both b at = ap learning.due (at_learn b at)

pub reads_root : (b : BackRead) (o : Option Document) → learning.stage_of b ≡ stage.Read → learning.fed b (reply.Found o) ≡ learning.with_root b o
reads_root b o at = ap (λ (c : BackRead). learning.fed c (reply.Found o)) (at_root b at) ∙ by o
  where
    by : (o : Option Document) → learning.with_root (record b { step = step.Root }) o ≡ learning.with_root b o
    by None = refl
    by (Some d) = refl
