-- What a recovery tells at its end.
use Rattle.std.specs.Prelude.{◌≡◌, ◌≤◌, ℕ, suc, Some}
use Rattle.jr_rev.specs.Vectors.{IsVector, entry}
use Rattle.oak_doc.specs.declared.document.Document.{Document}
use Rattle.oak_doc.specs.declared.asks.Ask.TheVariants as ask
use Rattle.oak_doc.specs.declared.asks.Reply.{Reply}
use Rattle.oak_doc.specs.declared.asks.Reply.TheVariants as reply
use Rattle.oak_doc.specs.Updates.{after_changes}
use Rattle.oak_sync.specs.Upward.{AreUpward}
use Rattle.oak_recover.specs.Recovering.{Feeds, due, recovery_end, publish_op, stage_of}
use Rattle.oak_recover.specs.declared.recovery.Recovery.{Recovery}
use Rattle.oak_recover.specs.declared.stage.Stage.TheVariants as stage

-- a recovery of a cluster node that there may be, which has the root's document to tell next, where the root stands last
pub record IsAtRoot (s : Recovery) : Type 0 where
  pub publishes : stage_of s ≡ stage.Publish
  pub upward : AreUpward s.noted s.paths
  pub low : 1 ≤ s.after.cluster
  pub high : s.after.cluster ≤ 8
  pub own : s.upto.cluster ≡ s.after.cluster

-- s has told the root, of which d was the document before, and t is what it keeps: it knows what the root says then, and this is what it tells, whatever it is answered from then on
pub record TellsTheRoot (s t : Recovery) (d : Document) : Type 0 where
  pub asked : due s ≡ ask.Update (publish_op s.upto)
  pub said : (number : ℕ) → entry (after_changes (Some d) (publish_op s.upto) number).last_rev s.after.cluster ≡ Some t.upto
  pub kept : (answers : ℕ → Reply) (run : ℕ → Recovery) → run 0 ≡ t → ((n : ℕ) → Feeds (run n) (answers n) (run (suc n))) → (n : ℕ) → (recovery_end (run n)).upto ≡ t.upto

-- every recovery that told the root does so
abbrev pub AllTellTheRoot : Type 0
AllTellTheRoot = (s t : Recovery) (d : Document) → IsAtRoot s → IsVector d.last_rev → Feeds s (reply.Updated (Some d)) t → TellsTheRoot s t d
