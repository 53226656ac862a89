-- How many steps are left of what a session does, where it alone takes steps, whatever they answer
-- but that one waits. The number hangs on the documents and on the memory of its cluster node
-- alone.
use Rattle.std.specs.Prelude.{ℕ, zero, suc, ◌+◌, ◌-◌, List, [], ◌∷◌, drop, length, Option, None, Some}
use Rattle.std.specs.List.{filter}
use Rattle.std.specs.Map.{keys_of}
use Rattle.std.specs.Ordering.{is_lt}
use Rattle.jr_path.specs.Ids.{id_cmp}
use Rattle.jr_path.specs.declared.path.DocId.TheVariants as id
use Rattle.jr_path.specs.declared.path.Path.{Path}
use Rattle.jr_rev.specs.declared.revision.Revision.{Revision}
use Rattle.jr_rev.specs.declared.vector.RevVec.{RevVec}
use Rattle.jr_tree.specs.declared.edit.Write.{Write}
use Rattle.oak_changes.specs.declared.changes.ChangesReader.{ChangesReader}
use Rattle.oak_changes.specs.declared.changes.Step.{Step as ChangesStep}
use Rattle.oak_changes.specs.declared.changes.Step.TheVariants as told
use Rattle.oak_clash.specs.declared.mark.MarkAt.{MarkAt}
use Rattle.oak_commit.specs.Clashing.{Met, found, mark_op}
use Rattle.oak_commit.specs.Committing.{Committing, begun, first_path, roots_in}
use Rattle.oak_commit.specs.Looking.{whole}
use Rattle.oak_commit.specs.Writing.{write_op}
use Rattle.oak_commit.specs.declared.look.Look.{Look}
use Rattle.oak_doc.specs.declared.document.Document.{Document}
use Rattle.oak_commit.specs.declared.outcome.CommitEnd.{CommitEnd}
use Rattle.oak_node.specs.Heads.{next_draw}
use Rattle.oak_node.specs.Memory.{NodeState}
use Rattle.oak_node.specs.Seen.{seen_paths}
use Rattle.oak_read.specs.declared.reader.Reader.{Reader}
use Rattle.oak_read.specs.declared.reader.Step.{Step}
use Rattle.oak_read.specs.declared.reader.Step.TheVariants as step
use Rattle.oak_store.specs.Tables.{Table}
use Rattle.core_world.specs.States.{listed_at, memory_of, moved_in, nodes_in}
use Rattle.core_world.specs.Steps.{after_update}
use Rattle.oak_sweep.specs.declared.sweeper.Sweeper.{Sweeper}
use Rattle.oak_sweep.specs.declared.sweeper.Step.{Step as SweepStep}
use Rattle.oak_sweep.specs.declared.sweeper.Step.TheVariants as passing
use Rattle.oak_sync.specs.Learning.{stage_of}
use Rattle.oak_sync.specs.declared.stage.Stage.{Stage as Syncing}
use Rattle.oak_sync.specs.declared.stage.Stage.TheVariants as syncing
use Rattle.oak_step.specs.declared.upkeep.Upkeep.{Upkeep}
use Rattle.oak_step.specs.declared.upkeep.Upkeep.TheVariants as upkeep
use Rattle.oak_step.specs.declared.work.Work.{Work}
use Rattle.oak_step.specs.declared.work.Work.TheVariants as work
use Rattle.oak_step.specs.Parts.{pinned_base, changes_on, read_on}
use Rattle.oak_tidy.specs.Left.{tidying_left}
use Rattle.oak_world.specs.Worlds.{WorldOf, once_looked, state_of, work_in}

-- ---- a reader

-- where a reader stands: it asks for the document of a node, for previous documents of the node or
-- for commit roots, with so many behind the next of these, or for the document behind; or it is
-- done
pub data Phase : Type 0 where
  Main : Phase
  Previous : ℕ → Phase
  Roots : ℕ → Phase
  Next : Phase
  Done : Phase

-- readers of one kind, where an answer of the documents makes this of one, by where it stands
module _ {R : Type 0} (answered : R → R) (phase : R → Phase) where
  -- a reader after so many answers
  abbrev pub after_answers : ℕ → R → R
  after_answers zero r = r
  after_answers (suc n) r = after_answers n (answered r)

  -- how many asks are left of a reader that reads commit roots, where behind them so many are
  abbrev pub roots_left : (R → ℕ) → R → Phase → ℕ
  roots_left behind r (Roots n) = suc n + behind (after_answers (suc n) r)
  roots_left behind r _ = behind r

  -- how many are left of a reader that reads previous documents, or commit roots
  abbrev pub previous_left : (R → ℕ) → R → Phase → ℕ
  previous_left behind r (Previous n) =
      suc n + roots_left behind (after_answers (suc n) r) (phase (after_answers (suc n) r))
  previous_left behind r p = roots_left behind r p

  -- how many are left of a reader that asks for the document of a node, or reads what belongs to it
  abbrev pub main_left : (R → ℕ) → R → Phase → ℕ
  main_left behind r Main = suc (previous_left behind (answered r) (phase (answered r)))
  main_left behind r p = previous_left behind r p

  -- how many are left of a reader that asks for the document behind
  abbrev pub next_left : (R → ℕ) → R → Phase → ℕ
  next_left behind r Next = suc (previous_left behind (answered r) (phase (answered r)))
  next_left behind r _ = 0

  -- how many are left of such a reader, where at most so many documents are behind
  abbrev pub nexts_left : ℕ → R → ℕ
  nexts_left zero r = 0
  nexts_left (suc n) r = next_left (λ q. nexts_left n q) r (phase r)

  -- how many are left of any reader, where at most so many documents are behind
  abbrev pub asks_left : ℕ → R → ℕ
  asks_left n r = main_left (λ q. nexts_left n q) r (phase r)

-- how many documents stand behind that of a path
abbrev pub documents_behind : Table → Path → ℕ
documents_behind t p = length (filter (λ x. is_lt (id_cmp (id.Node p) x)) (keys_of t.documents))

-- where the reader of a load or a list stands
abbrev pub phase_of : Reader → Phase
phase_of r = by r.step
  where
    by : Step → Phase
    by step.Main = Main
    by (step.Previous left) = Previous (length left.rest)
    by (step.Roots left) = Roots (length left.rest)
    by step.Next = Next
    by (step.Done o) = Done

-- how many asks are left of a load or a list, over documents at rest
abbrev pub reads_left : Table → Reader → ℕ
reads_left t r = asks_left (read_on t) phase_of (documents_behind t r.at) r

-- where a reader of changes stands; the first document of all it asks for as for one behind
abbrev pub phase_told : ChangesReader → Phase
phase_told r = by r.step
  where
    by : ChangesStep → Phase
    by told.First = Next
    by (told.Previous left) = Previous (length left.rest)
    by (told.Roots left) = Roots (length left.rest)
    by told.Next = Next
    by (told.Done commits) = Done

-- how many documents a reader of changes may come to: all where it asks for the first, else those
-- behind that of its node
abbrev pub documents_ahead : Table → ChangesReader → ℕ
documents_ahead t r = by r.step
  where
    by : ChangesStep → ℕ
    by told.First = length t.documents
    by _ = documents_behind t r.at

-- how many asks are left of a reader of changes, over documents at rest
abbrev pub changes_left : Table → ChangesReader → ℕ
changes_left t r = asks_left (changes_on t) phase_told (documents_ahead t r) r

-- ---- a commit

-- the document of a path, with all that moved to the previous ones that it lists put back
abbrev pub looked_in : Table → Path → Option Document
looked_in t p = whole p (nodes_in t p) (moved_in t p)

module _ (r : Revision) where
  -- marks on the commit roots of a list, and what is left behind them
  abbrev pub marks_left : (Table → ℕ) → List Met → List Path → Table → ℕ
  marks_left behind [] roots t = behind t
  marks_left behind (f ∷ fs) roots t =
      suc (marks_left behind fs (drop 1 roots)
      (after_update t (mark_op (first_path roots) f.other r f.theirs)))

module _ (r : Revision) (base : RevVec) (writes : List Write) (marks : List MarkAt) where
  -- the document of a path, with a look at each previous one that it lists, with the marks of what
  -- it met there, and what is left behind them
  abbrev pub write_left : (Table → ℕ) → Path → Table → ℕ
  write_left behind p t =
      suc (length (listed_at t p)
      + marks_left r behind (found base r p marks (looked_in t p))
      (roots_in (looked_in t p) (found base r p marks (looked_in t p)))
      (after_update t (write_op r writes marks p)))

  -- documents, with the marks of what it met in each
  abbrev pub writes_left : List Path → Table → ℕ
  writes_left [] t = 0
  writes_left (p ∷ ps) t = write_left (λ u. writes_left ps u) p t

-- the previous documents for which a look has still to ask
abbrev pub looks_left : Option Look → ℕ
looks_left None = 0
looks_left (Some k) = suc (length k.rest)

-- the updates of a committer that looks at no previous document now, and at most as many undoings
-- as documents; behind them its end, and the move of the base
abbrev pub updates_left : Table → Committing → ℕ
updates_left t c =
    marks_left c.revision
    (writes_left c.revision c.base c.edit.writes c.marks c.writer.left) c.writer.due c.roots t
    + length c.writer.written + length c.writer.left + 4

-- a commit has left, before its commit point, its look, and then its updates with the marks that
-- are to come; behind that its end, and the move of the base
abbrev pub commit_left : Table → Committing → Option CommitEnd → ℕ
commit_left t c None = looks_left c.looking + updates_left t (once_looked t c)
commit_left t c (Some e) = suc (suc (length c.writer.written))

-- ---- background work

-- the names of all the paths
abbrev pub names_in : List Path → ℕ
names_in [] = 0
names_in (p ∷ ps) = length p + names_in ps

-- how many steps are left of a background read that stands in a stage
abbrev pub learn_left : Syncing → ℕ
learn_left syncing.Read = 2
learn_left _ = 1

-- how many steps of a sweep are left at most: the root's read, one for each document that it has
-- still to pass, the look behind the last one, the root's update, and the learning
abbrev pub passes_left : Table → Sweeper → ℕ
passes_left t x = by x.step
  where
    by : SweepStep → ℕ
    by passing.Root = length t.documents + 4
    by passing.First = length t.documents + 3
    by (passing.Behind p) = documents_behind t p + 3
    by passing.Publish = 2
    by _ = 1

-- how many steps of an upkeep are left at most; a background write tells a document a step, which
-- before it has begun are the root's and no more than one for each name
abbrev pub upkeep_left : Table → NodeState → Upkeep → ℕ
upkeep_left t m upkeep.Write = suc (suc (names_in (seen_paths m.head m.notes)))
upkeep_left t m (upkeep.Noted n) = suc (names_in n.paths)
upkeep_left t m (upkeep.Publish b) = length b.paths - b.written
upkeep_left t m (upkeep.Read b) = learn_left (stage_of b)
upkeep_left t m upkeep.Sweep = length t.documents + 4
upkeep_left t m (upkeep.Sweeping x) = passes_left t x
upkeep_left t m upkeep.Detach = 2
upkeep_left t m _ = 1

-- ---- all

-- of what session s does, by the documents and the memory of its cluster node
abbrev pub steps_left : ℕ → Table → NodeState → Work → ℕ
steps_left s t m work.Rest = 0
steps_left s t m (work.Read r) = suc (reads_left t r)
steps_left s t m (work.Changes r) = suc (changes_left t r)
steps_left s t m (work.Plan edit marks) =
    suc (commit_left t (begun (next_draw m) (pinned_base m s) edit marks) None)
steps_left s t m (work.Commit c) = commit_left t c c.outcome
steps_left s t m (work.Upkeep u) = upkeep_left t m u
steps_left s t m (work.Tidy x) = tidying_left t x
steps_left s t m (work.Told e) = 0
steps_left s t m _ = 1

-- of what session s of a world does
abbrev pub left_in : {L : Type 0} → WorldOf L → ℕ → ℕ
left_in w s = steps_left s w.table (memory_of (state_of w) s) (work_in w.actors s)
