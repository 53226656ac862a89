-- Which kind of operation a committer has due.
use Rattle.std.specs.Prelude.{cond, List, [], ◌∷◌, Option, None, Some}
use Rattle.jr_path.specs.declared.path.Path.{Path}
use Rattle.oak_commit.specs.Clashing.{Met}
use Rattle.oak_commit.specs.Committing.{Committing}
use Rattle.oak_commit.specs.declared.look.Look.{Look}
use Rattle.oak_commit.specs.declared.outcome.CommitEnd.{CommitEnd}
use Rattle.oak_commit.specs.declared.outcome.CommitEnd.TheVariants as end
use Rattle.oak_commit.specs.declared.stage.Stage.{Stage}
use Rattle.oak_commit.specs.declared.stage.Stage.TheVariants as stage

-- behind all updates the end is due, and then nothing
abbrev pub end_stage : Committing → Stage
end_stage c = cond c.ended stage.Done stage.Finish

-- an update is due: first the marks, then the documents, then the last write
abbrev pub update_stage : Committing → Stage
update_stage c = by c.writer.due c.writer.left
  where
    by : List Met → List Path → Stage
    by (f ∷ fs) ps = stage.Mark
    by [] (p ∷ ps) = stage.Write
    by [] [] = stage.Last

-- before the commit point: first the previous documents, then the updates
abbrev pub going_stage : Committing → Stage
going_stage c = by c.looking
  where
    by : Option Look → Stage
    by (Some k) = stage.Look
    by None = update_stage c

-- while it undoes
abbrev pub undo_stage : Committing → Stage
undo_stage c = by c.writer.written
  where
    by : List Path → Stage
    by (p ∷ ps) = stage.Undo
    by [] = end_stage c

-- the kind of operation that a committer has due
abbrev pub stage_of : Committing → Stage
stage_of c = by c.outcome
  where
    by : Option CommitEnd → Stage
    by None = going_stage c
    by (Some (end.Committed r)) = end_stage c
    by (Some (end.Clash item o)) = undo_stage c
    by (Some end.Memory) = undo_stage c
