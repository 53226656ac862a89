-- What a committer keeps after the reply of a call that can't be refused, or can be.
use Rattle.std.proofs.Common.{◌≡◌, ◌⊎◌, inl, inr, Bool, true, false, List, [], ◌∷◌, Option, Some, None, Result, Ok, Err, refl, ap, ◌∙◌}
use Rattle.std.specs.Prelude.{OnErr, OnOk, IsTrue}
use Rattle.std.specs.declared.alloc.AllocError.{AllocError}
use Rattle.jr_path.specs.declared.path.Path.{Path}
use Rattle.oak_commit.specs.Clashing.{Met}
use Rattle.oak_commit.specs.Committing.{Committing, due_by, due_of, ended_by, fed, fed_by, is_past, looks_at, undo_due, wanting}
use Rattle.oak_commit.specs.Kept.{undoes}
use Rattle.oak_commit.specs.Stages.{stage_of}
use Rattle.oak_commit.specs.declared.look.Look.{Look}
use Rattle.oak_commit.specs.declared.outcome.CommitEnd.{CommitEnd}
use Rattle.oak_commit.specs.declared.outcome.CommitEnd.TheVariants as end
use Rattle.oak_commit.specs.declared.stage.Stage.TheVariants as stage
use Rattle.oak_doc.specs.declared.asks.Ask.TheVariants as ask
use Rattle.oak_doc.specs.declared.asks.Reply.{Reply}
use Rattle.oak_doc.specs.declared.asks.Reply.TheVariants as reply
use Rattle.oak_doc.specs.declared.document.Document.{Document}
use Rattle.oak_doc.specs.declared.update.Cond.{Cond}
use Rattle.oak_doc.specs.declared.update.Kept.{Kept}
use Rattle.oak_saves.proofs.Stages.{IsLastStage, IsMarkStage, finish_stage, last_stage, mark_stage}

-- the parts of a committer on which a reply turns
abbrev at : Committing → Option CommitEnd → Option Look → List Met → List Path → Committing
at c o k ds ps = record c { outcome = o; looking = k; writer = record c.writer { due = ds; left = ps } }

quiet_at : (c : Committing) (o : Option CommitEnd) (k : Option Look) (ds : List Met) (ps : List Path) → c.outcome ≡ o → c.looking ≡ k → c.writer.due ≡ ds → c.writer.left ≡ ps → (r : Reply) (b : Bool) → looks_at (at c o k ds ps) r ≡ b → looks_at c r ≡ b
quiet_at c o k ds ps out looked due left r b h =
    ap (λ (x : Option CommitEnd). looks_at (at c x c.looking c.writer.due c.writer.left) r) out
    ∙ (ap (λ (x : Option Look). looks_at (at c o x c.writer.due c.writer.left) r) looked
    ∙ (ap (λ (x : List Met). looks_at (at c o k x c.writer.left) r) due ∙ (ap (λ (x : List Path). looks_at (at c o k ds x) r) left ∙ h)))

-- a reply tells of no document that is looked at, where that isn't what was due
unmet_by : (c : Committing) (x : Cond) (y : Kept) (o : Option CommitEnd) (k : Option Look) (ds : List Met) (ps : List Path) → looks_at (at c o k ds ps) (reply.Unmet x y) ≡ false
unmet_by c x y None None [] [] = refl
unmet_by c x y None None [] (p ∷ ps) = refl
unmet_by c x y None None (d ∷ ds) ps = refl
unmet_by c x y None (Some k) ds ps = refl
unmet_by c x y (Some e) k ds ps = refl

undone_by : (c : Committing) (o : Option CommitEnd) (k : Option Look) (ds : List Met) (ps : List Path) → looks_at (at c o k ds ps) reply.Undone ≡ false
undone_by c None None [] [] = refl
undone_by c None None [] (p ∷ ps) = refl
undone_by c None None (d ∷ ds) ps = refl
undone_by c None (Some k) ds ps = refl
undone_by c (Some e) k ds ps = refl

finished_by : (c : Committing) (o : Option CommitEnd) (k : Option Look) (ds : List Met) (ps : List Path) → looks_at (at c o k ds ps) reply.Finished ≡ false
finished_by c None None [] [] = refl
finished_by c None None [] (p ∷ ps) = refl
finished_by c None None (d ∷ ds) ps = refl
finished_by c None (Some k) ds ps = refl
finished_by c (Some e) k ds ps = refl

-- the reply was taken
sure : (r : Result Unit AllocError) (c d : Committing) (x : Reply) → OnOk r (d ≡ fed c x) → OnErr r (IsTrue (looks_at c x)) → looks_at c x ≡ false → d ≡ fed c x
sure (Ok u) c d x ok only quiet = ok
sure (Err e) c d x ok only quiet = let k : looks_at c x ≡ true = only in cc

pub fed_unmet : (r : Result Unit AllocError) (c d : Committing) (k : Cond) (x : Kept) → OnOk r (d ≡ fed c (reply.Unmet k x)) → OnErr r (IsTrue (looks_at c (reply.Unmet k x))) → d ≡ fed c (reply.Unmet k x)
fed_unmet r c d k x ok only = sure r c d (reply.Unmet k x) ok only (unmet_by c k x c.outcome c.looking c.writer.due c.writer.left)

pub fed_undone : (r : Result Unit AllocError) (c d : Committing) → OnOk r (d ≡ fed c reply.Undone) → OnErr r (IsTrue (looks_at c reply.Undone)) → d ≡ fed c reply.Undone
fed_undone r c d ok only = sure r c d reply.Undone ok only (undone_by c c.outcome c.looking c.writer.due c.writer.left)

pub fed_finished : (r : Result Unit AllocError) (c d : Committing) → OnOk r (d ≡ fed c reply.Finished) → OnErr r (IsTrue (looks_at c reply.Finished)) → d ≡ fed c reply.Finished
fed_finished r c d ok only = sure r c d reply.Finished ok only (finished_by c c.outcome c.looking c.writer.due c.writer.left)

pub fed_marked : (r : Result Unit AllocError) (c d : Committing) (b : Option Document) → stage_of c ≡ stage.Mark → OnOk r (d ≡ fed c (reply.Updated b)) → OnErr r (IsTrue (looks_at c (reply.Updated b))) → d ≡ fed c (reply.Updated b)
fed_marked r c d b marks ok only = sure r c d (reply.Updated b) ok only (by (mark_stage c marks))
  where
    by : IsMarkStage c → looks_at c (reply.Updated b) ≡ false
    by m = quiet_at c None None (m.first ∷ m.rest) c.writer.left m.going m.looked m.due refl (reply.Updated b) false refl

pub fed_lasted : (r : Result Unit AllocError) (c d : Committing) (b : Option Document) → stage_of c ≡ stage.Last → OnOk r (d ≡ fed c (reply.Updated b)) → OnErr r (IsTrue (looks_at c (reply.Updated b))) → d ≡ fed c (reply.Updated b)
fed_lasted r c d b lasts ok only = sure r c d (reply.Updated b) ok only (by (last_stage c lasts))
  where
    by : IsLastStage c → looks_at c (reply.Updated b) ≡ false
    by m = quiet_at c None None [] [] m.going m.looked m.unmet m.none (reply.Updated b) false refl

pub fed_written : (r : Result Unit AllocError) (c d : Committing) (b : Option Document) → OnOk r (d ≡ fed c (reply.Updated b)) → OnErr r (d ≡ wanting (fed c (reply.Updated b))) → (d ≡ fed c (reply.Updated b)) ⊎ (d ≡ wanting (fed c (reply.Updated b)))
fed_written (Ok u) c d b ok err = inl ok
fed_written (Err e) c d b ok err = inr err

-- ---- the end

module _ (c : Committing) (finish : stage_of c ≡ stage.Finish) where
  past_end : (o : Option CommitEnd) → is_past o ≡ true → fed_by c o reply.Finished ≡ record c { ended = true }
  past_end None h = cc
  past_end (Some (end.Committed r)) h = refl
  past_end (Some (end.Clash item o)) h = cc
  past_end (Some end.Memory) h = cc

  undone_end : (o : Option CommitEnd) → undoes o ≡ true → fed_by c o reply.Finished ≡ ended_by c c.writer.written
  undone_end None h = cc
  undone_end (Some (end.Committed r)) h = cc
  undone_end (Some (end.Clash item o)) h = refl
  undone_end (Some end.Memory) h = refl

  -- what is kept then
  pub fed_end : fed c reply.Finished ≡ record c { ended = true }
  fed_end = by (finish_stage c finish).through
    where
      by : (is_past c.outcome ≡ true) ⊎ ((undoes c.outcome ≡ true) × (c.writer.written ≡ [])) → fed c reply.Finished ≡ record c { ended = true }
      by (inl past) = past_end c.outcome past
      by (inr u) = undone_end c.outcome u.0 ∙ ap (λ (ps : List Path). ended_by c ps) u.1

  past_done : (o : Option CommitEnd) → is_past o ≡ true → due_by (record c { ended = true }) o ≡ ask.Done
  past_done None h = cc
  past_done (Some (end.Committed r)) h = refl
  past_done (Some (end.Clash item o)) h = cc
  past_done (Some end.Memory) h = cc

  undone_done : (o : Option CommitEnd) → undoes o ≡ true → due_by (record c { ended = true }) o ≡ undo_due (record c { ended = true }) c.writer.written
  undone_done None h = cc
  undone_done (Some (end.Committed r)) h = cc
  undone_done (Some (end.Clash item o)) h = refl
  undone_done (Some end.Memory) h = refl

  -- and nothing is due
  pub end_done : due_of (record c { ended = true }) ≡ ask.Done
  end_done = by (finish_stage c finish).through
    where
      by : (is_past c.outcome ≡ true) ⊎ ((undoes c.outcome ≡ true) × (c.writer.written ≡ [])) → due_of (record c { ended = true }) ≡ ask.Done
      by (inl past) = past_done c.outcome past
      by (inr u) = undone_done c.outcome u.0 ∙ ap (λ (ps : List Path). undo_due (record c { ended = true }) ps) u.1
