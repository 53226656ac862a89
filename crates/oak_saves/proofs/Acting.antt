-- An operation of a commit on a document, from the calls that make it.
use Rattle.std.proofs.Common.{◌≡◌, ◌⊎◌, inl, inr, ℕ, Bool, true, false, cond, List, [], ◌∷◌, ◌++◌, Option, Some, None, Result, Ok, Err, is_some, refl, sym, ap, subst, ◌∙◌}
use Rattle.std.specs.Prelude.{OnErr, OnOk, IsTrue, is_none, slice_get}
use Rattle.std.specs.Option.{option_map, option_map_or}
use Rattle.std.specs.declared.alloc.AllocError.{AllocError}
use Rattle.jr_path.specs.declared.path.Path.{Path}
use Rattle.jr_path.specs.declared.path.Item.{Item}
use Rattle.jr_path.specs.declared.path.DocId.{DocId}
use Rattle.jr_path.specs.declared.path.DocId.TheVariants as id
use Rattle.jr_rev.specs.declared.revision.Revision.{Revision}
use Rattle.oak_clash.specs.declared.mark.MarkAt.{MarkAt}
use Rattle.oak_commit.specs.Clashing.{Met}
use Rattle.oak_commit.specs.Committing.{Committing, asks_undo, due_by, due_of, fed, look_due, looks_at, mark_due, undo_due, undo_id, wanting, write_due}
use Rattle.oak_commit.specs.Kept.{undoes}
use Rattle.oak_commit.specs.Stages.{stage_of}
use Rattle.oak_commit.specs.Writing.{last_op, write_op}
use Rattle.oak_commit.specs.declared.outcome.CommitEnd.{CommitEnd}
use Rattle.oak_commit.specs.declared.outcome.CommitEnd.TheVariants as end
use Rattle.oak_commit.specs.declared.stage.Stage.TheVariants as stage
use Rattle.oak_doc.specs.declared.asks.Ask.TheVariants as ask
use Rattle.oak_doc.specs.declared.asks.Reply.{Reply}
use Rattle.oak_doc.specs.declared.asks.Reply.TheVariants as reply
use Rattle.oak_doc.specs.declared.document.Document.{Document}
use Rattle.oak_doc.specs.declared.update.Change.{Change}
use Rattle.oak_doc.specs.declared.update.Cond.{Cond}
use Rattle.oak_doc.specs.declared.update.Cond.TheVariants.{NoCollision}
use Rattle.oak_doc.specs.declared.update.Kept.{Kept}
use Rattle.oak_doc.specs.declared.update.Kept.TheVariants as kept
use Rattle.oak_doc.specs.declared.update.OpFault.{OpFault}
use Rattle.oak_doc.specs.declared.update.OpFault.TheVariants as fault
use Rattle.oak_doc.specs.declared.update.UpdateOp.{UpdateOp}
use Rattle.oak_doc.specs.Updates.{after_changes, holds, of_revision, updated}
use Rattle.oak_machine.specs.declared.event.Event.{Event}
use Rattle.oak_machine.specs.declared.event.Event.TheVariants as event
use Rattle.oak_machine.specs.declared.event.StepKind.TheVariants as kind
use Rattle.oak_read.specs.Reading.{answer}
use Rattle.oak_store.specs.Tables.{Table, Updates, after_undo, found, next_number}
use Rattle.oak_saves.specs.Saves.{IsLast, IsLastFault, IsUpdateMade, IsMarked, IsRefusedBy, IsDocumentUndone, IsWritten, fed_previous, fed_made, op_due, mark_refusal, result_of, saving}
use Rattle.oak_saves.proofs.Feeding.{op_last, op_mark, op_write}
use Rattle.oak_saves.proofs.Replies.{fed_lasted, fed_marked, fed_undone, fed_unmet, fed_written}
use Rattle.oak_saves.proofs.Stages.{IsLastStage, IsMarkStage, IsUndoStage, IsWriteStage, last_stage, look_stage, mark_stage, undo_stage, write_stage}
use Rattle.oak_saves.proofs.Tables.{made_is}

-- ---- before the commit point

pub mark_going : (c : Committing) → stage_of c ≡ stage.Mark → c.outcome ≡ None
mark_going c h = (mark_stage c h).going

pub write_going : (c : Committing) → stage_of c ≡ stage.Write → c.outcome ≡ None
write_going c h = (write_stage c h).going

pub look_going : (c : Committing) → stage_of c ≡ stage.Look → c.outcome ≡ None
look_going c h = (look_stage c h).going

pub last_going : (c : Committing) → stage_of c ≡ stage.Last → c.outcome ≡ None
last_going c h = (last_stage c h).going

-- ---- what is due

due_mark : (c : Committing) → IsMarkStage c → due_of c ≡ ask.Update (op_due c)
due_mark c m = ap (due_by c) m.going ∙ (ap (look_due c) m.looked ∙ (ap (mark_due c) m.due ∙ ap ask.Update (sym (op_mark c m.going m.looked m.first m.rest m.due))))

due_write : (c : Committing) → IsWriteStage c → due_of c ≡ ask.Update (op_due c)
due_write c m = ap (due_by c) m.going ∙ (ap (look_due c) m.looked ∙ (ap (mark_due c) m.unmet ∙ (ap (write_due c) m.left ∙ ap ask.Update (sym (op_write c m.going m.looked m.first m.rest m.unmet m.left)))))

due_last : (c : Committing) → IsLastStage c → due_of c ≡ ask.Update (op_due c)
due_last c m = ap (due_by c) m.going ∙ (ap (look_due c) m.looked ∙ (ap (mark_due c) m.unmet ∙ (ap (write_due c) m.none ∙ ap ask.Update (sym (op_last c m.going m.looked m.unmet m.none)))))

op_is : (c : Committing) (op : UpdateOp) → ask.Update op ≡ due_of c → due_of c ≡ ask.Update (op_due c) → op ≡ op_due c
op_is c op asked due = let e : ask.Update op ≡ ask.Update (op_due c) = asked ∙ due in cc

-- what is due is an update
pub mark_asks : (c : Committing) → stage_of c ≡ stage.Mark → due_of c ≡ ask.Update (op_due c)
mark_asks c h = due_mark c (mark_stage c h)

pub write_asks : (c : Committing) → stage_of c ≡ stage.Write → due_of c ≡ ask.Update (op_due c)
write_asks c h = due_write c (write_stage c h)

pub last_asks : (c : Committing) → stage_of c ≡ stage.Last → due_of c ≡ ask.Update (op_due c)
last_asks c h = due_last c (last_stage c h)

-- a mark is due
pub mark_there : (c : Committing) → stage_of c ≡ stage.Mark → is_some (slice_get c.writer.due 0) ≡ true
mark_there c h = let at : IsMarkStage c = mark_stage c h in ap (λ (fs : List Met). is_some (slice_get fs 0)) at.due

-- ---- what an update meets

ok_not : (d : Document) (f : OpFault) → Ok d ≡ Err f → ⊥
ok_not d f h = cc

unmet_not : (b : Bool) (d : Document) (k : Cond) (x : Kept) → cond b (Ok d) (Err (fault.Unmet k x)) ≡ Err fault.Absent → ⊥
unmet_not true d k x h = cc
unmet_not false d k x h = cc

-- one that makes the document finds it
found_by : (d : Option Document) (i : DocId) (k : Option Cond) (cs : List Change) (n : ℕ) → updated d (record { id = i; create = true; cond = k; changes = cs }) n ≡ Err fault.Absent → ⊥
found_by None i None cs n h = ok_not _ fault.Absent h
found_by (Some d) i None cs n h = ok_not _ fault.Absent h
found_by None i (Some k) cs n h = unmet_not (holds None k) _ k _ h
found_by (Some d) i (Some k) cs n h = unmet_not (holds (Some d) k) _ k _ h

found_op : (d : Option Document) (op : UpdateOp) (n : ℕ) → op.create ≡ true → updated d op n ≡ Err fault.Absent → ⊥
found_op d op n create h = found_by d op.id op.cond op.changes n (subst (λ (x : UpdateOp). updated d x n ≡ Err fault.Absent) (ap (λ (b : Bool). record op { create = b }) create) h)

-- and one that has no condition is made
made_by : (d : Option Document) (i : DocId) (cs : List Change) (n : ℕ) (f : OpFault) → updated d (record { id = i; create = true; cond = None; changes = cs }) n ≡ Err f → ⊥
made_by None i cs n f h = ok_not _ f h
made_by (Some d) i cs n f h = ok_not _ f h

made_op : (d : Option Document) (op : UpdateOp) (n : ℕ) (f : OpFault) → op.create ≡ true → op.cond ≡ None → updated d op n ≡ Err f → ⊥
made_op d op n f create free h =
    made_by d op.id op.changes n f (subst (λ (x : UpdateOp). updated d x n ≡ Err f) (ap (λ (b : Bool). record op { create = b }) create ∙ ap (λ (k : Option Cond). record op { create = true; cond = k }) free) h)

-- a last write
last_by : (d : Option Document) (r : Revision) (ms : List MarkAt) (n : ℕ) (f : OpFault) → updated d (last_op r ms) n ≡ Err f → IsLastFault f
last_by None r ms n f h = absurd (ok_not _ f h)
last_by (Some d) r ms n f h = by (of_revision d.collisions r) h
  where
    by : (o : Option (Revision × Item)) → cond (is_none o) (Ok (after_changes (Some d) (last_op r ms) n)) (Err (fault.Unmet (NoCollision r) (option_map_or (λ e. kept.Entry e.0 e.1) o kept.Nothing))) ≡ Err f → IsLastFault f
    by None k = absurd (ok_not _ f k)
    by (Some e) k = let same : fault.Unmet (NoCollision r) (kept.Entry e.0 e.1) ≡ f = cc in subst (λ (x : OpFault). IsLastFault x) same tt

module _ (t u : Table) (c : Committing) (op : UpdateOp) (asked : ask.Update op ≡ due_of c) where
  pub mark_makes : stage_of c ≡ stage.Mark → Updates t u op (Err fault.Absent) → ⊥
  mark_makes h up = let at : IsMarkStage c = mark_stage c h in found_op (found t op.id) op (next_number t) (ap (λ (x : UpdateOp). x.create) (op_is c op asked (due_mark c at) ∙ op_mark c at.going at.looked at.first at.rest at.due)) up.1

  module _ (h : stage_of c ≡ stage.Write) where
    write_fails : (f : OpFault) → updated (found t op.id) op (next_number t) ≡ Err f → ⊥
    write_fails f told =
        let at : IsWriteStage c = write_stage c h in
        let same : op ≡ write_op c.revision c.edit.writes c.marks at.first = op_is c op asked (due_write c at) ∙ op_write c at.going at.looked at.first at.rest at.unmet at.left in
        made_op (found t op.id) op (next_number t) f (ap (λ (x : UpdateOp). x.create) same) (ap (λ (x : UpdateOp). x.cond) same) told

    pub write_makes : Updates t u op (Err fault.Absent) → ⊥
    write_makes up = write_fails fault.Absent up.1

    pub write_free : (k : Cond) (x : Kept) → Updates t u op (Err (fault.Unmet k x)) → ⊥
    write_free k x up = write_fails (fault.Unmet k x) up.1

  module _ (h : stage_of c ≡ stage.Last) where
    last_told : (f : OpFault) → updated (found t op.id) op (next_number t) ≡ Err f → IsLastFault f
    last_told f told =
        let at : IsLastStage c = last_stage c h in
        let same : op ≡ last_op c.revision c.marks = op_is c op asked (due_last c at) ∙ op_last c at.going at.looked at.unmet at.none in
        last_by (found t op.id) c.revision c.marks (next_number t) f (subst (λ (x : UpdateOp). updated (found t op.id) x (next_number t) ≡ Err f) same told)

    -- a last write fails for want of memory, or for a collision
    pub last_fails : (f : OpFault) → Updates t u op (Err f) → IsLastFault f
    last_fails fault.Memory up = tt
    last_fails fault.Absent up = last_told fault.Absent up.1
    last_fails (fault.Unmet k x) up = last_told (fault.Unmet k x) up.1

-- ---- a look

-- what it keeps once it looked at a previous document
pub looked_is : (t : Table) (c d : Committing) (x : Reply) (r : Result Unit AllocError) → x ≡ answer t.documents (due_of c) → OnOk r (d ≡ fed c x) → OnErr r (d ≡ wanting (fed c x)) → (d ≡ fed_previous t c) ⊎ (d ≡ wanting (fed_previous t c))
looked_is t c d x (Ok u) is ok err = inl (ok ∙ ap (fed c) is)
looked_is t c d x (Err e) is ok err = inr (err ∙ ap (λ (y : Reply). wanting (fed c y)) is)

-- ---- the event of a refusal

at_due : (c : Committing) (e : Event) (ds : List Met) → c.writer.due ≡ ds → mark_refusal (record c { writer = record c.writer { due = ds } }) e → mark_refusal c e
at_due c e ds is h = subst (λ (xs : List Met). mark_refusal (record c { writer = record c.writer { due = xs } }) e) (sym is) h

pub refusal_told : (c : Committing) (item : Item) (other : Revision) → option_map (λ f. f.mine) (slice_get c.writer.due 0) ≡ Some item → option_map (λ f. f.other) (slice_get c.writer.due 0) ≡ Some other → mark_refusal c (event.Refuse c.revision item other)
refusal_told c item other mine theirs = by c.writer.due refl mine theirs
  where
    by : (ds : List Met) → c.writer.due ≡ ds → option_map (λ f. f.mine) (slice_get ds 0) ≡ Some item → option_map (λ f. f.other) (slice_get ds 0) ≡ Some other → mark_refusal c (event.Refuse c.revision item other)
    by [] is m t = cc
    by (f ∷ fs) is m t = at_due c (event.Refuse c.revision item other) (f ∷ fs) is (let a : Some f.mine ≡ Some item = m in let b : Some f.other ≡ Some other = t in cc)

-- ---- the operations

module _ (s : ℕ) (t u : Table) (es fs : List Event) (c d : Committing) (op : UpdateOp) (asked : ask.Update op ≡ due_of c) where
  module _ (due : due_of c ≡ ask.Update (op_due c)) where
    made : (before : Option Document) → Updates t u op (Ok before) → IsUpdateMade t u (op_due c)
    made before up = subst (λ (x : UpdateOp). IsUpdateMade t u x) (op_is c op asked due) (made_is t u op before up)

    fed_is : (before : Option Document) → Updates t u op (Ok before) → fed c (reply.Updated before) ≡ fed_made t c
    fed_is before up = ap (λ (b : Option Document). fed c (reply.Updated b)) (up.0 ∙ ap (λ (x : UpdateOp). found t x.id) (op_is c op asked due))

    unmet_is : (k : Cond) (x : Kept) → Updates t u op (Err (fault.Unmet k x)) → result_of t (op_due c) ≡ Err (fault.Unmet k x)
    unmet_is k x up = sym (ap (result_of t) (op_is c op asked due)) ∙ up.1

  pub mark_made : stage_of c ≡ stage.Mark → (before : Option Document) → Updates t u op (Ok before) → fs ≡ es ++ event.Went s kind.Mark ∷ [] → (r : Result Unit AllocError) → OnOk r (d ≡ fed c (reply.Updated before)) → OnErr r (IsTrue (looks_at c (reply.Updated before))) → IsMarked s (saving t es c) (saving u fs d)
  mark_made h before up list r ok only = let due = mark_asks c h in inl (record { made = made due before up; list = list; committer = fed_marked r c d before h ok only ∙ fed_is due before up })

  pub mark_refused : stage_of c ≡ stage.Mark → (k : Cond) (x : Kept) → Updates t u op (Err (fault.Unmet k x)) → (e : Event) → mark_refusal c e → fs ≡ es ++ e ∷ [] → (r : Result Unit AllocError) → OnOk r (d ≡ fed c (reply.Unmet k x)) → OnErr r (IsTrue (looks_at c (reply.Unmet k x))) → IsMarked s (saving t es c) (saving u fs d)
  mark_refused h k x up e told list r ok only = let due = mark_asks c h in inr (record { cause = k; thing = x; result = unmet_is due k x up; table = up.0; refusal = e; told = told; list = list; committer = fed_unmet r c d k x ok only })

  pub write_made : stage_of c ≡ stage.Write → (before : Option Document) → Updates t u op (Ok before) → fs ≡ es ++ event.Went s kind.Write ∷ [] → (r : Result Unit AllocError) → OnOk r (d ≡ fed c (reply.Updated before)) → OnErr r (d ≡ wanting (fed c (reply.Updated before))) → IsWritten s (saving t es c) (saving u fs d)
  write_made h before up list r ok err = let due = write_asks c h in record { made = made due before up; list = list; committer = by due (fed_written r c d before ok err) }
    where
      by : (due : due_of c ≡ ask.Update (op_due c)) → (d ≡ fed c (reply.Updated before)) ⊎ (d ≡ wanting (fed c (reply.Updated before))) → (d ≡ fed_made t c) ⊎ (d ≡ wanting (fed_made t c))
      by due (inl e) = inl (e ∙ fed_is due before up)
      by due (inr e) = inr (e ∙ ap wanting (fed_is due before up))

  pub last_made : stage_of c ≡ stage.Last → (before : Option Document) → Updates t u op (Ok before) → fs ≡ es ++ event.Commit c.revision ∷ [] → (r : Result Unit AllocError) → OnOk r (d ≡ fed c (reply.Updated before)) → OnErr r (IsTrue (looks_at c (reply.Updated before))) → IsLast (saving t es c) (saving u fs d)
  last_made h before up list r ok only = let due = last_asks c h in inl (record { made = made due before up; list = list; committer = fed_lasted r c d before h ok only ∙ fed_is due before up })

  pub last_refused_by : stage_of c ≡ stage.Last → (f : OpFault) → Updates t u op (Err f) → IsRefusedBy f es fs c d → IsLast (saving t es c) (saving u fs d)
  last_refused_by h f up m =
      let due = last_asks c h in
      let told : Updates t u op (Err (fault.Unmet m.cause (kept.Entry m.other m.item))) = subst (λ (x : OpFault). Updates t u op (Err x)) m.is up in
      inr (record { cause = m.cause; other = m.other; item = m.item; result = unmet_is due m.cause (kept.Entry m.other m.item) told; table = told.0; list = m.list; committer = m.committer })

-- the commit is refused for a collision that was told
pub refused_by : (es fs : List Event) (c d : Committing) (k : Cond) (o : Revision) (item : Item) → fs ≡ es ++ event.Refuse c.revision item o ∷ [] → (r : Result Unit AllocError) → OnOk r (d ≡ fed c (reply.Unmet k (kept.Entry o item))) → OnErr r (IsTrue (looks_at c (reply.Unmet k (kept.Entry o item)))) → IsRefusedBy (fault.Unmet k (kept.Entry o item)) es fs c d
refused_by es fs c d k o item list r ok only = record { cause = k; other = o; item = item; is = refl; list = list; committer = fed_unmet r c d k (kept.Entry o item) ok only }

-- ---- undoing

undoing_due : (c : Committing) (o : Option CommitEnd) → undoes o ≡ true → due_by c o ≡ undo_due c c.writer.written
undoing_due c None h = cc
undoing_due c (Some (end.Committed r)) h = cc
undoing_due c (Some (end.Clash item o)) h = refl
undoing_due c (Some end.Memory) h = refl

pub undo_asks : (c : Committing) → stage_of c ≡ stage.Undo → asks_undo (due_of c) ≡ true
undo_asks c h = by (undo_stage c h)
  where
    by : IsUndoStage c → asks_undo (due_of c) ≡ true
    by m = ap asks_undo (undoing_due c c.outcome m.undoing ∙ ap (undo_due c) m.written)

pub undo_made : (s : ℕ) (t u : Table) (es fs : List Event) (c d : Committing) (x : DocId) → stage_of c ≡ stage.Undo → undo_id c ≡ Some x → u ≡ after_undo t x c.revision → fs ≡ es ++ event.Went s kind.Undo ∷ [] → (r : Result Unit AllocError) → OnOk r (d ≡ fed c reply.Undone) → OnErr r (IsTrue (looks_at c reply.Undone)) → IsDocumentUndone s (saving t es c) (saving u fs d)
undo_made s t u es fs c d x h lent table list r ok only = by (undo_stage c h)
  where
    by : IsUndoStage c → IsDocumentUndone s (saving t es c) (saving u fs d)
    by m =
        let e : Some (id.Node m.first) ≡ Some x = sym (ap (λ (ps : List Path). option_map id.Node (slice_get ps 0)) m.written) ∙ lent in
        let same : x ≡ id.Node m.first = cc in
        record { path = m.first; rest = m.rest; first = m.written; table = table ∙ ap (λ (y : DocId). after_undo t y c.revision) same; list = list; committer = fed_undone r c d ok only }
