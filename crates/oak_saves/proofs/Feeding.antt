-- What a committer keeps after a reply, by where it stands.
use Rattle.std.proofs.Common.{◌≡◌, true, List, [], ◌∷◌, Option, Some, None, refl, sym, ap, subst, ◌∙◌}
use Rattle.jr_path.specs.declared.path.Path.{Path}
use Rattle.jr_path.specs.declared.path.Item.{Item}
use Rattle.jr_rev.specs.declared.revision.Revision.{Revision}
use Rattle.oak_commit.specs.Clashing.{Met, mark_op}
use Rattle.oak_commit.specs.Committing.{Committing, advanced_by, fed, fed_by, first_path, going_by, looking_on, refused, wanting, with_undone, without_memory, written, written_by}
use Rattle.oak_commit.specs.Kept.{undoes}
use Rattle.oak_commit.specs.Stages.{stage_of}
use Rattle.oak_commit.specs.Writing.{last_op, write_op}
use Rattle.oak_commit.specs.declared.stage.Stage.TheVariants as stage
use Rattle.oak_commit.specs.declared.look.Look.{Look}
use Rattle.oak_commit.specs.declared.outcome.CommitEnd.{CommitEnd}
use Rattle.oak_commit.specs.declared.outcome.CommitEnd.TheVariants as end
use Rattle.oak_doc.specs.declared.document.Document.{Document}
use Rattle.oak_doc.specs.declared.asks.Reply.TheVariants as reply
use Rattle.oak_doc.specs.declared.update.Cond.{Cond}
use Rattle.oak_doc.specs.declared.update.Kept.{Kept}
use Rattle.oak_doc.specs.declared.update.Kept.TheVariants as kept
use Rattle.jr_path.specs.Ids.{names_of}
use Rattle.jr_path.specs.declared.path.DocId.{DocId}
use Rattle.oak_commit.specs.Looking.{with_found}
use Rattle.oak_read.specs.Meaning.{documents_in}
use Rattle.oak_store.specs.Tables.{Table}
use Rattle.oak_saves.specs.Saves.{committed, fed_previous, mark_made, op_due}

module _ (c : Committing) (going : c.outcome ≡ None) where
  -- before its commit point
  at_outcome : c ≡ record c { outcome = None }
  at_outcome = ap (λ (o : Option CommitEnd). record c { outcome = o }) going

  pub want_is : without_memory c ≡ wanting c
  want_is = subst (λ (d : Committing). without_memory d ≡ wanting d) (sym at_outcome) refl

module _ (c : Committing) (going : c.outcome ≡ None) (looked : c.looking ≡ None) where
  -- before its commit point, where it looks at no previous document
  at_going : c ≡ record c { outcome = None; looking = None }
  at_going = ap (λ (o : Option CommitEnd). record c { outcome = o }) going ∙ ap (λ (k : Option Look). record c { outcome = None; looking = k }) looked

  -- the update that was due is made
  fed_going_is : (b : Option Document) → fed c (reply.Updated b) ≡ advanced_by c c.writer.due b
  fed_going_is b = ap (λ (o : Option CommitEnd). fed_by c o (reply.Updated b)) going ∙ ap (λ (k : Option Look). going_by c k (reply.Updated b)) looked

  -- ---- a mark is due

  module _ (f : Met) (rest : List Met) (due : c.writer.due ≡ f ∷ rest) where
    at_mark : c ≡ record c { outcome = None; looking = None; writer = record c.writer { due = f ∷ rest } }
    at_mark = at_going ∙ ap (λ (ds : List Met). record c { outcome = None; looking = None; writer = record c.writer { due = ds } }) due

    pub stage_mark : stage_of c ≡ stage.Mark
    stage_mark = subst (λ (d : Committing). stage_of d ≡ stage.Mark) (sym at_mark) refl

    pub op_mark : op_due c ≡ mark_op (first_path c.roots) f.other c.revision f.theirs
    op_mark = subst (λ (d : Committing). op_due d ≡ mark_op (first_path d.roots) f.other d.revision f.theirs) (sym at_mark) refl

    pub fed_mark : (b : Option Document) → fed c (reply.Updated b) ≡ mark_made c rest
    fed_mark b = fed_going_is b ∙ ap (λ (ds : List Met). advanced_by c ds b) due

    pub blocked_mark : (k : Cond) (x : Kept) → fed c (reply.Unmet k x) ≡ refused c f.mine f.other
    blocked_mark k x = subst (λ (d : Committing). fed d (reply.Unmet k x) ≡ refused d f.mine f.other) (sym at_mark) refl

  -- ---- a document is to be written

  module _ (p : Path) (rest : List Path) (unmet : c.writer.due ≡ []) (left : c.writer.left ≡ p ∷ rest) where
    at_write : c ≡ record c { outcome = None; looking = None; writer = record c.writer { due = []; left = p ∷ rest } }
    at_write =
        at_going ∙ (ap (λ (ds : List Met). record c { outcome = None; looking = None; writer = record c.writer { due = ds } }) unmet
        ∙ ap (λ (ps : List Path). record c { outcome = None; looking = None; writer = record c.writer { due = []; left = ps } }) left)

    pub stage_write : stage_of c ≡ stage.Write
    stage_write = subst (λ (d : Committing). stage_of d ≡ stage.Write) (sym at_write) refl

    pub op_write : op_due c ≡ write_op c.revision c.edit.writes c.marks p
    op_write = subst (λ (d : Committing). op_due d ≡ write_op d.revision d.edit.writes d.marks p) (sym at_write) refl

    pub fed_write : (b : Option Document) → fed c (reply.Updated b) ≡ written c p rest b
    fed_write b = fed_going_is b ∙ (ap (λ (ds : List Met). advanced_by c ds b) unmet ∙ ap (λ (ps : List Path). written_by c ps b) left)

  -- ---- all is written

  module _ (unmet : c.writer.due ≡ []) (none : c.writer.left ≡ []) where
    at_last : c ≡ record c { outcome = None; looking = None; writer = record c.writer { due = []; left = [] } }
    at_last =
        at_going ∙ (ap (λ (ds : List Met). record c { outcome = None; looking = None; writer = record c.writer { due = ds } }) unmet
        ∙ ap (λ (ps : List Path). record c { outcome = None; looking = None; writer = record c.writer { due = []; left = ps } }) none)

    pub stage_last : stage_of c ≡ stage.Last
    stage_last = subst (λ (d : Committing). stage_of d ≡ stage.Last) (sym at_last) refl

    pub op_last : op_due c ≡ last_op c.revision c.marks
    op_last = subst (λ (d : Committing). op_due d ≡ last_op d.revision d.marks) (sym at_last) refl

    pub fed_last : (b : Option Document) → fed c (reply.Updated b) ≡ committed c
    fed_last b = fed_going_is b ∙ (ap (λ (ds : List Met). advanced_by c ds b) unmet ∙ ap (λ (ps : List Path). written_by c ps b) none)

    pub blocked_last : (k : Cond) (o : Revision) (item : Item) → fed c (reply.Unmet k (kept.Entry o item)) ≡ refused c item o
    blocked_last k o item = subst (λ (d : Committing). fed d (reply.Unmet k (kept.Entry o item)) ≡ refused d item o) (sym at_last) refl

-- ---- a look

-- the previous document that is asked for, where it is there
abbrev pub look_found : Table → DocId → Option Document
look_found t x = documents_in t.documents x

-- what it keeps once that is found, or is gone
abbrev pub found_on : Table → Committing → Look → Committing
found_on t c k = looking_on c (names_of k.first) (with_found k.document (look_found t k.first)) k.rest

pub fed_look : (c : Committing) → c.outcome ≡ None → (k : Look) → c.looking ≡ Some k → (t : Table) → fed_previous t c ≡ found_on t c k
fed_look c going k looked t = subst (λ (d : Committing). fed_previous t d ≡ found_on t d k) (sym at_look) refl
  where
    at_look : c ≡ record c { outcome = None; looking = Some k }
    at_look = ap (λ (o : Option CommitEnd). record c { outcome = o }) going ∙ ap (λ (l : Option Look). record c { outcome = None; looking = l }) looked

-- ---- while it undoes

pub fed_undo : (c : Committing) → undoes c.outcome ≡ true → fed c reply.Undone ≡ with_undone c
fed_undo c undoing = by c.outcome undoing
  where
    by : (o : Option CommitEnd) → undoes o ≡ true → fed_by c o reply.Undone ≡ with_undone c
    by None h = cc
    by (Some (end.Committed r)) h = cc
    by (Some (end.Clash item o)) h = refl
    by (Some end.Memory) h = refl
