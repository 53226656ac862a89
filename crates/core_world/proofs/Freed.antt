-- What has nothing of a revision gets nothing of it by others' updates and undoings.
use Rattle.std.proofs.Common.{◌≡◌, inl, inr, ℕ, Bool, true, false, cond, not, ◌&&◌, Some, None, Option, List, [], ◌∷◌, fold, is_some, is_none, refl, sym, ap, subst, ◌∙◌}
use Rattle.std.specs.Prelude.{Err, Ok}
use Rattle.std.specs.List.{filter_map, list_all}
use Rattle.std.specs.Option.{option_map_or}
use Rattle.std.specs.Ordering.{eq_by_cmp}
use mathlib.Core.Bool.{false≢true}
use Rattle.jr_path.proofs.Orders.{id_exact, id_total, tested}
use Rattle.jr_path.specs.Ids.{id_cmp}
use Rattle.jr_path.specs.declared.path.DocId.{DocId}
use Rattle.jr_path.specs.declared.path.DocId.TheVariants as id
use Rattle.jr_path.specs.declared.path.Path.{Path}
use Rattle.jr_rev.specs.declared.revision.Revision.{Revision}
use Rattle.jr_rev.specs.Revisions.{is_same}
use Rattle.oak_clash.specs.declared.mark.Mark.{Mark}
use Rattle.oak_clash.specs.declared.mark.Mark.TheVariants as mark
use Rattle.oak_clash.specs.declared.mark.MarkAt.{MarkAt}
use Rattle.jr_tree.specs.declared.edit.Write.{Write}
use Rattle.oak_commit.specs.Writing.{write_op}
use Rattle.oak_commit.specs.Clashing.{Writer, has_mark, marked, undo_op}
use Rattle.oak_doc.specs.declared.document.Document.{Document}
use Rattle.oak_doc.specs.declared.update.Change.{Change}
use Rattle.oak_doc.specs.declared.update.Change.TheVariants as change
use Rattle.oak_doc.specs.declared.update.OpFault.{OpFault}
use Rattle.oak_doc.specs.declared.update.OpFault.TheVariants as fault
use Rattle.oak_doc.specs.declared.update.UpdateOp.{UpdateOp}
use Rattle.oak_doc.specs.Updates.{after_changes, changed, document_of, is_met, of_revision, update_refusal, undone, updated}
use Rattle.oak_machine.specs.History.{Past}
use Rattle.oak_read.specs.Meaning.{documents_in}
use Rattle.oak_store.specs.Tables.{Table, after_undo, found, next_number}
use Rattle.core_read.specs.Holds.{root_entry}
use Rattle.core_clash.specs.Core.{Docs, docs_after}
use Rattle.core_clash.specs.Sound.{Sound}
use Rattle.core_clash.specs.Views.{AreOrdered}
use Rattle.core_clash.proofs.Basics.{not_both, other_revision}
use Rattle.core_clash.proofs.Documents.{AreEntries, IsEntry, Leaves, leaves_all, write_entries}
use Rattle.core_clash.proofs.Effects.{Undoes}
use Rattle.core_clash.proofs.Undoing.{undoes}
use Rattle.core_clash.proofs.Updates.{empty_marks}
use Rattle.core_world.specs.Freed.{HasNothing, brings_nothing}
use Rattle.core_world.specs.States.{core_in, moved_in, nodes_in}
use Rattle.core_world.specs.Steps.{after_update, with_result}
use Rattle.core_world.proofs.Tables.{moved_stays, put_is, undo_main, undo_node, undo_none}
use Rattle.oak_machine.specs.declared.event.Start.{Start}
use Rattle.jr_rev.specs.Vectors.{sees}

pub false_where : (b : Bool) → (b ≡ true → ⊥) → b ≡ false
false_where true h = absurd (h refl)
false_where false h = refl

unless : (b : Bool) → not b ≡ true → b ≡ false
unless true h = absurd (false≢true h)
unless false h = refl

-- ---- one change

module _ (r : Revision) where
  -- an entry of another revision
  by_leaves : (d e : Document) (q : Revision) (ms : List Mark) → Leaves d e q ms → is_same r q ≡ false → HasNothing (Some d) r → HasNothing (Some e) r
  by_leaves d e q ms leaves other free = record {
    marks = λ m. false_where (has_mark e r m) (λ h. elim (leaves.only r m h) [ inl k ↦ not_both (has_mark d r m) k (free.marks m) | inr k ↦ other_revision r q other k.0 ]);
    root = elim (leaves.roots r) [ inl k ↦ other_revision r q other k | inr k ↦ ap (λ (o : Option ℕ). is_some o) k ∙ free.root ];
  }

  -- marks and commit roots are as they were
  alike : (d e : Document) → ((m : Mark) → has_mark e r m ≡ has_mark d r m) → of_revision e.commit_root r ≡ of_revision d.commit_root r → HasNothing (Some d) r → HasNothing (Some e) r
  alike d e same roots free = record { marks = λ m. same m ∙ free.marks m; root = ap (λ (o : Option ℕ). is_some o) roots ∙ free.root }

  one : (d : Document) (c : Change) → brings_nothing r c ≡ true → HasNothing (Some d) r → HasNothing (Some (changed d c)) r
  one d (change.Deleted q b) h free = by_leaves d _ q _ (leaves_all d q (change.Deleted q b ∷ []) (refl, tt)) (unless (is_same r q) h) free
  one d (change.CommitRoot q depth) h free = by_leaves d _ q _ (leaves_all d q (change.CommitRoot q depth ∷ []) (refl, tt)) (unless (is_same r q) h) free
  one d (change.Guard q) h free = by_leaves d _ q _ (leaves_all d q (change.Guard q ∷ []) (refl, tt)) (unless (is_same r q) h) free
  one d (change.Touched q) h free = by_leaves d _ q _ (leaves_all d q (change.Touched q ∷ []) (refl, tt)) (unless (is_same r q) h) free
  one d (change.Prop n q x) h free = by_leaves d _ q _ (leaves_all d q (change.Prop n q x ∷ []) (refl, tt)) (unless (is_same r q) h) free
  one d (change.Undo q) h free = absurd (false≢true h)
  one d (change.Prune keys) h free = absurd (false≢true h)
  one d (change.Revisions q) h free = alike d (changed d (change.Revisions q)) by refl free
    where
      by : (m : Mark) → has_mark (changed d (change.Revisions q)) r m ≡ has_mark d r m
      by mark.Exists = refl
      by mark.Guard = refl
      by mark.Touch = refl
      by (mark.Prop n) = refl
  one d (change.Collision o q item) h free = alike d (changed d (change.Collision o q item)) by refl free
    where
      by : (m : Mark) → has_mark (changed d (change.Collision o q item)) r m ≡ has_mark d r m
      by mark.Exists = refl
      by mark.Guard = refl
      by mark.Touch = refl
      by (mark.Prop n) = refl
  one d (change.List e) h free = alike d (changed d (change.List e)) by refl free
    where
      by : (m : Mark) → has_mark (changed d (change.List e)) r m ≡ has_mark d r m
      by mark.Exists = refl
      by mark.Guard = refl
      by mark.Touch = refl
      by (mark.Prop n) = refl
  one d (change.Unlist k) h free = alike d (changed d (change.Unlist k)) by refl free
    where
      by : (m : Mark) → has_mark (changed d (change.Unlist k)) r m ≡ has_mark d r m
      by mark.Exists = refl
      by mark.Guard = refl
      by mark.Touch = refl
      by (mark.Prop n) = refl
  one d (change.LastRev q) h free = alike d (changed d (change.LastRev q)) by refl free
    where
      by : (m : Mark) → has_mark (changed d (change.LastRev q)) r m ≡ has_mark d r m
      by mark.Exists = refl
      by mark.Guard = refl
      by mark.Touch = refl
      by (mark.Prop n) = refl
  one d (change.SweepRev q) h free = alike d (changed d (change.SweepRev q)) by refl free
    where
      by : (m : Mark) → has_mark (changed d (change.SweepRev q)) r m ≡ has_mark d r m
      by mark.Exists = refl
      by mark.Guard = refl
      by mark.Touch = refl
      by (mark.Prop n) = refl
  one d (change.Checkpoint i pin) h free = alike d (changed d (change.Checkpoint i pin)) by refl free
    where
      by : (m : Mark) → has_mark (changed d (change.Checkpoint i pin)) r m ≡ has_mark d r m
      by mark.Exists = refl
      by mark.Guard = refl
      by mark.Touch = refl
      by (mark.Prop n) = refl
  one d (change.Release i) h free = alike d (changed d (change.Release i)) by refl free
    where
      by : (m : Mark) → has_mark (changed d (change.Release i)) r m ≡ has_mark d r m
      by mark.Exists = refl
      by mark.Guard = refl
      by mark.Touch = refl
      by (mark.Prop n) = refl
  one d (change.Attach s i) h free = alike d (changed d (change.Attach s i)) by refl free
    where
      by : (m : Mark) → has_mark (changed d (change.Attach s i)) r m ≡ has_mark d r m
      by mark.Exists = refl
      by mark.Guard = refl
      by mark.Touch = refl
      by (mark.Prop n) = refl
  one d (change.Detach s) h free = alike d (changed d (change.Detach s)) by refl free
    where
      by : (m : Mark) → has_mark (changed d (change.Detach s)) r m ≡ has_mark d r m
      by mark.Exists = refl
      by mark.Guard = refl
      by mark.Touch = refl
      by (mark.Prop n) = refl

  all : (cs : List Change) (d : Document) → list_all (brings_nothing r) cs ≡ true → HasNothing (Some d) r → HasNothing (Some (fold changed d cs)) r
  all [] d h free = free
  all (c ∷ cs) d h free = let b = both (brings_nothing r c) (list_all (brings_nothing r) cs) h in all cs (changed d c) b.1 (one d c b.0 free)
    where
      both : (a b : Bool) → (a && b) ≡ true → (a ≡ true) × (b ≡ true)
      both true b i = (refl, i)
      both false b i = absurd (false≢true i)

  -- ---- an update

  numbered : (d : Document) (n : ℕ) → HasNothing (Some d) r → HasNothing (Some (record d { mod_count = n })) r
  numbered d n = alike d (record d { mod_count = n }) by refl
    where
      by : (m : Mark) → has_mark (record d { mod_count = n }) r m ≡ has_mark d r m
      by mark.Exists = refl
      by mark.Guard = refl
      by mark.Touch = refl
      by (mark.Prop n) = refl

  from_none : (o : Option Document) (i : DocId) → HasNothing o r → HasNothing (Some (document_of o i)) r
  from_none o i free = record { marks = λ m. empty_marks o i r m ∙ free.marks m; root = by o free.root }
    where
      by : (o : Option Document) → is_some (root_entry o r) ≡ false → is_some (of_revision (document_of o i).commit_root r) ≡ false
      by None h = refl
      by (Some d) h = h

  pub update_brings : (t : Table) (op : UpdateOp) (p : Path) → list_all (brings_nothing r) op.changes ≡ true → HasNothing (nodes_in t p) r → HasNothing (nodes_in (after_update t op) p) r
  update_brings t op p adds free = by (is_none (found t op.id) && not op.create) (is_met (found t op.id) op.cond) (update_refusal (found t op.id) op.cond)
    where
      made : Document
      made = after_changes (found t op.id) op (next_number t)

      at_made : (b : Bool) → eq_by_cmp id_cmp (id.Node p) op.id ≡ b → HasNothing (cond b (Some made) (nodes_in t p)) r
      at_made true e = numbered (fold changed (document_of (found t op.id) op.id) op.changes) (next_number t)
          (all op.changes (document_of (found t op.id) op.id) adds (from_none (found t op.id) op.id (subst (λ i. HasNothing (found t i) r) ((tested id_total id_exact (id.Node p) op.id).0 e) free)))
      at_made false e = free

      by : (a b : Bool) (g : OpFault) → HasNothing (nodes_in (with_result t op.id (cond a (Err fault.Absent) (cond b (Ok made) (Err g)))) p) r
      by true b g = free
      by false true g = subst (λ (o : Option Document). HasNothing o r) (sym (put_is t op.id made (next_number t) (id.Node p))) (at_made (eq_by_cmp id_cmp (id.Node p) op.id) refl)
      by false false g = free

  -- ---- a write of another revision

  entries_bring : (q : Revision) → is_same r q ≡ false → (cs : List Change) → AreEntries q cs → list_all (brings_nothing r) cs ≡ true
  entries_bring q other [] h = refl
  entries_bring q other (c ∷ cs) h = ap (λ b. b && list_all (brings_nothing r) cs) (entry c h.0) ∙ entries_bring q other cs h.1
    where
      not_r : (x : Revision) → x ≡ q → not (is_same r x) ≡ true
      not_r x e = ap (λ y. not (is_same r y)) e ∙ ap not other

      entry : (c : Change) → IsEntry q c → brings_nothing r c ≡ true
      entry (change.Deleted x b) e = not_r x e
      entry (change.CommitRoot x depth) e = not_r x e
      entry (change.Guard x) e = not_r x e
      entry (change.Touched x) e = not_r x e
      entry (change.Prop n x y) e = not_r x e
      entry _ e = absurd e

  pub write_brings : (q : Revision) (ws : List Write) (ms : List MarkAt) (p : Path) → is_same r q ≡ false → list_all (brings_nothing r) (write_op q ws ms p).changes ≡ true
  write_brings q ws ms p other = entries_bring q other (write_op q ws ms p).changes (write_entries q p ws ms)

-- ---- an undoing

module _ (t : Table) (ordered : (q : Path) → AreOrdered q (nodes_in t q)) (q : Path) (o : Revision) where
  abbrev after : Docs
  after = docs_after (nodes_in t) q (updated (nodes_in t q) (undo_op o q) (next_number t))

  pub nodes_now : nodes_in (after_undo t (id.Node q) o) ≡ after
  nodes_now = by (nodes_in t q) refl
    where
      by : (x : Option Document) → nodes_in t q ≡ x → nodes_in (after_undo t (id.Node q) o) ≡ docs_after (nodes_in t) q (updated x (undo_op o q) (next_number t))
      by None is = ap (λ (es : List (DocId × Document)). λ (p : Path). documents_in es (id.Node p)) (undo_none t q o is)
      by (Some d) is = undo_node t q o d is

  -- what documents list stays
  moved_now : moved_in (after_undo t (id.Node q) o) ≡ moved_in t
  moved_now = by (nodes_in t q) refl
    where
      by : (x : Option Document) → nodes_in t q ≡ x → moved_in (after_undo t (id.Node q) o) ≡ moved_in t
      by None is = ap (λ (es : List (DocId × Document)). λ (p : Path). option_map_or (λ d. filter_map (λ e. documents_in es (id.Prev e.number p)) d.prev) (documents_in es (id.Node p)) [])
          (undo_none t q o is)
      by (Some d) is = moved_stays t (after_undo t (id.Node q) o) q (undone d o (next_number t)) (undo_main t q o d is)
          (sym (ap (λ (x : Option Document). option_map_or (λ d. d.prev) x []) is))

  -- the core of the table then
  pub sound_undone : (start : Start) (past : Past) (writers : Revision → Writer)
      → Sound (record { old = sees start.at; number = next_number t; docs = docs_after (nodes_in t) q (updated (nodes_in t q) (undo_op o q) (next_number t)); moved = moved_in t; past = past; writers = writers })
      → Sound (core_in start past (after_undo t (id.Node q) o) writers)
  sound_undone start past writers sound =
      subst (λ (docs : Docs). Sound (record { old = sees start.at; number = next_number t; docs = docs; moved = moved_in (after_undo t (id.Node q) o); past = past; writers = writers })) (sym nodes_now)
      (subst (λ (moved : Path → List Document). Sound (record { old = sees start.at; number = next_number t; docs = after; moved = moved; past = past; writers = writers })) (sym moved_now) sound)

  pub effect : Undoes (nodes_in t) (docs_after (nodes_in t) q (updated (nodes_in t q) (undo_op o q) (next_number t))) q o
  effect = undoes (nodes_in t) q o (next_number t) (ordered q)

  pub undo_brings : (p : Path) (r : Revision) → HasNothing (nodes_in t p) r → HasNothing (nodes_in (after_undo t (id.Node q) o) p) r
  undo_brings p r free = subst (λ (docs : Docs). HasNothing (docs p) r) (sym nodes_now) (record {
    marks = λ m. false_where (marked (after p) r m) (λ h. not_both (marked (nodes_in t p) r m) (effect.only p r m h) (free.marks m));
    root = false_where (is_some (root_entry (after p) r)) (λ h. not_both (is_some (root_entry (nodes_in t p) r)) (effect.only_roots p r h) free.root);
  })

  pub undo_leaves : HasNothing (nodes_in (after_undo t (id.Node q) o) q) o
  undo_leaves = subst (λ (docs : Docs). HasNothing (docs q) o) (sym nodes_now) (record {
    marks = λ m. false_where (marked (after q) o m) (effect.gone m);
    root = false_where (is_some (root_entry (after q) o)) effect.gone_root;
  })
