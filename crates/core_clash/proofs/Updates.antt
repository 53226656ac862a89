-- What the updates of committers do to the documents.
use Rattle.std.proofs.Common.{◌≡◌, ℕ, Bool, true, false, cond, ◌⊎◌, inl, inr, Some, None, Option, Ok, Err, List, [], ◌∷◌, ◌++◌, length, take, refl, sym, ap, subst, ◌∙◌, is_some, is_none, fold}
use Rattle.std.specs.Option.{option_map_or}
use Rattle.std.specs.List.{flat_map}
use Rattle.std.specs.Ordering.{eq_by_cmp}
use mathlib.Core.Bool.{false≢true}
use Rattle.jr_path.specs.Names.{path_cmp}
use Rattle.jr_path.specs.declared.path.Path.{Path}
use Rattle.jr_path.specs.declared.path.Item.{Item}
use Rattle.jr_path.specs.declared.path.DocId.{DocId}
use Rattle.jr_path.specs.declared.path.DocId.TheVariants as id
use Rattle.jr_path.proofs.Maps.{lookup-insert_entry}
use Rattle.jr_rev.specs.declared.revision.Revision.{Revision}
use Rattle.jr_rev.specs.Revisions.{revision_cmp, is_same}
use Rattle.jr_rev.proofs.Order.{revision_total}
use Rattle.oak_clash.specs.declared.mark.Mark.{Mark}
use Rattle.oak_clash.specs.declared.mark.Mark.TheVariants.{Exists, Guard, Touch, Prop}
use Rattle.oak_clash.specs.declared.mark.MarkAt.{MarkAt}
use Rattle.oak_clash.specs.Clashes.{marks_at, commit_root}
use Rattle.jr_tree.specs.declared.edit.Write.{Write}
use Rattle.jr_tree.specs.declared.edit.Write.TheVariants as write
use Rattle.oak_doc.specs.declared.update.UpdateOp.{UpdateOp}
use Rattle.oak_doc.specs.declared.update.Change.{Change}
use Rattle.oak_doc.specs.declared.update.Change.TheVariants as change
use Rattle.oak_doc.specs.declared.document.Document.{Document}
use Rattle.oak_doc.specs.declared.update.OpFault.{OpFault}
use Rattle.oak_doc.specs.declared.update.OpFault.TheVariants as fault
use Rattle.oak_doc.specs.declared.update.Kept.TheVariants as kept
use Rattle.oak_doc.specs.declared.update.Cond.TheVariants.{NoCollision, NotCommitted}
use Rattle.oak_doc.specs.Updates.{of_revision, with_revision, changed, document_of, updated, after_changes}
use Rattle.oak_machine.specs.declared.event.Draw.{Draw}
use Rattle.oak_machine.specs.History.{Past}
use Rattle.oak_machine.specs.Commits.{marks_of}
use Rattle.oak_read.specs.Meaning.{commit_root_of, main_of, path_of}
use Rattle.core_read.specs.Holds.{root_entry}
use Rattle.core_read.proofs.Roots.{below_root}
use Rattle.core_read.proofs.Updates.{own_with}
use Rattle.oak_commit.specs.Writing.{entry_of, entries_at, rooting, marking_of, markings_at, write_op, last_op}
use Rattle.oak_commit.specs.Clashing.{Met, has, has_mark, marked, noted, collision, mark_op}
use Rattle.core_clash.specs.Views.{In, mark_at, NamesItems, AreOrdered}
use Rattle.core_clash.specs.Core.{Docs, with_document, root_of}
use Rattle.core_clash.specs.Sound.{IsRooted}
use Rattle.core_clash.proofs.Basics.{at_document, document_there, same_path, same_revision, some_is, is_in}
use Rattle.core_clash.proofs.Documents.{Leaves, leaves_all, left_by, left_to, left_from, write_entries, has_keeps, has_adds, has_only}
use Rattle.core_clash.proofs.Effects.{Writes, Marks, Notes}

-- the empty document has nothing
pub empty_marks : (doc : Option Document) (id : DocId) (o : Revision) (m : Mark) → has_mark (document_of doc id) o m ≡ marked doc o m
empty_marks None id o Exists = refl
empty_marks None id o Guard = refl
empty_marks None id o Touch = refl
empty_marks None id o (Prop n) = refl
empty_marks (Some d) id o m = refl

empty_notes : (doc : Option Document) (id : DocId) (o : Revision) → has (document_of doc id).revisions o ≡ noted doc o
empty_notes None id o = refl
empty_notes (Some d) id o = refl

empty_collisions : (doc : Option Document) (id : DocId) (o : Revision) → of_revision (document_of doc id).collisions o ≡ collision doc o
empty_collisions None id o = refl
empty_collisions (Some d) id o = refl

empty_ordered : (doc : Option Document) (p : Path) → AreOrdered p doc → AreOrdered p (Some (document_of doc (id.Node p)))
empty_ordered None p h = (refl, record { names = refl })
empty_ordered (Some d) p h = h

empty_roots : (doc : Option Document) (id : DocId) (o : Revision) → of_revision (document_of doc id).commit_root o ≡ root_entry doc o
empty_roots None id o = refl
empty_roots (Some d) id o = refl

-- a commit root that a document tells is told by one that notes the same
pub root_moved : (d e : Document) (o : Revision) → e.id ≡ d.id → of_revision e.commit_root o ≡ of_revision d.commit_root o → commit_root_of e o ≡ commit_root_of d o
root_moved d e o name root =
    ap (λ i. option_map_or (λ depth. id.Node (take depth (path_of i))) (of_revision e.commit_root o) (main_of i)) name
    ∙ ap (λ x. option_map_or (λ depth. id.Node (take depth (path_of d.id))) x (main_of d.id)) root

rooted_there : (doc : Option Document) (i : DocId) (o : Revision) (root : Path) → IsRooted doc o root → commit_root_of (document_of doc i) o ≡ id.Node root
rooted_there None i o root h = absurd (false≢true (ap (λ (x : Option DocId). is_some x) h))
rooted_there (Some d) i o root h = sym (some_is h)

pub rooted_still : (doc : Option Document) (i : DocId) (e : Document) (o : Revision) (root : Path) → e.id ≡ (document_of doc i).id → of_revision e.commit_root o ≡ of_revision (document_of doc i).commit_root o → IsRooted doc o root → IsRooted (Some e) o root
rooted_still doc i e o root name same h = ap (λ x. Some x) (root_moved (document_of doc i) e o name same ∙ rooted_there doc i o root h)

-- a write is made always
pub write_is : (doc : Option Document) (w : Draw) (p : Path) (number : ℕ) → updated doc (write_op w.revision w.edit.writes w.marks p) number ≡ Ok (after_changes doc (write_op w.revision w.edit.writes w.marks p) number)
write_is None w p number = refl
write_is (Some d) w p number = refl

-- ---- the note of the commit root

-- changes that note no commit root
abbrev KeepRoots : List Change → Type 0
KeepRoots cs = (d : Document) → (fold changed d cs).commit_root ≡ d.commit_root

fold_append : (d : Document) (xs ys : List Change) → fold changed d (xs ++ ys) ≡ fold changed (fold changed d xs) ys
fold_append d [] ys = refl
fold_append d (x ∷ xs) ys = fold_append (changed d x) xs ys

keep_both : (xs ys : List Change) → KeepRoots xs → KeepRoots ys → KeepRoots (xs ++ ys)
keep_both xs ys h k d = ap (λ (e : Document). e.commit_root) (fold_append d xs ys) ∙ (k (fold changed d xs) ∙ h d)

module _ (r : Revision) (p : Path) where
  keep_entry : (w : Write) → KeepRoots (entry_of r p w)
  keep_entry (write.Here q) d = elim (eq_by_cmp path_cmp p q) as (λ b. (fold changed d (cond b (change.Deleted r false ∷ []) [])).commit_root ≡ d.commit_root) [ true ↦ refl | false ↦ refl ]
  keep_entry (write.Gone q) d = elim (eq_by_cmp path_cmp p q) as (λ b. (fold changed d (cond b (change.Deleted r true ∷ []) [])).commit_root ≡ d.commit_root) [ true ↦ refl | false ↦ refl ]
  keep_entry (write.Put q m x) d = elim (eq_by_cmp path_cmp p q) as (λ b. (fold changed d (cond b (change.Prop m r (Some x) ∷ []) [])).commit_root ≡ d.commit_root) [ true ↦ refl | false ↦ refl ]
  keep_entry (write.Unset q m) d = elim (eq_by_cmp path_cmp p q) as (λ b. (fold changed d (cond b (change.Prop m r None ∷ []) [])).commit_root ≡ d.commit_root) [ true ↦ refl | false ↦ refl ]

  keep_entries : (ws : List Write) → KeepRoots (entries_at r p ws)
  keep_entries [] = λ d. refl
  keep_entries (w ∷ ws) = keep_both (entry_of r p w) (entries_at r p ws) (keep_entry w) (keep_entries ws)

  keep_marking : (m : Mark) → KeepRoots (marking_of r m)
  keep_marking Exists d = refl
  keep_marking Guard d = refl
  keep_marking Touch d = refl
  keep_marking (Prop n) d = refl

  keep_markings : (ms : List Mark) → KeepRoots (flat_map (marking_of r) ms)
  keep_markings [] = λ d. refl
  keep_markings (m ∷ ms) = keep_both (marking_of r m) (flat_map (marking_of r) ms) (keep_marking m) (keep_markings ms)

  -- the commit roots after a write are those after its note
  write_roots : (ws : List Write) (ms : List MarkAt) (d : Document) → (fold changed d (write_op r ws ms p).changes).commit_root ≡ (fold changed (fold changed d (entries_at r p ws)) (rooting r p (commit_root ms))).commit_root
  write_roots ws ms d =
      ap (λ (e : Document). e.commit_root) (fold_append d (entries_at r p ws) (rooting r p (commit_root ms) ++ markings_at r p ms)
      ∙ fold_append (fold changed d (entries_at r p ws)) (rooting r p (commit_root ms)) (markings_at r p ms))
      ∙ keep_markings (marks_at p ms) (fold changed (fold changed d (entries_at r p ws)) (rooting r p (commit_root ms)))

  -- a document that had no note of it tells the commit root
  write_rooted : (ws : List Write) (ms : List MarkAt) (m : Mark) (d : Document) (name : (fold changed d (write_op r ws ms p).changes).id ≡ id.Node p) → In (mark_at p m) ms → of_revision d.commit_root r ≡ None → commit_root_of (fold changed d (write_op r ws ms p).changes) r ≡ id.Node (commit_root ms)
  write_rooted ws ms m d name has none =
      ap (λ (es : List (Revision × ℕ)). option_map_or (λ depth. id.Node (take depth (path_of e.id))) (of_revision es r) (main_of e.id)) (write_roots ws ms d)
      ∙ (ap (λ i. option_map_or (λ depth. id.Node (take depth (path_of i))) (of_revision (fold changed with_entries (rooting r p (commit_root ms))).commit_root r) (main_of i)) name
      ∙ by (eq_by_cmp path_cmp p (commit_root ms)) refl)
    where
      e : Document
      e = fold changed d (write_op r ws ms p).changes

      with_entries : Document
      with_entries = fold changed d (entries_at r p ws)

      by : (b : Bool) → eq_by_cmp path_cmp p (commit_root ms) ≡ b → option_map_or (λ depth. id.Node (take depth p)) (of_revision (fold changed (fold changed d (entries_at r p ws)) (cond b [] (change.CommitRoot r (length (commit_root ms)) ∷ []))).commit_root r) (id.Node p) ≡ id.Node (commit_root ms)
      by true t = ap (λ (es : List (Revision × ℕ)). option_map_or (λ depth. id.Node (take depth p)) (of_revision es r) (id.Node p)) (keep_entries ws d)
          ∙ (ap (λ (o : Option ℕ). option_map_or (λ depth. id.Node (take depth p)) o (id.Node p)) none ∙ ap (λ (q : Path). id.Node q) (same_path p (commit_root ms) t))
      by false f = ap (λ (o : Option ℕ). option_map_or (λ depth. id.Node (take depth p)) o (id.Node p)) (own_with (fold changed d (entries_at r p ws)).commit_root r (length (commit_root ms)))
          ∙ ap (λ (q : Path). id.Node q) (below_root ms (mark_at p m) (is_in (mark_at p m) ms has))

none_of : {X : Type 0} (o : Option X) → is_some o ≡ false → o ≡ None
none_of None h = refl
none_of (Some x) h = absurd (false≢true (sym h))

-- ---- the updates

module _ (a : Docs) (w : Draw) (p : Path) (number : ℕ) (ordered : AreOrdered p (a p)) (names : NamesItems w.marks w.edit.writes) where
  abbrev r : Revision
  r = w.revision

  abbrev op : UpdateOp
  op = write_op w.revision w.edit.writes w.marks p

  abbrev before : Document
  before = document_of (a p) (id.Node p)

  abbrev made : Document
  made = fold changed before op.changes

  abbrev e : Document
  e = after_changes (a p) op number

  abbrev b : Docs
  b = with_document a p e

  leaves : Leaves before made r (flat_map left_by op.changes)
  leaves = leaves_all before r op.changes (write_entries r p w.edit.writes w.marks)

  -- the number is nothing that a committer looks at
  numbered : (o : Revision) (m : Mark) → has_mark e o m ≡ has_mark made o m
  numbered o Exists = refl
  numbered o Guard = refl
  numbered o Touch = refl
  numbered o (Prop n) = refl

  old : (o : Revision) (m : Mark) → has_mark before o m ≡ marked (a p) o m
  old o m = empty_marks (a p) (id.Node p) o m

  by_marks : (q : Path) (o : Revision) (m : Mark) → q ≡ p → (has_mark before o m ≡ true) ⊎ ((o ≡ r) × In m (flat_map left_by op.changes)) → (marked (a q) o m ≡ true) ⊎ ((q ≡ p) × (o ≡ r) × In (mark_at p m) w.marks)
  by_marks q o m here (inl h) = inl (subst (λ (x : Path). marked (a x) o m ≡ true) (sym here) (sym (old o m) ∙ h))
  by_marks q o m here (inr h) = inr (here, h.0, left_from r p w.edit.writes w.marks names m h.1)

  ordered_then : AreOrdered p (Some made)
  ordered_then = leaves.ordered p (empty_ordered (a p) p ordered)

  keeps_root : (o : Revision) (root : Path) → IsRooted (a p) o root → (o ≡ r) ⊎ (of_revision made.commit_root o ≡ of_revision before.commit_root o) → ((p ≡ p) × (o ≡ r)) ⊎ IsRooted (Some e) o root
  keeps_root o root h (inl k) = inl (refl, k)
  keeps_root o root h (inr k) = inr (rooted_still (a p) (id.Node p) e o root leaves.name k h)

  only_root : (o : Revision) → is_some (of_revision made.commit_root o) ≡ true → (o ≡ r) ⊎ (of_revision made.commit_root o ≡ of_revision before.commit_root o) → ((p ≡ p) × (o ≡ r)) ⊎ (is_some (root_entry (a p) o) ≡ true)
  only_root o h (inl k) = inl (refl, k)
  only_root o h (inr k) = inr (ap (λ (x : Option ℕ). is_some x) (sym (k ∙ empty_roots (a p) (id.Node p) o)) ∙ h)

  pub writes : Writes a b r p w.marks
  writes = record {
    ordered = λ q. at_document (λ x doc. AreOrdered x (a x) → AreOrdered x doc) a p e q (λ h. (ordered_then.0, record { names = ordered_then.1.names })) (λ h. h);
    keeps = λ q o m. at_document (λ x doc. marked (a x) o m ≡ true → marked doc o m ≡ true) a p e q (λ h. numbered o m ∙ leaves.keeps o m (old o m ∙ h)) (λ h. h);
    adds = λ m h. subst (λ (doc : Option Document). marked doc r m ≡ true) (sym (document_there a p e)) (numbered r m ∙ leaves.adds m (left_to r p w.edit.writes w.marks names m h));
    only = λ q o m. at_document (λ x doc. marked doc o m ≡ true → (marked (a x) o m ≡ true) ⊎ ((x ≡ p) × (o ≡ r) × In (mark_at p m) w.marks)) a p e q (λ h. by_marks p o m refl (leaves.only o m (sym (numbered o m) ∙ h))) (λ h. inl h);
    notes = λ q o. at_document (λ x doc. noted doc o ≡ noted (a x) o) a p e q (leaves.notes o ∙ empty_notes (a p) (id.Node p) o) refl;
    collisions = λ q o. at_document (λ x doc. collision doc o ≡ collision (a x) o) a p e q (leaves.collisions o ∙ empty_collisions (a p) (id.Node p) o) refl;
    keeps_roots = λ q o root. at_document (λ x doc. IsRooted (a x) o root → ((x ≡ p) × (o ≡ r)) ⊎ IsRooted doc o root) a p e q (λ h. keeps_root o root h (leaves.roots o)) (λ h. inr h);
    only_roots = λ q o. at_document (λ x doc. is_some (root_entry doc o) ≡ true → ((x ≡ p) × (o ≡ r)) ⊎ (is_some (root_entry (a x) o) ≡ true)) a p e q (λ h. only_root o h (leaves.roots o)) (λ h. inr h);
    adds_root = λ m h none. subst (λ (doc : Option Document). IsRooted doc r (commit_root w.marks)) (sym (document_there a p e))
        (ap (λ x. Some x) (root_moved made e r refl refl ∙ write_rooted r p w.edit.writes w.marks m before ordered_then.0 h (empty_roots (a p) (id.Node p) r ∙ none_of (root_entry (a p) r) none)));
  }

-- an entry of one that has none yet
abbrev coll : List (Revision × (Revision × Item)) → Revision → Revision × Item → List (Revision × (Revision × Item))
coll es o v = cond (is_some (of_revision es o)) es (with_revision es o v)

coll_keeps : (es : List (Revision × (Revision × Item))) (o x : Revision) (v : Revision × Item) → has es x ≡ true → has (coll es o v) x ≡ true
coll_keeps es o x v h = by (is_some (of_revision es o))
  where
    by : (b : Bool) → has (cond b es (with_revision es o v)) x ≡ true
    by true = h
    by false = has_keeps es o x v h

coll_adds : (es : List (Revision × (Revision × Item))) (o : Revision) (v : Revision × Item) → has (coll es o v) o ≡ true
coll_adds es o v = by (is_some (of_revision es o)) refl
  where
    by : (b : Bool) → has es o ≡ b → has (cond b es (with_revision es o v)) o ≡ true
    by true h = h
    by false h = has_adds es o v

coll_only : (es : List (Revision × (Revision × Item))) (o x : Revision) (v f : Revision × Item) → of_revision (coll es o v) x ≡ Some f → (of_revision es x ≡ Some f) ⊎ ((x ≡ o) × (f ≡ v))
coll_only es o x v f = by (is_some (of_revision es o))
  where
    with_one : (b : Bool) → is_same x o ≡ b → cond b (Some v) (of_revision es x) ≡ Some f → (of_revision es x ≡ Some f) ⊎ ((x ≡ o) × (f ≡ v))
    with_one true t h = inr (same_revision x o t, some_is h)
    with_one false t h = inl h

    by : (b : Bool) → of_revision (cond b es (with_revision es o v)) x ≡ Some f → (of_revision es x ≡ Some f) ⊎ ((x ≡ o) × (f ≡ v))
    by true h = inl h
    by false h = with_one (is_same x o) refl (sym (lookup-insert_entry revision_cmp revision_total x o v es) ∙ h)

-- a mark is made, or refused
pub mark_is : (doc : Option Document) (past : Past) (r : Revision) (f : Met) (number : ℕ) → ((noted doc f.other ≡ false) × (updated doc (mark_op (root_of past f.other) f.other r f.theirs) number ≡ Ok (after_changes doc (mark_op (root_of past f.other) f.other r f.theirs) number))) ⊎ ((g : OpFault) × (updated doc (mark_op (root_of past f.other) f.other r f.theirs) number ≡ Err g))
mark_is None past r f number = inl (refl, refl)
mark_is (Some d) past r f number = by (of_revision d.revisions f.other)
  where
    by : (x : Option (Unit {0})) → ((is_some x ≡ false) × (cond (is_none x) (Ok (after_changes (Some d) (mark_op (root_of past f.other) f.other r f.theirs) number)) (Err (fault.Unmet (NotCommitted f.other) kept.Nothing)) ≡ Ok (after_changes (Some d) (mark_op (root_of past f.other) f.other r f.theirs) number))) ⊎ ((g : OpFault) × (cond (is_none x) (Ok (after_changes (Some d) (mark_op (root_of past f.other) f.other r f.theirs) number)) (Err (fault.Unmet (NotCommitted f.other) kept.Nothing)) ≡ Err g))
    by None = inl (refl, refl)
    by (Some x) = inr (fault.Unmet (NotCommitted f.other) kept.Nothing, refl)

module _ (a : Docs) (past : Past) (r : Revision) (f : Met) (number : ℕ) where
  abbrev mark_root : Path
  mark_root = root_of past f.other

  abbrev mark_doc : Document
  mark_doc = after_changes (a mark_root) (mark_op (root_of past f.other) f.other r f.theirs) number

  mark_same : (x : Revision) (m : Mark) → has_mark mark_doc x m ≡ has_mark (document_of (a mark_root) (id.Node mark_root)) x m
  mark_same x Exists = refl
  mark_same x Guard = refl
  mark_same x Touch = refl
  mark_same x (Prop n) = refl

  pub marks : noted (a mark_root) f.other ≡ false → Marks a (with_document a mark_root mark_doc) mark_root f.other (r, f.theirs)
  marks free = record {
    ordered = λ q. at_document (λ x doc. AreOrdered x (a x) → AreOrdered x doc) a mark_root mark_doc q (λ h. let o = empty_ordered (a mark_root) mark_root h in (o.0, record { names = o.1.names })) (λ h. h);
    keeps_roots = λ q x root. at_document (λ y doc. IsRooted (a y) x root → IsRooted doc x root) a mark_root mark_doc q (rooted_still (a mark_root) (id.Node mark_root) mark_doc x root refl refl) (λ h. h);
    only_roots = λ q x. at_document (λ y doc. is_some (root_entry doc x) ≡ true → is_some (root_entry (a y) x) ≡ true) a mark_root mark_doc q (λ h. ap (λ (o : Option ℕ). is_some o) (sym (empty_roots (a mark_root) (id.Node mark_root) x)) ∙ h) (λ h. h);
    free = free;
    marks = λ q x m. at_document (λ y doc. marked doc x m ≡ marked (a y) x m) a mark_root mark_doc q (mark_same x m ∙ empty_marks (a mark_root) (id.Node mark_root) x m) refl;
    notes = λ q x. at_document (λ y doc. noted doc x ≡ noted (a y) x) a mark_root mark_doc q (empty_notes (a mark_root) (id.Node mark_root) x) refl;
    keeps = λ q x. at_document (λ y doc. is_some (collision (a y) x) ≡ true → is_some (collision doc x) ≡ true) a mark_root mark_doc q
        (λ h. coll_keeps (document_of (a mark_root) (id.Node mark_root)).collisions f.other x (r, f.theirs) (ap (λ (o : Option (Revision × Item)). is_some o) (empty_collisions (a mark_root) (id.Node mark_root) x) ∙ h))
        (λ h. h);
    adds = subst (λ (doc : Option Document). is_some (collision doc f.other) ≡ true) (sym (document_there a mark_root mark_doc)) (coll_adds (document_of (a mark_root) (id.Node mark_root)).collisions f.other (r, f.theirs));
    only = λ q x g. at_document (λ y doc. collision doc x ≡ Some g → (collision (a y) x ≡ Some g) ⊎ ((x ≡ f.other) × (g ≡ (r, f.theirs)))) a mark_root mark_doc q
        (λ h. was x g (coll_only (document_of (a mark_root) (id.Node mark_root)).collisions f.other x (r, f.theirs) g h))
        (λ h. inl h);
  }
    where
      was : (x : Revision) (g : Revision × Item) → (of_revision (document_of (a mark_root) (id.Node mark_root)).collisions x ≡ Some g) ⊎ ((x ≡ f.other) × (g ≡ (r, f.theirs))) → (collision (a mark_root) x ≡ Some g) ⊎ ((x ≡ f.other) × (g ≡ (r, f.theirs)))
      was x g (inl h) = inl (sym (empty_collisions (a mark_root) (id.Node mark_root) x) ∙ h)
      was x g (inr h) = inr h

-- the last write is made, or refused with the collision kept there
pub last_is : (doc : Option Document) (past : Past) (r : Revision) (number : ℕ) → ((is_some (collision doc r) ≡ false) × (updated doc (last_op r (marks_of past r)) number ≡ Ok (after_changes doc (last_op r (marks_of past r)) number))) ⊎ ((e : Revision × Item) × (collision doc r ≡ Some e) × (updated doc (last_op r (marks_of past r)) number ≡ Err (fault.Unmet (NoCollision r) (kept.Entry e.0 e.1))))
last_is None past r number = inl (refl, refl)
last_is (Some d) past r number = by (of_revision d.collisions r)
  where
    by : (x : Option (Revision × Item)) →
        ((is_some x ≡ false) × (cond (is_none x) (Ok (after_changes (Some d) (last_op r (marks_of past r)) number)) (Err (fault.Unmet (NoCollision r) (option_map_or (λ e. kept.Entry e.0 e.1) x kept.Nothing))) ≡ Ok (after_changes (Some d) (last_op r (marks_of past r)) number)))
        ⊎ ((e : Revision × Item) × (x ≡ Some e) × (cond (is_none x) (Ok (after_changes (Some d) (last_op r (marks_of past r)) number)) (Err (fault.Unmet (NoCollision r) (option_map_or (λ e. kept.Entry e.0 e.1) x kept.Nothing))) ≡ Err (fault.Unmet (NoCollision r) (kept.Entry e.0 e.1))))
    by None = inl (refl, refl)
    by (Some e) = inr (e, refl, refl)

module _ (a : Docs) (past : Past) (r : Revision) (number : ℕ) where
  abbrev last_root : Path
  last_root = root_of past r

  abbrev last_doc : Document
  last_doc = after_changes (a last_root) (last_op r (marks_of past r)) number

  last_same : (x : Revision) (m : Mark) → has_mark last_doc x m ≡ has_mark (document_of (a last_root) (id.Node last_root)) x m
  last_same x Exists = refl
  last_same x Guard = refl
  last_same x Touch = refl
  last_same x (Prop n) = refl

  pub notes : is_some (collision (a last_root) r) ≡ false → Notes a (with_document a last_root last_doc) last_root r
  notes free = record {
    ordered = λ q. at_document (λ x doc. AreOrdered x (a x) → AreOrdered x doc) a last_root last_doc q (λ h. let o = empty_ordered (a last_root) last_root h in (o.0, record { names = o.1.names })) (λ h. h);
    keeps_roots = λ q x root. at_document (λ y doc. IsRooted (a y) x root → IsRooted doc x root) a last_root last_doc q (rooted_still (a last_root) (id.Node last_root) last_doc x root refl refl) (λ h. h);
    only_roots = λ q x. at_document (λ y doc. is_some (root_entry doc x) ≡ true → is_some (root_entry (a y) x) ≡ true) a last_root last_doc q (λ h. ap (λ (o : Option ℕ). is_some o) (sym (empty_roots (a last_root) (id.Node last_root) x)) ∙ h) (λ h. h);
    free = free;
    marks = λ q x m. at_document (λ y doc. marked doc x m ≡ marked (a y) x m) a last_root last_doc q (last_same x m ∙ empty_marks (a last_root) (id.Node last_root) x m) refl;
    keeps = λ q x. at_document (λ y doc. noted (a y) x ≡ true → noted doc x ≡ true) a last_root last_doc q (λ h. has_keeps (document_of (a last_root) (id.Node last_root)).revisions r x tt (empty_notes (a last_root) (id.Node last_root) x ∙ h)) (λ h. h);
    adds = subst (λ (doc : Option Document). noted doc r ≡ true) (sym (document_there a last_root last_doc)) (has_adds (document_of (a last_root) (id.Node last_root)).revisions r tt);
    only = λ q x. at_document (λ y doc. noted doc x ≡ true → (noted (a y) x ≡ true) ⊎ (x ≡ r)) a last_root last_doc q (λ h. was x (has_only (document_of (a last_root) (id.Node last_root)).revisions r x tt h)) (λ h. inl h);
    collisions = λ q x. at_document (λ y doc. collision doc x ≡ collision (a y) x) a last_root last_doc q (empty_collisions (a last_root) (id.Node last_root) x) refl;
  }
    where
      was : (x : Revision) → (has (document_of (a last_root) (id.Node last_root)).revisions x ≡ true) ⊎ (x ≡ r) → (noted (a last_root) x ≡ true) ⊎ (x ≡ r)
      was x (inl h) = inl (sym (empty_notes (a last_root) (id.Node last_root) x) ∙ h)
      was x (inr e) = inr e
