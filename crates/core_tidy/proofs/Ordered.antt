-- Entries stay in order with each change of a document, and with each step of a table.
use Rattle.std.proofs.Common.{◌≡◌, ◌≤◌, ℕ, Bool, true, false, cond, not, ◌&&◌, Option, Some, None, Result, Ok, Err, List, [], ◌∷◌, length, is_none, refl, sym, ap, ◌∙◌, subst}
use mathlib.Core.Bool.{false≢true}
use Rattle.std.specs.BTreeMap.{insert_entry, is_at}
use Rattle.std.specs.FinMap.{is_sorted}
use Rattle.std.specs.FinMap.Entries.{below_all}
use Rattle.std.specs.List.{fold, list_all}
use Rattle.std.specs.Map.{remove_entry}
use Rattle.std.specs.Ordering.{eq_by_cmp, match_ordering}
use Rattle.std.specs.Prelude.{nat_eq}
use Rattle.std.specs.declared.cmp.Ordering.{Ordering}
use Rattle.std.specs.declared.cmp.Ordering.TheVariants.{Less, Equal, Greater}
use Rattle.jr_path.specs.Ids.{id_cmp}
use Rattle.jr_path.specs.Names.{name_cmp}
use Rattle.jr_path.specs.declared.name.Name.{Name}
use Rattle.jr_path.specs.declared.path.DocId.{DocId}
use Rattle.jr_path.specs.declared.path.DocId.TheVariants as id
use Rattle.jr_path.specs.declared.path.Path.{Path}
use Rattle.jr_rev.specs.declared.revision.Revision.{Revision}
use Rattle.jr_rev.specs.Revisions.{revision_cmp}
use Rattle.jr_rev.proofs.Order.{revision_total}
use Rattle.jr_tree.proofs.Entries.{sorted_filter}
use Rattle.jr_value.specs.declared.value.Property.{Property}
use Rattle.oak_doc.specs.declared.document.Document.{Document}
use Rattle.oak_doc.specs.declared.update.Change.{Change}
use Rattle.oak_doc.specs.declared.update.Change.TheVariants as change
use Rattle.oak_doc.specs.declared.update.EntryKey.{EntryKey}
use Rattle.oak_doc.specs.declared.update.Field.{Field}
use Rattle.oak_doc.specs.declared.update.Field.TheVariants as field
use Rattle.oak_doc.specs.declared.update.OpFault.{OpFault}
use Rattle.oak_doc.specs.declared.update.OpFault.TheVariants as fault
use Rattle.oak_doc.specs.declared.update.UpdateOp.{UpdateOp}
use Rattle.oak_doc.specs.Updates.{Props, after_changes, changed, document_of, is_met, props_without_revision, pruned, undone, update_refusal, updated, values_of_property, with_revision, with_values, without_revision}
use Rattle.oak_prev.specs.Splits.{IsInOrder}
use Rattle.oak_read.specs.Meaning.{documents_in}
use Rattle.oak_store.specs.Tables.{Table, after_undo, found, next_number, with_document}
use Rattle.core_read.proofs.Entries.{both, first, second, sorted_insert}
use Rattle.core_read.proofs.Updates.{sorted_with}
use Rattle.core_tidy.specs.Ordered.{AreAllInOrder, IsTableStep}
use Rattle.core_world.specs.Collecting.{without}
use Rattle.core_world.specs.Numbers.{last_number}
use Rattle.core_world.specs.Steps.{after_update, with_result}
use Rattle.core_world.proofs.Numbers.{put_step, removed_step, still_step, undo_step, update_step}
use Rattle.core_world.proofs.Tables.{put_is, undo_at, undo_none}
use Rattle.core_world.proofs.Collects.{taken_is}

-- ---- the values of properties

abbrev Values : Type 0
Values = List (Revision × Option Property)

-- those of each property are in order
abbrev AreSorted : Props → Type 0
AreSorted ps = list_all (λ p. is_sorted revision_cmp p.1) ps ≡ true

put_sorted : (n : Name) (es : Values) (ps : Props) → is_sorted revision_cmp es ≡ true → AreSorted ps → AreSorted (insert_entry name_cmp ps n es)
put_sorted n es [] s h = both _ _ s refl
put_sorted n es (p ∷ ps) s h = by (name_cmp n p.0) (put_sorted n es ps s (second _ _ h))
  where
    by : (o : Ordering) → AreSorted (insert_entry name_cmp ps n es) → AreSorted (match_ordering o ((n, es) ∷ p ∷ ps) ((p.0, es) ∷ ps) (p ∷ insert_entry name_cmp ps n es))
    by Less rest = both _ _ s h
    by Equal rest = both _ _ s (second _ _ h)
    by Greater rest = both _ _ (first _ _ h) rest

left_sorted : (test : Name → Bool) (ps : Props) → AreSorted ps → AreSorted (remove_entry test ps)
left_sorted test [] h = h
left_sorted test (p ∷ ps) h = by (test p.0) (left_sorted test ps (second _ _ h))
  where
    by : (b : Bool) → AreSorted (remove_entry test ps) → AreSorted (cond b ps (p ∷ remove_entry test ps))
    by true rest = second _ _ h
    by false rest = both _ _ (first _ _ h) rest

with_sorted : (ps : Props) (n : Name) (es : Values) → is_sorted revision_cmp es ≡ true → AreSorted ps → AreSorted (with_values ps n es)
with_sorted ps n [] s h = left_sorted (is_at (name_cmp n)) ps h
with_sorted ps n (e ∷ es) s h = put_sorted n (e ∷ es) ps s h

values_sorted : (ps : Props) (n : Name) → AreSorted ps → is_sorted revision_cmp (values_of_property ps n) ≡ true
values_sorted [] n h = refl
values_sorted (p ∷ ps) n h = by (is_at (name_cmp n) p.0) (values_sorted ps n (second _ _ h))
  where
    by : (b : Bool) → is_sorted revision_cmp (values_of_property ps n) ≡ true → is_sorted revision_cmp (Rattle.std.specs.Option.unwrap_or (cond b (Some p.1) (Rattle.std.specs.Map.lookup (is_at (name_cmp n)) ps)) []) ≡ true
    by true rest = first _ _ h
    by false rest = rest

values_without : (r : Revision) (es : Values) → is_sorted revision_cmp es ≡ true → is_sorted revision_cmp (without_revision r es) ≡ true
values_without r es h = sorted_filter revision_cmp (λ e. not (Rattle.jr_rev.specs.Revisions.is_same r e.0)) es h

props_sorted : (r : Revision) (ps : Props) → AreSorted ps → AreSorted (props_without_revision r ps)
props_sorted r [] h = h
props_sorted r (p ∷ ps) h = by (not (nat_eq (length (without_revision r p.1)) 0)) (props_sorted r ps (second _ _ h))
  where
    by : (b : Bool) → AreSorted (props_without_revision r ps) → AreSorted (cond b ((p.0, without_revision r p.1) ∷ props_without_revision r ps) (props_without_revision r ps))
    by true rest = both _ _ (values_without r p.1 (first _ _ h)) rest
    by false rest = rest

below_without : (r : Revision) (x : Name) (ps : Props) → below_all name_cmp x ps ≡ true → below_all name_cmp x (props_without_revision r ps) ≡ true
below_without r x [] h = h
below_without r x (e ∷ ps) h = by (not (nat_eq (length (without_revision r e.1)) 0)) (below_without r x ps (second _ _ h))
  where
    by : (b : Bool) → below_all name_cmp x (props_without_revision r ps) ≡ true → below_all name_cmp x (cond b ((e.0, without_revision r e.1) ∷ props_without_revision r ps) (props_without_revision r ps)) ≡ true
    by true rest = both _ _ (first _ _ h) rest
    by false rest = rest

names_without : (r : Revision) (ps : Props) → is_sorted name_cmp ps ≡ true → is_sorted name_cmp (props_without_revision r ps) ≡ true
names_without r [] h = h
names_without r (e ∷ ps) h = by (not (nat_eq (length (without_revision r e.1)) 0)) (names_without r ps (second _ _ h))
  where
    by : (b : Bool) → is_sorted name_cmp (props_without_revision r ps) ≡ true → is_sorted name_cmp (cond b ((e.0, without_revision r e.1) ∷ props_without_revision r ps) (props_without_revision r ps)) ≡ true
    by true rest = both _ _ (below_without r e.0 ps (first _ _ h)) rest
    by false rest = rest

-- ---- a document

-- one that has the same properties and notes of commit roots
same_order : (d e : Document) → e.props ≡ d.props → e.commit_root ≡ d.commit_root → IsInOrder d → IsInOrder e
same_order d e props roots h = record {
  names = subst (λ (ps : Props). is_sorted name_cmp ps ≡ true) (sym props) h.names;
  values = subst AreSorted (sym props) h.values;
  roots = subst (λ (es : List (Revision × ℕ)). is_sorted revision_cmp es ≡ true) (sym roots) h.roots;
}

value_order : (d e : Document) (n : Name) (es : Values) → is_sorted revision_cmp es ≡ true → e.props ≡ with_values d.props n es → e.commit_root ≡ d.commit_root → IsInOrder d → IsInOrder e
value_order d e n es s props roots h = record {
  names = subst (λ (ps : Props). is_sorted name_cmp ps ≡ true) (sym props) (sorted_with d.props n es h.names);
  values = subst AreSorted (sym props) (with_sorted d.props n es s h.values);
  roots = subst (λ (es : List (Revision × ℕ)). is_sorted revision_cmp es ≡ true) (sym roots) h.roots;
}

field_order : (f : Field) (r : Revision) (d : Document) → IsInOrder d → IsInOrder (pruned d (record { field = f; revision = r }))
field_order field.Deleted r d h = same_order d _ refl refl h
field_order field.CommitRoot r d h = record { names = h.names; values = h.values; roots = sorted_filter revision_cmp (λ e. not (Rattle.jr_rev.specs.Revisions.is_same r e.0)) d.commit_root h.roots }
field_order field.Revisions r d h = same_order d _ refl refl h
field_order field.Collisions r d h = same_order d _ refl refl h
field_order field.Touched r d h = same_order d _ refl refl h
field_order field.Guard r d h = same_order d _ refl refl h
field_order (field.Prop n) r d h = value_order d _ n (without_revision r (values_of_property d.props n)) (values_without r _ (values_sorted d.props n h.values)) refl refl h

keys_order : (ks : List EntryKey) (d : Document) → IsInOrder d → IsInOrder (fold pruned d ks)
keys_order [] d h = h
keys_order (k ∷ ks) d h = keys_order ks (pruned d k) (field_order k.field k.revision d h)

change_order : (c : Change) (d : Document) → IsInOrder d → IsInOrder (changed d c)
change_order (change.Deleted r b) d h = same_order d _ refl refl h
change_order (change.CommitRoot r depth) d h = record { names = h.names; values = h.values; roots = sorted_insert revision_cmp revision_total r depth d.commit_root h.roots }
change_order (change.Revisions r) d h = same_order d _ refl refl h
change_order (change.Collision o r item) d h = same_order d _ refl refl h
change_order (change.Touched r) d h = same_order d _ refl refl h
change_order (change.Guard r) d h = same_order d _ refl refl h
change_order (change.Prop n r x) d h = value_order d _ n (with_revision (values_of_property d.props n) r x) (sorted_insert revision_cmp revision_total r x (values_of_property d.props n) (values_sorted d.props n h.values)) refl refl h
change_order (change.Undo r) d h = record { names = names_without r d.props h.names; values = props_sorted r d.props h.values; roots = sorted_filter revision_cmp (λ e. not (Rattle.jr_rev.specs.Revisions.is_same r e.0)) d.commit_root h.roots }
change_order (change.Prune keys) d h = keys_order keys d h
change_order (change.List e) d h = same_order d _ refl refl h
change_order (change.Unlist n) d h = same_order d _ refl refl h
change_order (change.LastRev r) d h = same_order d _ refl refl h
change_order (change.SweepRev r) d h = same_order d _ refl refl h
change_order (change.Checkpoint i pin) d h = same_order d _ refl refl h
change_order (change.Release i) d h = same_order d _ refl refl h
change_order (change.Attach s i) d h = same_order d _ refl refl h
change_order (change.Detach s) d h = same_order d _ refl refl h

changes_order : (cs : List Change) (d : Document) → IsInOrder d → IsInOrder (fold changed d cs)
changes_order [] d h = h
changes_order (c ∷ cs) d h = changes_order cs (changed d c) (change_order c d h)

empty_order : (i : DocId) → IsInOrder (document_of None i)
empty_order i = record { names = refl; values = refl; roots = refl }

pub made_order : (o : Option Document) (op : UpdateOp) (n : ℕ) → ((d : Document) → o ≡ Some d → IsInOrder d) → IsInOrder (after_changes o op n)
made_order None op n h = same_order (fold changed (document_of None op.id) op.changes) _ refl refl (changes_order op.changes (document_of None op.id) (empty_order op.id))
made_order (Some d) op n h = same_order (fold changed d op.changes) _ refl refl (changes_order op.changes d (h d refl))

undone_order : (d : Document) (r : Revision) (n : ℕ) → IsInOrder d → IsInOrder (undone d r n)
undone_order d r n h = same_order (changed d (change.Undo r)) _ refl refl (change_order (change.Undo r) d h)

-- an update that is made makes its changes
pub made_is : (before : Option Document) (op : UpdateOp) (n : ℕ) (d : Document) → updated before op n ≡ Ok d → d ≡ after_changes before op n
made_is before op n d = by (is_none before && not op.create) (is_met before op.cond)
  where
    by : (a b : Bool) → cond a (Err fault.Absent) (cond b (Ok (after_changes before op n)) (Err (update_refusal before op.cond))) ≡ Ok d → d ≡ after_changes before op n
    by true b h = cc
    by false true h = cc
    by false false h = cc

-- ---- a table

value : (d e : Document) → ◌≡◌ {A = Option Document} (Some d) (Some e) → d ≡ e
value d e h = cc

pub put_order : (t : Table) (i : DocId) (d : Document) (n : ℕ) → IsInOrder d → AreAllInOrder t → AreAllInOrder (with_document t i d n)
put_order t i d n own all j e h = by (eq_by_cmp id_cmp j i) (sym (put_is t i d n j) ∙ h)
  where
    by : (b : Bool) → cond b (Some d) (documents_in t.documents j) ≡ Some e → IsInOrder e
    by true k = subst IsInOrder (value d e k) own
    by false k = all j e k

pub update_order : (t : Table) (op : UpdateOp) → AreAllInOrder t → AreAllInOrder (after_update t op)
update_order t op all = by (updated (found t op.id) op (next_number t)) refl
  where
    by : (o : Result Document OpFault) → updated (found t op.id) op (next_number t) ≡ o → AreAllInOrder (with_result t op.id o)
    by (Ok d) is = put_order t op.id d (next_number t) (subst IsInOrder (sym (made_is (found t op.id) op (next_number t) d is)) (made_order (found t op.id) op (next_number t) (λ e h. all op.id e h))) all
    by (Err e) is = all

pub undo_order : (t : Table) (p : Path) (r : Revision) → AreAllInOrder t → AreAllInOrder (after_undo t (id.Node p) r)
undo_order t p r all j e h = by (found t (id.Node p)) refl
  where
    at : (d : Document) → found t (id.Node p) ≡ Some d → (b : Bool) → cond b (Some (undone d r (next_number t))) (documents_in t.documents j) ≡ Some e → IsInOrder e
    at d is true k = subst IsInOrder (value (undone d r (next_number t)) e k) (undone_order d r (next_number t) (all (id.Node p) d is))
    at d is false k = all j e k

    by : (o : Option Document) → found t (id.Node p) ≡ o → IsInOrder e
    by None is = all j e (ap (λ (es : List (DocId × Document)). documents_in es j) (sym (undo_none t p r is)) ∙ h)
    by (Some d) is = at d is (eq_by_cmp id_cmp j (id.Node p)) (sym (undo_at t p r d is j) ∙ h)

pub without_order : (t : Table) (i : DocId) → is_sorted id_cmp t.documents ≡ true → AreAllInOrder t → AreAllInOrder (without t i)
without_order t i sorted all j e h = by (eq_by_cmp id_cmp j i) (sym (taken_is t i j sorted) ∙ h)
  where
    by : (b : Bool) → cond b None (documents_in t.documents j) ≡ Some e → IsInOrder e
    by true k = absurd (false≢true (ap Rattle.std.specs.Prelude.is_some k))
    by false k = all j e k

-- ---- its steps

pub still_table : (t : Table) → IsTableStep t t
still_table t = record { numbers = still_step t; order = λ all. all }

pub put_table : (t : Table) (i : DocId) (d : Document) → t.number ≤ last_number → d.mod_count ≡ next_number t → (AreAllInOrder t → IsInOrder d) → IsTableStep t (with_document t i d (next_number t))
put_table t i d low number own = record { numbers = put_step t i d low number; order = λ all. put_order t i d (next_number t) (own all) all }

pub update_table : (t : Table) (op : UpdateOp) → t.number ≤ last_number → IsTableStep t (after_update t op)
update_table t op low = record { numbers = update_step t op low; order = update_order t op }

pub undo_table : (t : Table) (p : Path) (r : Revision) → t.number ≤ last_number → IsTableStep t (after_undo t (id.Node p) r)
undo_table t p r low = record { numbers = undo_step t p r low; order = undo_order t p r }

pub without_table : (t : Table) (i : DocId) → is_sorted id_cmp t.documents ≡ true → IsTableStep t (without t i)
without_table t i sorted = record { numbers = removed_step t i sorted; order = without_order t i sorted }
