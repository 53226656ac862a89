-- The documents stay in store order, each under its id, with names by the grammar.
use Rattle.std.proofs.Common.{◌≡◌, ℕ, Bool, true, false, cond, not, ◌&&◌, Some, None, Option, Ok, Err, Result, List, [], ◌∷◌, is_none, refl, sym, ap, subst, ◌∙◌, fold}
use Rattle.std.specs.List.{All, AllByRecursion}
use Rattle.std.specs.List.Sorted.{IsStrictlySortedBy}
use Rattle.std.specs.Map.{keys_of, lookup, set_value}
use Rattle.std.specs.Option.{option_map_or}
use Rattle.std.specs.Ordering.{eq_by_cmp, match_ordering, ordering_reverse}
use Rattle.std.specs.BTreeMap.{insert_entry, is_at}
use Rattle.std.specs.declared.cmp.Ordering.{Ordering}
use Rattle.std.specs.declared.cmp.Ordering.TheVariants.{Less, Equal, Greater}
use Rattle.std.proofs.lemmas.List.Elements.{All-from_recursion, recursion_from_All}
use Rattle.std.proofs.lemmas.Map.{keys-set_value}
use Rattle.jr_path.specs.Grammar.{IsName}
use Rattle.jr_path.specs.Ids.{id_cmp}
use Rattle.jr_path.specs.declared.path.DocId.{DocId}
use Rattle.jr_path.specs.declared.path.DocId.TheVariants as id
use Rattle.jr_path.proofs.Orders.{id_exact, id_total}
use Rattle.jr_rev.specs.declared.revision.Revision.{Revision}
use Rattle.oak_clash.specs.Clashes.{commit_root}
use Rattle.oak_commit.specs.Clashing.{Met, mark_op}
use Rattle.oak_commit.specs.Writing.{last_op}
use Rattle.oak_doc.specs.declared.document.Document.{Document}
use Rattle.oak_doc.specs.declared.update.UpdateOp.{UpdateOp}
use Rattle.oak_doc.specs.declared.update.Change.{Change}
use Rattle.oak_doc.specs.declared.update.Change.TheVariants as change
use Rattle.oak_doc.specs.declared.update.EntryKey.{EntryKey}
use Rattle.oak_doc.specs.declared.update.Field.{Field}
use Rattle.oak_doc.specs.declared.update.Field.TheVariants as field
use Rattle.oak_doc.specs.declared.update.OpFault.{OpFault}
use Rattle.oak_doc.specs.declared.update.OpFault.TheVariants as fault
use Rattle.oak_doc.specs.declared.update.Kept.TheVariants as kept
use Rattle.oak_doc.specs.Updates.{after_changes, changed, document_of, is_met, pruned, update_refusal, undone}
use Rattle.oak_read.specs.Meaning.{path_of}
use Rattle.oak_read.specs.Reading.{IsTable}
use Rattle.oak_store.specs.Tables.{Table, after_undo, found, next_number}
use Rattle.core_clash.specs.Core.{root_of}
use Rattle.core_clash.specs.Sessions.{Running}
use Rattle.core_watch.proofs.Behind.{each_found}
use Rattle.core_world.specs.States.{State}
use Rattle.core_world.specs.Steps.{after_last, after_mark, after_update, lasted_by, marked_by, with_result}
use Rattle.core_world.proofs.Tables.{one_id}

-- ---- a document is put in, or set

-- a key below another is below all that are behind it
below_both : (i j : DocId) (ks : List DocId) → id_cmp i j ≡ Less → AllByRecursion (λ y. id_cmp j y ≡ Less) ks → AllByRecursion (λ y. id_cmp i y ≡ Less) ks
below_both i j [] h all = tt
below_both i j (k ∷ ks) h all = (id_total.trans i j k h all.0, below_both i j ks h all.1)

module _ (i : DocId) (d : Document) where
  -- what holds of each entry and of the new one holds of each then
  each_put : (P : DocId → Document → Type 0) → P i d → (es : List (DocId × Document)) → AllByRecursion (λ e. P e.0 e.1) es → AllByRecursion (λ e. P e.0 e.1) (insert_entry id_cmp es i d)
  each_put P p [] all = (p, tt)
  each_put P p (e ∷ es) all = by (id_cmp i e.0) refl (each_put P p es all.1)
    where
      by : (o : Ordering) → id_cmp i e.0 ≡ o → AllByRecursion (λ e. P e.0 e.1) (insert_entry id_cmp es i d) → AllByRecursion (λ e. P e.0 e.1) (match_ordering o ((i, d) ∷ e ∷ es) ((e.0, d) ∷ es) (e ∷ insert_entry id_cmp es i d))
      by Less h rest = (p, all)
      by Equal h rest = (subst (λ (x : DocId). P x d) (id_exact i e.0 h) p, all.1)
      by Greater h rest = (all.0, rest)

  keys_put : (P : DocId → Type 0) → P i → (es : List (DocId × Document)) → AllByRecursion P (keys_of es) → AllByRecursion P (keys_of (insert_entry id_cmp es i d))
  keys_put P p [] all = (p, tt)
  keys_put P p (e ∷ es) all = by (id_cmp i e.0) (keys_put P p es all.1)
    where
      by : (o : Ordering) → AllByRecursion P (keys_of (insert_entry id_cmp es i d)) → AllByRecursion P (keys_of (match_ordering o ((i, d) ∷ e ∷ es) ((e.0, d) ∷ es) (e ∷ insert_entry id_cmp es i d)))
      by Less rest = (p, all)
      by Equal rest = all
      by Greater rest = (all.0, rest)

  sorted_put : (es : List (DocId × Document)) → IsStrictlySortedBy id_cmp (keys_of es) → IsStrictlySortedBy id_cmp (keys_of (insert_entry id_cmp es i d))
  unfolding IsStrictlySortedBy
  sorted_put [] sorted = (tt, tt)
  sorted_put (e ∷ es) sorted = by (id_cmp i e.0) refl (sorted_put es sorted.1)
    where
      by : (o : Ordering) → id_cmp i e.0 ≡ o → IsStrictlySortedBy id_cmp (keys_of (insert_entry id_cmp es i d)) → IsStrictlySortedBy id_cmp (keys_of (match_ordering o ((i, d) ∷ e ∷ es) ((e.0, d) ∷ es) (e ∷ insert_entry id_cmp es i d)))
      by Less h rest = ((h, below_both i e.0 (keys_of es) h sorted.0), sorted)
      by Equal h rest = sorted
      by Greater h rest = (keys_put (λ y. id_cmp e.0 y ≡ Less) (id_total.antisymm e.0 i ∙ ap ordering_reverse h) es sorted.0, rest)

  each_set : (P : DocId → Document → Type 0) → P i d → (es : List (DocId × Document)) → AllByRecursion (λ e. P e.0 e.1) es → AllByRecursion (λ e. P e.0 e.1) (set_value (is_at (id_cmp i)) es d)
  each_set P p [] all = tt
  each_set P p (e ∷ es) all = by (eq_by_cmp id_cmp i e.0) refl (each_set P p es all.1)
    where
      by : (b : Bool) → eq_by_cmp id_cmp i e.0 ≡ b → AllByRecursion (λ e. P e.0 e.1) (set_value (is_at (id_cmp i)) es d) → AllByRecursion (λ e. P e.0 e.1) (cond b ((e.0, d) ∷ es) (e ∷ set_value (is_at (id_cmp i)) es d))
      by true h rest = (subst (λ (x : DocId). P x d) (one_id i e.0 h) p, all.1)
      by false h rest = (all.0, rest)

-- each entry is under its id, and its path is by the grammar
abbrev IsNamed : DocId → Document → Type 0
IsNamed i d = d.id ≡ i

abbrev IsLawful : DocId → Document → Type 0
IsLawful i d = All IsName (path_of i)

put_table : (es : List (DocId × Document)) (i : DocId) (d : Document) → IsTable es → d.id ≡ i → All IsName (path_of i) → IsTable (insert_entry id_cmp es i d)
put_table es i d is named lawful = record {
  ordered = sorted_put i d es is.ordered;
  named = All-from_recursion (λ e. e.1.id ≡ e.0) _ (each_put i d IsNamed named es (recursion_from_All (λ e. e.1.id ≡ e.0) es is.named));
  lawful = All-from_recursion (λ e. All IsName (path_of e.0)) _ (each_put i d IsLawful lawful es (recursion_from_All (λ e. All IsName (path_of e.0)) es is.lawful));
}

-- what is found is under its id
found_named : (es : List (DocId × Document)) → IsTable es → (i : DocId) (d : Document) → lookup (is_at (id_cmp i)) es ≡ Some d → IsNamed i d
found_named es is i d h = each_found IsNamed es (recursion_from_All (λ e. e.1.id ≡ e.0) es is.named) i d h

found_lawful : (es : List (DocId × Document)) → IsTable es → (i : DocId) (d : Document) → lookup (is_at (id_cmp i)) es ≡ Some d → IsLawful i d
found_lawful es is i d h = each_found IsLawful es (recursion_from_All (λ e. All IsName (path_of e.0)) es is.lawful) i d h

-- ---- changes leave the id of a document

pruned_id : (keys : List EntryKey) (d : Document) → (fold pruned d keys).id ≡ d.id
pruned_id [] d = refl
pruned_id (k ∷ ks) d = pruned_id ks (pruned d k) ∙ one k.field
  where
    one : (f : Field) → (pruned d (record k { field = f })).id ≡ d.id
    one field.Deleted = refl
    one field.CommitRoot = refl
    one field.Revisions = refl
    one field.Collisions = refl
    one field.Touched = refl
    one field.Guard = refl
    one (field.Prop n) = refl

changed_id : (c : Change) (d : Document) → (changed d c).id ≡ d.id
changed_id (change.Prune keys) d = pruned_id keys d
changed_id c d = refl

folded_id : (cs : List Change) (d : Document) → (fold changed d cs).id ≡ d.id
folded_id [] d = refl
folded_id (c ∷ cs) d = folded_id cs (changed d c) ∙ changed_id c d

after_id : (o : Option Document) (op : UpdateOp) (n : ℕ) → ((d : Document) → o ≡ Some d → d.id ≡ op.id) → (after_changes o op n).id ≡ op.id
after_id None op n named = folded_id op.changes (document_of None op.id)
after_id (Some d) op n named = folded_id op.changes d ∙ named d refl

-- ---- updates

updated_table : (t : Table) (op : UpdateOp) → IsTable t.documents → All IsName (path_of op.id) → (a b : Bool) (g : OpFault) → IsTable (with_result t op.id (cond a (Err fault.Absent) (cond b (Ok (after_changes (found t op.id) op (next_number t))) (Err g)))).documents
updated_table t op is lawful true b g = is
updated_table t op is lawful false true g = put_table t.documents op.id (after_changes (found t op.id) op (next_number t)) is (after_id (found t op.id) op (next_number t) (λ d h. found_named t.documents is op.id d h)) lawful
updated_table t op is lawful false false g = is

pub update_in_order : (t : Table) (op : UpdateOp) → IsTable t.documents → All IsName (path_of op.id) → IsTable (after_update t op).documents
update_in_order t op is lawful = updated_table t op is lawful (is_none (found t op.id) && not op.create) (is_met (found t op.id) op.cond) (update_refusal (found t op.id) op.cond)

pub undo_in_order : (t : Table) (i : DocId) (r : Revision) → IsTable t.documents → IsTable (after_undo t i r).documents
undo_in_order t i r is = by (found t i) refl
  where
    by : (o : Option Document) → found t i ≡ o → IsTable (option_map_or (λ d. set_value (is_at (id_cmp i)) t.documents (undone d r (next_number t))) o t.documents)
    by None h = is
    by (Some d) h = record {
      ordered = subst (λ (ks : List DocId). IsStrictlySortedBy id_cmp ks) (sym (keys-set_value (is_at (id_cmp i)) t.documents (undone d r (next_number t)))) is.ordered;
      named = All-from_recursion (λ e. e.1.id ≡ e.0) _ (each_set i (undone d r (next_number t)) IsNamed (found_named t.documents is i d h) t.documents (recursion_from_All (λ e. e.1.id ≡ e.0) t.documents is.named));
      lawful = All-from_recursion (λ e. All IsName (path_of e.0)) _ (each_set i (undone d r (next_number t)) IsLawful (found_lawful t.documents is i d h) t.documents (recursion_from_All (λ e. All IsName (path_of e.0)) t.documents is.lawful));
    }

-- ---- a mark and a last write are one update

marked_table : (w : State) (s : ℕ) (x : Running) (f : Met) (rest : List Met) (o : Result Document OpFault) → (marked_by w s x f rest o).table ≡ with_result w.table (id.Node (root_of w.past f.other)) o
marked_table w s x f rest (Ok d) = refl
marked_table w s x f rest (Err g) = refl

pub mark_table : (w : State) (s : ℕ) (x : Running) (f : Met) (rest : List Met) → (after_mark w s x f rest).table ≡ after_update w.table (mark_op (root_of w.past f.other) f.other x.draw.revision f.theirs)
mark_table w s x f rest = marked_table w s x f rest _

lasted_table : (w : State) (s : ℕ) (x : Running) (o : Result Document OpFault) → (lasted_by w s x o).table ≡ with_result w.table (id.Node (commit_root x.draw.marks)) o
lasted_table w s x (Ok d) = refl
lasted_table w s x (Err (fault.Unmet c (kept.Entry o item))) = refl
lasted_table w s x (Err (fault.Unmet c (kept.Number n))) = refl
lasted_table w s x (Err (fault.Unmet c kept.Nothing)) = refl
lasted_table w s x (Err fault.Absent) = refl
lasted_table w s x (Err fault.Memory) = refl

pub last_table : (w : State) (s : ℕ) (x : Running) → (after_last w s x).table ≡ after_update w.table (last_op x.draw.revision x.draw.marks)
last_table w s x = lasted_table w s x _
