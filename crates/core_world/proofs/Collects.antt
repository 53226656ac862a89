-- What splits and collections do keeps the world.
use Rattle.std.proofs.Common.{◌≡◌, inl, inr, ℕ, Bool, true, false, cond, not, Some, None, Option, List, [], ◌∷◌, filter_map, map, refl, sym, ap, ◌∙◌, subst}
use Rattle.std.proofs.Math.Path.{fun_ext}
use Rattle.std.specs.FinMap.{is_sorted}
use Rattle.std.specs.List.{cons_option, filter, fold}
use Rattle.std.specs.Option.{option_map_or, unwrap_or}
use Rattle.std.specs.Ordering.{eq_by_cmp}
use Rattle.jr_path.specs.Ids.{id_cmp}
use Rattle.jr_path.specs.Names.{path_cmp}
use Rattle.jr_path.specs.declared.path.DocId.{DocId}
use Rattle.jr_path.specs.declared.path.DocId.TheVariants as id
use Rattle.jr_path.specs.declared.path.Path.{Path}
use Rattle.jr_path.proofs.Orders.{id_total}
use Rattle.jr_rev.specs.declared.revision.Revision.{Revision}
use Rattle.jr_tree.proofs.Pointwise.{same_path}
use Rattle.oak_doc.specs.declared.document.Document.{Document}
use Rattle.oak_doc.specs.declared.document.PrevEntry.{PrevEntry}
use Rattle.oak_doc.specs.declared.update.Change.TheVariants as change
use Rattle.oak_doc.specs.declared.update.EntryKey.{EntryKey}
use Rattle.oak_doc.specs.declared.update.Field.{Field}
use Rattle.oak_doc.specs.declared.update.Field.TheVariants as field
use Rattle.oak_doc.specs.declared.update.UpdateOp.{UpdateOp}
use Rattle.oak_doc.specs.Updates.{after_changes, changed, pruned}
use Rattle.oak_machine.specs.History.{Past, Begin}
use Rattle.oak_read.specs.Meaning.{Documents, documents_in}
use Rattle.oak_store.specs.Tables.{Table, with_document}
use Rattle.oak_commit.specs.Clashing.{Writer}
use Rattle.core_read.specs.Told.{IsIn}
use Rattle.core_clash.specs.Core.{with_document as with_node}
use Rattle.core_clash.specs.Collecting.{with_moved}
use Rattle.core_clash.specs.Sound.{Sound}
use Rattle.core_keep.specs.Dropping.{DropsGarbage, is_number_of}
use Rattle.core_keep.specs.Steps.{IsMainAt}
use Rattle.core_keep.proofs.Garbage.{same_parts, unlisted_from}
use Rattle.core_world.specs.Collecting.{without}
use Rattle.core_world.specs.Kept.{IsRootKept, SeesStarts}
use Rattle.core_world.specs.States.{core_in, moved_in, nodes_in}
use Rattle.core_world.proofs.Tables.{put_main, put_node}
use Rattle.core_read.proofs.Entries.{lookup-remove}
use Rattle.oak_machine.specs.declared.event.Start.{Start}
use Rattle.jr_rev.specs.Vectors.{sees}

-- ---- what is listed

-- what is listed by what there is of each number
pub listed_by : (f g : ℕ → Option Document) → ((k : ℕ) → f k ≡ g k) → (o : Option Document) → option_map_or (λ d. filter_map (λ e. f e.number) d.prev) o [] ≡ option_map_or (λ d. filter_map (λ e. g e.number) d.prev) o []
listed_by f g same o = ap (λ (h : ℕ → Option Document). option_map_or (λ d. filter_map (λ e. h e.number) d.prev) o []) (fun_ext same)

-- of the changed document what it lists, and of the others what they did
pub moved_main : (t u : Table) (p : Path) (d : Document) → IsMainAt (documents_in t.documents) (documents_in u.documents) p d → moved_in u ≡ with_moved (moved_in t) p (filter_map (λ e. documents_in t.documents (id.Prev e.number p)) d.prev)
moved_main t u p d main = fun_ext (λ q. by (filter_map (λ e. documents_in t.documents (id.Prev e.number p)) d.prev) refl q (eq_by_cmp path_cmp q p) refl)
  where
    by : (xs : List Document) → filter_map (λ e. documents_in t.documents (id.Prev e.number p)) d.prev ≡ xs → (q : Path) (b : Bool) → eq_by_cmp path_cmp q p ≡ b → moved_in u q ≡ with_moved (moved_in t) p xs q
    by xs are q false h =
        listed_by (λ k. documents_in u.documents (id.Prev k q)) (λ k. documents_in t.documents (id.Prev k q)) (λ k. main.elsewhere.previous k q h) (nodes_in u q)
        ∙ (ap (λ (o : Option Document). option_map_or (λ d. filter_map (λ e. documents_in t.documents (id.Prev e.number q)) d.prev) o []) (main.elsewhere.node q h)
        ∙ sym (ap (λ b. cond b xs (moved_in t q)) h))
    by xs are q true h =
        subst (λ (z : Path). moved_in u z ≡ xs) (sym (same_path q p h))
        (listed_by (λ k. documents_in u.documents (id.Prev k p)) (λ k. documents_in t.documents (id.Prev k p)) main.previous_here (nodes_in u p)
        ∙ (ap (λ (o : Option Document). option_map_or (λ d. filter_map (λ e. documents_in t.documents (id.Prev e.number p)) d.prev) o []) main.at ∙ are))
        ∙ sym (ap (λ b. cond b xs (moved_in t q)) h)

-- a core with a document changed, as the table has it
pub sound_put : (start : Start) (past : Past) (writers : Revision → Writer) (t : Table) (p : Path) (d : Document) (n : ℕ) (xs : List Document) → filter_map (λ e. documents_in t.documents (id.Prev e.number p)) d.prev ≡ xs
    → Sound (record { old = sees start.at; number = n; docs = with_node (nodes_in t) p d; moved = with_moved (moved_in t) p xs; past = past; writers = writers }) → Sound (core_in start past (with_document t (id.Node p) d n) writers)
sound_put start past writers t p d n xs lists sound =
    subst (λ (docs : Path → Option Document). Sound (record { old = sees start.at; number = n; docs = docs; moved = moved_in (with_document t (id.Node p) d n); past = past; writers = writers })) (sym (put_node t p d n))
    (subst (λ (moved : Path → List Document). Sound (record { old = sees start.at; number = n; docs = with_node (nodes_in t) p d; moved = moved; past = past; writers = writers })) (sym (moved_main t (with_document t (id.Node p) d n) p d (put_main t p d n) ∙ ap (with_moved (moved_in t) p) lists)) sound)

-- ---- vectors of the root

pub same_vectors : (keys : List EntryKey) (d : Document) → ((fold pruned d keys).last_rev ≡ d.last_rev) × ((fold pruned d keys).sweep_rev ≡ d.sweep_rev)
same_vectors [] d = (refl, refl)
same_vectors (k ∷ keys) d = let rest = same_vectors keys (pruned d k) in let one = parts k.field k.revision in (rest.0 ∙ one.0, rest.1 ∙ one.1)
  where
    parts : (f : Field) (r : Revision) → ((pruned d (record { field = f; revision = r })).last_rev ≡ d.last_rev) × ((pruned d (record { field = f; revision = r })).sweep_rev ≡ d.sweep_rev)
    parts field.Deleted r = (refl, refl)
    parts field.CommitRoot r = (refl, refl)
    parts field.Revisions r = (refl, refl)
    parts field.Collisions r = (refl, refl)
    parts field.Touched r = (refl, refl)
    parts field.Guard r = (refl, refl)
    parts (field.Prop n) r = (refl, refl)

unlist_vectors : (ns : List ℕ) (d : Document) → ((fold changed d (map change.Unlist ns)).last_rev ≡ d.last_rev) × ((fold changed d (map change.Unlist ns)).sweep_rev ≡ d.sweep_rev)
unlist_vectors [] d = (refl, refl)
unlist_vectors (n ∷ ns) d = unlist_vectors ns (changed d (change.Unlist n))

-- the root is as it was, or has the same vectors
pub root_changed : (clusters : ℕ) (begin : Begin) (past : Past) (t u : Table) (p : Path) (old d : Document) → IsMainAt (documents_in t.documents) (documents_in u.documents) p d → nodes_in t p ≡ Some old → d.last_rev ≡ old.last_rev → d.sweep_rev ≡ old.sweep_rev → IsRootKept begin clusters past t → IsRootKept begin clusters past u
root_changed clusters begin past t u p old d main there last sweep root = by (eq_by_cmp path_cmp [] p) refl
  where
    by : (b : Bool) → eq_by_cmp path_cmp [] p ≡ b → IsRootKept begin clusters past u
    by false h = record { document = root.document; there = main.elsewhere.node [] h ∙ root.there; tells = root.tells; begun = root.begun }
    by true h =
        let one : [] ≡ p = same_path [] p h in
        let its : root.document ≡ old = ap (λ o. unwrap_or o root.document) (sym root.there ∙ (ap (nodes_in t) one ∙ there)) in
        record {
          document = d;
          there = ap (nodes_in u) one ∙ main.at;
          tells = subst (λ (v : Rattle.jr_rev.specs.declared.vector.RevVec.RevVec). Rattle.core_nodes.specs.Nodes.IsOnRoot begin clusters past v d.sweep_rev) (sym last ∙ refl)
              (subst (λ (v : Rattle.jr_rev.specs.declared.vector.RevVec.RevVec). Rattle.core_nodes.specs.Nodes.IsOnRoot begin clusters past old.last_rev v) (sym sweep)
              (subst (λ (x : Document). Rattle.core_nodes.specs.Nodes.IsOnRoot begin clusters past x.last_rev x.sweep_rev) its root.tells));
          begun = subst (λ (v : Rattle.jr_rev.specs.declared.vector.RevVec.RevVec). SeesStarts clusters v) (sym sweep) (subst (λ (x : Document). SeesStarts clusters x.sweep_rev) its root.begun);
        }

-- ---- a pruned document

module _ (ds : Documents) (m t : Rattle.jr_rev.specs.declared.vector.RevVec.RevVec) (p : Path) (old : Document) (op : UpdateOp) (number : ℕ) (keys : List EntryKey) (ns : List ℕ) (drops : DropsGarbage ds m t p old op keys ns) where
  shape : after_changes (Some old) op number ≡ record (fold changed (fold pruned old keys) (map change.Unlist ns)) { mod_count = number }
  shape = ap (λ (cs : List Rattle.oak_doc.specs.declared.update.Change.Change). record (fold changed old cs) { mod_count = number }) drops.changes

  pub pruned_prev : (after_changes (Some old) op number).prev ≡ filter (λ e. not (is_number_of ns e)) old.prev
  pruned_prev = ap (λ (d : Document). d.prev) shape ∙ ((unlisted_from ns (fold pruned old keys)).prev ∙ ap (filter (λ x. not (is_number_of ns x))) (same_parts keys old).0)

  pub pruned_last : (after_changes (Some old) op number).last_rev ≡ old.last_rev
  pruned_last = ap (λ (d : Document). d.last_rev) shape ∙ ((unlist_vectors ns (fold pruned old keys)).0 ∙ (same_vectors keys old).0)

  pub pruned_sweep : (after_changes (Some old) op number).sweep_rev ≡ old.sweep_rev
  pruned_sweep = ap (λ (d : Document). d.sweep_rev) shape ∙ ((unlist_vectors ns (fold pruned old keys)).1 ∙ (same_vectors keys old).1)

-- ---- a document that goes

pub taken_is : (t : Table) (i j : DocId) → is_sorted id_cmp t.documents ≡ true → documents_in (without t i).documents j ≡ cond (eq_by_cmp id_cmp j i) None (documents_in t.documents j)
taken_is t i j sorted = lookup-remove id_cmp id_total j i t.documents sorted

-- ---- lists

-- what is found of a list was listed
pub in_listed : (f : PrevEntry → Option Document) (es : List PrevEntry) (x : Document) → IsIn x (filter_map f es) → (e : PrevEntry) × IsIn e es × (f e ≡ Some x)
in_listed f [] x i = absurd i
in_listed f (e ∷ es) x i = by (f e) refl i (in_listed f es x)
  where
    by : (o : Option Document) → f e ≡ o → IsIn x (cons_option o (filter_map f es)) → (IsIn x (filter_map f es) → (e : PrevEntry) × IsIn e es × (f e ≡ Some x)) → (d : PrevEntry) × IsIn d (e ∷ es) × (f d ≡ Some x)
    by None h j rest = let r = rest j in (r.0, inr r.1, r.2)
    by (Some y) h (inr j) rest = let r = rest j in (r.0, inr r.1, r.2)
    by (Some y) h (inl one) rest = (e, inl refl, h ∙ ap (λ z. Some z) one)

-- of some entries, without those of some numbers
pub filter_listed : (f : PrevEntry → Option Document) (pass : PrevEntry → Bool) (keep : Document → Bool) (es : List PrevEntry) → ((e : PrevEntry) → IsIn e es → (x : Document) → f e ≡ Some x → keep x ≡ pass e) → filter_map f (filter pass es) ≡ filter keep (filter_map f es)
filter_listed f pass keep [] same = refl
filter_listed f pass keep (e ∷ es) same = by (f e) refl (pass e) refl (filter_listed f pass keep es (λ d i. same d (inr i)))
  where
    by : (o : Option Document) → f e ≡ o → (b : Bool) → pass e ≡ b → filter_map f (filter pass es) ≡ filter keep (filter_map f es)
        → filter_map f (cond b (e ∷ filter pass es) (filter pass es)) ≡ filter keep (cons_option o (filter_map f es))
    by None h true k rest = ap (λ (o : Option Document). cons_option o (filter_map f (filter pass es))) h ∙ rest
    by None h false k rest = rest
    by (Some y) h true k rest = ap (λ (o : Option Document). cons_option o (filter_map f (filter pass es))) h ∙ (ap (λ l. y ∷ l) rest ∙ sym (ap (λ b. cond b (y ∷ filter keep (filter_map f es)) (filter keep (filter_map f es))) (same e (inl refl) y h ∙ k)))
    by (Some y) h false k rest = rest ∙ sym (ap (λ b. cond b (y ∷ filter keep (filter_map f es)) (filter keep (filter_map f es))) (same e (inl refl) y h ∙ k))
