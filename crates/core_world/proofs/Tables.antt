-- The documents of the nodes in a table, after a change of one of them.
use Rattle.std.proofs.Common.{◌≡◌, ℕ, Bool, true, false, cond, Some, None, Option, List, [], ◌∷◌, is_some, refl, sym, ap, subst, ◌∙◌}
use Rattle.std.proofs.Math.Path.{fun_ext}
use Rattle.std.specs.Option.{option_map_or}
use Rattle.std.specs.Ordering.{is_eq, eq_by_cmp}
use Rattle.std.specs.Map.{lookup, set_value}
use Rattle.std.specs.BTreeMap.{is_at}
use Rattle.std.specs.Cmp.{tied_itself}
use mathlib.Core.Bool.{false≢true}
use Rattle.jr_path.specs.Ids.{id_cmp}
use Rattle.jr_path.specs.Names.{path_cmp}
use Rattle.jr_path.specs.declared.path.Path.{Path}
use Rattle.jr_path.specs.declared.path.DocId.{DocId}
use Rattle.jr_path.specs.declared.path.DocId.TheVariants as id
use Rattle.jr_path.proofs.Maps.{lookup-insert_entry, path_total}
use Rattle.jr_path.proofs.Orders.{id_exact, id_total}
use Rattle.jr_rev.specs.declared.revision.Revision.{Revision}
use Rattle.oak_doc.specs.declared.document.Document.{Document}
use Rattle.oak_doc.specs.Updates.{undone}
use Rattle.oak_read.specs.Meaning.{documents_in}
use Rattle.oak_store.specs.Tables.{Table, after_undo, found, next_number, with_document}
use Rattle.core_read.specs.Holds.{IsWrite}
use Rattle.core_read.proofs.Entries.{exactly}
use Rattle.core_clash.specs.Core.{with_document as with_node}
use Rattle.core_keep.specs.Steps.{IsMainAt}
use Rattle.oak_read.specs.Meaning.{Documents}
use Rattle.std.specs.List.{filter_map}
use Rattle.core_world.specs.States.{listed_at, moved_in, nodes_in}

-- ---- ids

pub one_id : (i j : DocId) → eq_by_cmp id_cmp i j ≡ true → i ≡ j
one_id i j h = id_exact i j (exactly (id_cmp i j) h)

pub id_itself : (i : DocId) → eq_by_cmp id_cmp i i ≡ true
id_itself i = ap is_eq (tied_itself id_total i)

pub path_itself : (p : Path) → eq_by_cmp path_cmp p p ≡ true
path_itself p = ap is_eq (tied_itself path_total p)

-- the path of a node's document, or another
abbrev path_in : DocId → Path → Path
path_in (id.Node p) q = p
path_in i q = q

pub other_node : (q p : Path) → eq_by_cmp path_cmp q p ≡ false → eq_by_cmp id_cmp (id.Node q) (id.Node p) ≡ false
other_node q p h = by (eq_by_cmp id_cmp (id.Node q) (id.Node p)) refl
  where
    by : (b : Bool) → eq_by_cmp id_cmp (id.Node q) (id.Node p) ≡ b → b ≡ false
    by false k = refl
    by true k = absurd (false≢true (sym h ∙ subst (λ (x : Path). eq_by_cmp path_cmp q x ≡ true) (ap (λ i. path_in i p) (one_id (id.Node q) (id.Node p) k)) (path_itself q)))

pub same_node : (q p : Path) → eq_by_cmp id_cmp (id.Node q) (id.Node p) ≡ eq_by_cmp path_cmp q p
same_node q p = by (eq_by_cmp path_cmp q p) refl
  where
    by : (b : Bool) → eq_by_cmp path_cmp q p ≡ b → eq_by_cmp id_cmp (id.Node q) (id.Node p) ≡ b
    by false h = other_node q p h
    by true h = subst (λ (x : Path). eq_by_cmp id_cmp (id.Node q) (id.Node x) ≡ true) (Rattle.jr_path.proofs.Maps.path_exact q p (exactly (path_cmp q p) h)) (id_itself (id.Node q))

-- ---- a document is put in

-- the documents of a table, that of an id taken for another
abbrev pub put_at : List (DocId × Document) → DocId → Document → DocId → Option Document
put_at es i d j = cond (eq_by_cmp id_cmp j i) (Some d) (documents_in es j)

pub put_is : (t : Table) (i : DocId) (d : Document) (n : ℕ) (j : DocId) → documents_in (with_document t i d n).documents j ≡ put_at t.documents i d j
put_is t i d n j = lookup-insert_entry id_cmp id_total j i d t.documents

pub put_node : (t : Table) (p : Path) (d : Document) (n : ℕ) → nodes_in (with_document t (id.Node p) d n) ≡ with_node (nodes_in t) p d
put_node t p d n = fun_ext (λ q. put_is t (id.Node p) d n (id.Node q) ∙ ap (λ b. cond b (Some d) (documents_in t.documents (id.Node q))) (same_node q p))

pub put_write : (t : Table) (p : Path) (d : Document) (n : ℕ) → IsWrite (documents_in t.documents) (documents_in (with_document t (id.Node p) d n).documents) p d
put_write t p d n = record {
  at = put_is t (id.Node p) d n (id.Node p) ∙ ap (λ b. cond b (Some d) (documents_in t.documents (id.Node p))) (id_itself (id.Node p));
  else_ = λ q h. put_is t (id.Node p) d n (id.Node q) ∙ ap (λ b. cond b (Some d) (documents_in t.documents (id.Node q))) (other_node q p h);
}

-- a node's document is no previous one
other_kind : (k : ℕ) (q p : Path) → eq_by_cmp id_cmp (id.Prev k q) (id.Node p) ≡ false
other_kind k q p = by (eq_by_cmp id_cmp (id.Prev k q) (id.Node p)) refl
  where
    never : id.Prev k q ≡ id.Node p → ⊥
    never h = cc

    by : (b : Bool) → eq_by_cmp id_cmp (id.Prev k q) (id.Node p) ≡ b → b ≡ false
    by false h = refl
    by true h = absurd (never (one_id (id.Prev k q) (id.Node p) h))

-- the node's document alone is changed
main_from : (ds now : Documents) (p : Path) (d : Document) → ((j : DocId) → now j ≡ cond (eq_by_cmp id_cmp j (id.Node p)) (Some d) (ds j)) → IsMainAt ds now p d
main_from ds now p d put = record {
  elsewhere = record {
    node = λ q h. put (id.Node q) ∙ ap (λ b. cond b (Some d) (ds (id.Node q))) (other_node q p h);
    previous = λ k q h. put (id.Prev k q) ∙ ap (λ b. cond b (Some d) (ds (id.Prev k q))) (other_kind k q p);
  };
  at = put (id.Node p) ∙ ap (λ b. cond b (Some d) (ds (id.Node p))) (id_itself (id.Node p));
  previous_here = λ k. put (id.Prev k p) ∙ ap (λ b. cond b (Some d) (ds (id.Prev k p))) (other_kind k p p);
}

-- what is listed stays, where the changed document lists what it listed
abbrev lists_in : Documents → Path → List Document
lists_in ds p = option_map_or (λ d. filter_map (λ e. ds (id.Prev e.number p)) d.prev) (ds (id.Node p)) []

listed_stay : (ds now : Documents) (p : Path) (d : Document) → IsMainAt ds now p d → d.prev ≡ option_map_or (λ d. d.prev) (ds (id.Node p)) [] → (q : Path) → lists_in now q ≡ lists_in ds q
listed_stay ds now p d main same q = ap (λ (f : ℕ → Option Document). option_map_or (λ d. filter_map (λ e. f e.number) d.prev) (now (id.Node q)) []) (fun_ext (λ k. previous k)) ∙ by (eq_by_cmp path_cmp q p) refl
  where
    previous : (k : ℕ) → now (id.Prev k q) ≡ ds (id.Prev k q)
    previous k = at (eq_by_cmp path_cmp q p) refl
      where
        at : (b : Bool) → eq_by_cmp path_cmp q p ≡ b → now (id.Prev k q) ≡ ds (id.Prev k q)
        at false h = main.elsewhere.previous k q h
        at true h = subst (λ (z : Path). now (id.Prev k z) ≡ ds (id.Prev k z)) (sym (Rattle.jr_path.proofs.Maps.path_exact q p (exactly (path_cmp q p) h))) (main.previous_here k)

    here : (z : Path) (o : Option Document) → filter_map (λ e. ds (id.Prev e.number z)) (option_map_or (λ d. d.prev) o []) ≡ option_map_or (λ d. filter_map (λ e. ds (id.Prev e.number z)) d.prev) o []
    here z None = refl
    here z (Some old) = refl

    by : (b : Bool) → eq_by_cmp path_cmp q p ≡ b → option_map_or (λ d. filter_map (λ e. ds (id.Prev e.number q)) d.prev) (now (id.Node q)) [] ≡ lists_in ds q
    by false h = ap (λ (o : Option Document). option_map_or (λ d. filter_map (λ e. ds (id.Prev e.number q)) d.prev) o []) (main.elsewhere.node q h)
    by true h =
        let one : q ≡ p = Rattle.jr_path.proofs.Maps.path_exact q p (exactly (path_cmp q p) h) in
        subst (λ (z : Path). option_map_or (λ d. filter_map (λ e. ds (id.Prev e.number z)) d.prev) (now (id.Node z)) [] ≡ lists_in ds z) (sym one)
        (ap (λ (o : Option Document). option_map_or (λ d. filter_map (λ e. ds (id.Prev e.number p)) d.prev) o []) main.at
        ∙ (ap (filter_map (λ e. ds (id.Prev e.number p))) same ∙ here p (ds (id.Node p))))

pub put_main : (t : Table) (p : Path) (d : Document) (n : ℕ) → IsMainAt (documents_in t.documents) (documents_in (with_document t (id.Node p) d n).documents) p d
put_main t p d n = main_from (documents_in t.documents) (documents_in (with_document t (id.Node p) d n).documents) p d (put_is t (id.Node p) d n)

pub moved_stays : (t u : Table) (p : Path) (d : Document) → IsMainAt (documents_in t.documents) (documents_in u.documents) p d → d.prev ≡ option_map_or (λ d. d.prev) (nodes_in t p) [] → moved_in u ≡ moved_in t
moved_stays t u p d main same = fun_ext (λ q. listed_stay (documents_in t.documents) (documents_in u.documents) p d main same q)

-- what each document lists stays
pub lists_stay : (t u : Table) (p : Path) (d : Document) → IsMainAt (documents_in t.documents) (documents_in u.documents) p d → d.prev ≡ listed_at t p → listed_at u ≡ listed_at t
lists_stay t u p d main same = fun_ext (λ q. by q (eq_by_cmp path_cmp q p) refl)
  where
    by : (q : Path) (b : Bool) → eq_by_cmp path_cmp q p ≡ b → listed_at u q ≡ listed_at t q
    by q false h = ap (λ (o : Option Document). option_map_or (λ d. d.prev) o []) (main.elsewhere.node q h)
    by q true h =
        subst (λ (z : Path). listed_at u z ≡ listed_at t z) (sym (Rattle.jr_path.proofs.Maps.path_exact q p (exactly (path_cmp q p) h)))
        (ap (λ (o : Option Document). option_map_or (λ d. d.prev) o []) main.at ∙ same)

-- ---- a document's value is set

pub set_at : (i j : DocId) (w : Document) (es : List (DocId × Document)) → is_some (lookup (is_at (id_cmp j)) es) ≡ true → lookup (is_at (id_cmp i)) (set_value (is_at (id_cmp j)) es w) ≡ cond (eq_by_cmp id_cmp i j) (Some w) (lookup (is_at (id_cmp i)) es)
set_at i j w [] h = absurd (false≢true h)
set_at i j w (e ∷ es) h = by (λ s. set_at i j w es s) (eq_by_cmp id_cmp j e.0) refl h (eq_by_cmp id_cmp i j) refl
  where
    at : DocId → Option Document
    at x = lookup (is_at (id_cmp x)) es

    same : eq_by_cmp id_cmp j e.0 ≡ true → eq_by_cmp id_cmp i e.0 ≡ eq_by_cmp id_cmp i j
    same k = ap (λ (x : DocId). eq_by_cmp id_cmp i x) (sym (one_id j e.0 k))

    apart : (c : Bool) → eq_by_cmp id_cmp j e.0 ≡ false → eq_by_cmp id_cmp i j ≡ true → eq_by_cmp id_cmp i e.0 ≡ c → c ≡ false
    apart false n k a = refl
    apart true n k a = absurd (false≢true (sym n ∙ subst (λ (x : DocId). eq_by_cmp id_cmp x e.0 ≡ true) (one_id i j k) a))

    by : (is_some (at j) ≡ true → lookup (is_at (id_cmp i)) (set_value (is_at (id_cmp j)) es w) ≡ cond (eq_by_cmp id_cmp i j) (Some w) (at i)) → (b : Bool) → eq_by_cmp id_cmp j e.0 ≡ b → is_some (cond b (Some e.1) (at j)) ≡ true → (c : Bool) → eq_by_cmp id_cmp i j ≡ c
        → lookup (is_at (id_cmp i)) (cond b ((e.0, w) ∷ es) (e ∷ set_value (is_at (id_cmp j)) es w)) ≡ cond c (Some w) (cond (eq_by_cmp id_cmp i e.0) (Some e.1) (at i))
    by rest true k s true c = ap (λ b. cond b (Some w) (at i)) (same k ∙ c)
    by rest true k s false c = ap (λ b. cond b (Some w) (at i)) (same k ∙ c) ∙ sym (ap (λ b. cond b (Some e.1) (at i)) (same k ∙ c))
    by rest false k s true c = ap (λ b. cond b (Some e.1) (lookup (is_at (id_cmp i)) (set_value (is_at (id_cmp j)) es w))) (apart _ k c refl) ∙ (rest s ∙ ap (λ b. cond b (Some w) (at i)) c)
    by rest false k s false c = ap (cond (eq_by_cmp id_cmp i e.0) (Some e.1)) (rest s ∙ ap (λ b. cond b (Some w) (at i)) c)

-- ---- undoing

module _ (t : Table) (p : Path) (r : Revision) where
  -- where there is no document, nothing is changed
  pub undo_none : found t (id.Node p) ≡ None → (after_undo t (id.Node p) r).documents ≡ t.documents
  undo_none is = ap (λ o. option_map_or (λ d. set_value (is_at (id_cmp (id.Node p))) t.documents (undone d r (next_number t))) o t.documents) is

  pub undo_table : (d : Document) → found t (id.Node p) ≡ Some d → (after_undo t (id.Node p) r).documents ≡ set_value (is_at (id_cmp (id.Node p))) t.documents (undone d r (next_number t))
  undo_table d is = ap (λ o. option_map_or (λ d. set_value (is_at (id_cmp (id.Node p))) t.documents (undone d r (next_number t))) o t.documents) is

  pub undo_at : (d : Document) → found t (id.Node p) ≡ Some d → (i : DocId) → documents_in (after_undo t (id.Node p) r).documents i ≡ put_at t.documents (id.Node p) (undone d r (next_number t)) i
  undo_at d is i = ap (λ (es : List (DocId × Document)). documents_in es i) (undo_table d is) ∙ set_at i (id.Node p) (undone d r (next_number t)) t.documents (ap is_some is)

  pub undo_node : (d : Document) → found t (id.Node p) ≡ Some d → nodes_in (after_undo t (id.Node p) r) ≡ with_node (nodes_in t) p (undone d r (next_number t))
  undo_node d is = fun_ext (λ q. undo_at d is (id.Node q) ∙ ap (λ b. cond b (Some (undone d r (next_number t))) (documents_in t.documents (id.Node q))) (same_node q p))

  pub undo_write : (d : Document) → found t (id.Node p) ≡ Some d → IsWrite (documents_in t.documents) (documents_in (after_undo t (id.Node p) r).documents) p (undone d r (next_number t))
  undo_write d is = record {
    at = undo_at d is (id.Node p) ∙ ap (λ b. cond b (Some (undone d r (next_number t))) (documents_in t.documents (id.Node p))) (id_itself (id.Node p));
    else_ = λ q h. undo_at d is (id.Node q) ∙ ap (λ b. cond b (Some (undone d r (next_number t))) (documents_in t.documents (id.Node q))) (other_node q p h);
  }

  pub undo_main : (d : Document) → found t (id.Node p) ≡ Some d → IsMainAt (documents_in t.documents) (documents_in (after_undo t (id.Node p) r).documents) p (undone d r (next_number t))
  undo_main d is = main_from (documents_in t.documents) (documents_in (after_undo t (id.Node p) r).documents) p (undone d r (next_number t)) (undo_at d is)
