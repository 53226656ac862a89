-- The documents that a commit writes: those of the marked nodes, each once.
use Rattle.std.proofs.Common.{◌≡◌, ◌⊎◌, inl, inr, Bool, true, false, cond, ◌||◌, Some, None, Option, List, [], ◌∷◌, is_some, refl, sym, ap, subst, ◌∙◌}
use Rattle.std.specs.Option.{option_or}
use Rattle.std.specs.Ordering.{eq_by_cmp, is_eq, is_lt, match_ordering}
use Rattle.std.specs.Cmp.{tied_itself}
use Rattle.std.specs.List.{fold, list_any}
use Rattle.std.specs.Map.{keys_of}
use Rattle.std.specs.BTreeMap.{insert_entry}
use Rattle.std.specs.FinMap.{is_sorted}
use Rattle.std.specs.FinMap.Entries.{below_all}
use Rattle.std.specs.declared.cmp.Ordering.{Ordering}
use Rattle.std.specs.declared.cmp.Ordering.TheVariants.{Less, Equal, Greater}
use mathlib.Core.Bool.{false≢true}
use Rattle.jr_path.specs.Ids.{id_cmp}
use Rattle.jr_path.specs.Names.{name_cmp}
use Rattle.jr_path.specs.declared.name.Name.{Name}
use Rattle.jr_path.specs.declared.path.Path.{Path}
use Rattle.jr_path.specs.declared.path.DocId.{DocId}
use Rattle.jr_path.specs.declared.path.DocId.TheVariants as id
use Rattle.jr_path.proofs.Orders.{id_exact, id_total}
use Rattle.jr_tree.specs.declared.edit.Write.{Write}
use Rattle.jr_tree.specs.declared.edit.Write.TheVariants.{Here, Gone, Put, Unset}
use Rattle.oak_clash.specs.declared.mark.MarkAt.{MarkAt}
use Rattle.oak_commit.specs.Writing.{written_ids}
use Rattle.core_read.specs.Commits.{Each}
use Rattle.core_read.specs.Holds.{is_at_path}
use Rattle.jr_tree.specs.Items.{here_of, put_of, written}
use Rattle.core_read.specs.Told.{IsIn}
use Rattle.core_read.proofs.Entries.{first, second, sorted_insert}
use Rattle.core_world.proofs.Tables.{one_id}

-- the document of a node that one of the marks is at
abbrev pub IsMarked : List MarkAt → DocId → Type 0
IsMarked marks i = (p : Path) × (i ≡ id.Node p) × (m : MarkAt) × IsIn m marks × (m.path ≡ p)

-- no id stands twice
abbrev pub AreDistinct : List DocId → Type 0
AreDistinct [] = Unit {0}
AreDistinct (i ∷ is) = Each (λ j. eq_by_cmp id_cmp j i ≡ false) is × AreDistinct is

abbrev Marked : Type 0
Marked = List (DocId × Bool)

each_insert : (P : DocId → Type 0) (k : DocId) (v : Bool) (es : Marked) → P k → Each (λ e. P e.0) es → Each (λ e. P e.0) (insert_entry id_cmp es k v)
each_insert P k v [] p h = (p, tt)
each_insert P k v (e ∷ es) p h =
    elim (id_cmp k e.0) as (λ o. Each (λ e. P e.0) (match_ordering o ((k, v) ∷ e ∷ es) ((e.0, v) ∷ es) (e ∷ insert_entry id_cmp es k v))) [
      | Less ↦ (p, h)
      | Equal ↦ (h.0, h.1)
      | Greater ↦ (h.0, each_insert P k v es p h.1)
    ]

has_inserted : (k : DocId) (v : Bool) (es : Marked) → IsIn k (keys_of (insert_entry id_cmp es k v))
has_inserted k v [] = inl refl
has_inserted k v (e ∷ es) = by (has_inserted k v es) (id_cmp k e.0) refl
  where
    by : IsIn k (keys_of (insert_entry id_cmp es k v)) → (o : Ordering) → id_cmp k e.0 ≡ o → IsIn k (keys_of (match_ordering o ((k, v) ∷ e ∷ es) ((e.0, v) ∷ es) (e ∷ insert_entry id_cmp es k v)))
    by rest Less h = inl refl
    by rest Equal h = inl (sym (id_exact k e.0 h))
    by rest Greater h = inr rest

still_in : (j k : DocId) (v : Bool) (es : Marked) → IsIn j (keys_of es) → IsIn j (keys_of (insert_entry id_cmp es k v))
still_in j k v [] h = absurd h
still_in j k v (e ∷ es) h =
    elim (id_cmp k e.0) as (λ o. IsIn j (keys_of (match_ordering o ((k, v) ∷ e ∷ es) ((e.0, v) ∷ es) (e ∷ insert_entry id_cmp es k v)))) [
      | Less ↦ inr h
      | Equal ↦ elim h [ inl p ↦ inl p | inr i ↦ inr i ]
      | Greater ↦ elim h [ inl p ↦ inl p | inr i ↦ inr (still_in j k v es i) ]
    ]

module _ (marks : List MarkAt) where
  abbrev with_mark : Marked → MarkAt → Marked
  with_mark es m = insert_entry id_cmp es (id.Node m.path) true

  each_marked : (ms : List MarkAt) (es : Marked) → ((m : MarkAt) → IsIn m ms → IsIn m marks) → Each (λ e. IsMarked marks e.0) es → Each (λ e. IsMarked marks e.0) (fold with_mark es ms)
  each_marked [] es of h = h
  each_marked (m ∷ ms) es of h = each_marked ms (with_mark es m) (λ n i. of n (inr i)) (each_insert (IsMarked marks) (id.Node m.path) true es (m.path, refl, m, of m (inl refl), refl) h)

sorted_marked : (ms : List MarkAt) (es : Marked) → is_sorted id_cmp es ≡ true → is_sorted id_cmp (fold (λ es m. insert_entry id_cmp es (id.Node m.path) true) es ms) ≡ true
sorted_marked [] es h = h
sorted_marked (m ∷ ms) es h = sorted_marked ms (insert_entry id_cmp es (id.Node m.path) true) (sorted_insert id_cmp id_total (id.Node m.path) true es h)

all_marked : (ms : List MarkAt) (es : Marked) (i : DocId) → IsIn i (keys_of es) → IsIn i (keys_of (fold (λ es m. insert_entry id_cmp es (id.Node m.path) true) es ms))
all_marked [] es i h = h
all_marked (m ∷ ms) es i h = all_marked ms (insert_entry id_cmp es (id.Node m.path) true) i (still_in i (id.Node m.path) true es h)

has_marked : (ms : List MarkAt) (es : Marked) (m : MarkAt) → IsIn m ms → IsIn (id.Node m.path) (keys_of (fold (λ es m. insert_entry id_cmp es (id.Node m.path) true) es ms))
has_marked [] es m h = absurd h
has_marked (n ∷ ms) es m (inl e) = all_marked ms (insert_entry id_cmp es (id.Node n.path) true) (id.Node m.path) (subst (λ (x : MarkAt). IsIn (id.Node x.path) (keys_of (insert_entry id_cmp es (id.Node n.path) true))) e (has_inserted (id.Node n.path) true es))
has_marked (n ∷ ms) es m (inr i) = has_marked ms (insert_entry id_cmp es (id.Node n.path) true) m i

each_key : (P : DocId → Type 0) (es : Marked) → Each (λ e. P e.0) es → Each P (keys_of es)
each_key P [] h = tt
each_key P (e ∷ es) h = (h.0, each_key P es h.1)

below_apart : (i : DocId) (es : Marked) → below_all id_cmp i es ≡ true → Each (λ j. eq_by_cmp id_cmp j i ≡ false) (keys_of es)
below_apart i [] h = tt
below_apart i (e ∷ es) h = (by (eq_by_cmp id_cmp e.0 i) refl, below_apart i es (second _ _ h))
  where
    by : (b : Bool) → eq_by_cmp id_cmp e.0 i ≡ b → b ≡ false
    by false k = refl
    by true k = absurd (false≢true (sym (ap is_lt (tied_itself id_total i)) ∙ subst (λ (x : DocId). is_lt (id_cmp i x) ≡ true) (one_id e.0 i k) (first _ _ h)))

sorted_distinct : (es : Marked) → is_sorted id_cmp es ≡ true → AreDistinct (keys_of es)
sorted_distinct [] h = tt
sorted_distinct (e ∷ es) h = (below_apart e.0 es (first _ _ h), sorted_distinct es (second _ _ h))

pub ids_marked : (marks : List MarkAt) → Each (IsMarked marks) (written_ids marks)
ids_marked marks = each_key (IsMarked marks) (fold (λ es m. insert_entry id_cmp es (id.Node m.path) true) [] marks) (each_marked marks marks [] (λ m i. i) tt)

pub ids_distinct : (marks : List MarkAt) → AreDistinct (written_ids marks)
ids_distinct marks = sorted_distinct (fold (λ es m. insert_entry id_cmp es (id.Node m.path) true) [] marks) (sorted_marked marks [] refl)

pub ids_all : (marks : List MarkAt) (m : MarkAt) → IsIn m marks → IsIn (id.Node m.path) (written_ids marks)
ids_all marks m h = has_marked marks [] m h

-- ---- each node that is written is marked

or_some : {X : Type 0} (a b : Option X) → is_some b ≡ true → is_some (option_or a b) ≡ true
or_some None b h = h
or_some (Some x) b h = refl

or_still : {X : Type 0} (a b : Option X) → is_some a ≡ true → is_some (option_or a b) ≡ true
or_still None b h = absurd (false≢true h)
or_still (Some x) b h = refl

abbrev pub IsWrittenIn : Path → List Write → Type 0
IsWrittenIn p ws = (is_some (written (here_of p) ws) ≡ true) ⊎ ((n : Name) × (is_some (written (put_of p n) ws) ≡ true))

name_self : (n : Name) → eq_by_cmp name_cmp n n ≡ true
name_self n = ap is_eq (tied_itself Rattle.std.proofs.lemmas.Cmp.nat_list_cmp_total n)

chosen_some : {X : Type 0} (b : Bool) (x : X) → b ≡ true → is_some (cond b (Some x) None) ≡ true
chosen_some true x h = refl
chosen_some false x h = absurd (false≢true h)

by_write : (p : Path) (w : Write) (ws : List Write) → is_at_path p w ≡ true → IsWrittenIn p (w ∷ ws)
by_write p (Here q) ws h = inl (or_some (written (here_of p) ws) _ (chosen_some _ true h))
by_write p (Gone q) ws h = inl (or_some (written (here_of p) ws) _ (chosen_some _ false h))
by_write p (Put q m x) ws h = inr (m, or_some (written (put_of p m) ws) _ (chosen_some _ (Some x) (Rattle.core_read.proofs.Entries.both _ _ h (name_self m))))
by_write p (Unset q m) ws h = inr (m, or_some (written (put_of p m) ws) _ (chosen_some _ None (Rattle.core_read.proofs.Entries.both _ _ h (name_self m))))

pub written_at : (p : Path) (ws : List Write) → list_any (is_at_path p) ws ≡ true → IsWrittenIn p ws
written_at p [] h = absurd (false≢true h)
written_at p (w ∷ ws) h = by (λ k. written_at p ws k) (is_at_path p w) refl h
  where
    more : IsWrittenIn p ws → IsWrittenIn p (w ∷ ws)
    more (inl k) = inl (or_still (written (here_of p) ws) (here_of p w) k)
    more (inr k) = inr (k.0, or_still (written (put_of p k.0) ws) (put_of p k.0 w) k.1)

    by : (list_any (is_at_path p) ws ≡ true → IsWrittenIn p ws) → (b : Bool) → is_at_path p w ≡ b → (b || list_any (is_at_path p) ws) ≡ true → IsWrittenIn p (w ∷ ws)
    by rest true k h = by_write p w ws k
    by rest false k h = more (rest h)
