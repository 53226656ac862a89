-- Documents in store order: which node's document stands next behind an id, and what a change of another leaves there.
use Rattle.std.proofs.Common.{◌≡◌, ◌≢◌, Bool, true, false, cond, List, [], ◌∷◌, Option, Some, None, refl, sym, ap, ◌∙◌, subst}
use Rattle.std.specs.Prelude.{◌&&◌, not, slice_get}
use Rattle.std.specs.List.{AllByRecursion, filter}
use Rattle.std.specs.List.Sorted.{IsStrictlySortedBy}
use Rattle.std.specs.Map.{keys_of, remove_entry}
use Rattle.std.specs.Ordering.{is_eq, is_lt, match_ordering, ordering_reverse}
use Rattle.std.specs.BTreeMap.{insert_entry, is_at}
use Rattle.std.specs.BTreeMap.Range.{entries_between, range_contains}
use Rattle.std.specs.declared.cmp.Ordering.{Ordering}
use Rattle.std.specs.declared.cmp.Ordering.TheVariants.{Less, Equal, Greater}
use Rattle.std.specs.declared.ops.Bound.TheVariants.{Excluded, Unbounded}
use Rattle.std.proofs.lemmas.Cmp.{tied_itself}
use Rattle.jr_path.specs.Ids.{id_cmp}
use Rattle.jr_path.specs.declared.path.DocId.{DocId}
use Rattle.jr_path.specs.declared.path.DocId.TheVariants as id
use Rattle.jr_path.proofs.Orders.{id_exact, id_total}
use Rattle.oak_read.proofs.Walking.{same_id}
use Rattle.oak_gc.proofs.Ordered.{above_too}
use Rattle.oak_doc.specs.declared.document.Document.{Document}

abbrev pub Entries : Type 0
Entries = List (DocId × Document)

abbrev pub is_node : DocId → Bool
is_node (id.Node p) = true
is_node (id.Prev n p) = false
is_node id.Settings = false

abbrev pub passes : DocId → DocId → Bool
passes x y = range_contains id_cmp (Excluded x) Unbounded y

-- a node's document behind an id; behind none, each node's document
abbrev pub comes : Option DocId → DocId → Bool
comes None y = is_node y
comes (Some x) y = is_node y && passes x y

-- the documents behind an id; behind none, all
abbrev pub behind : Option DocId → Entries → Entries
behind None es = es
behind (Some x) es = entries_between id_cmp (Excluded x) Unbounded es

-- the nodes' documents among them
abbrev pub left : Option DocId → Entries → Entries
left x es = filter (λ e. comes x e.0) es

-- ---- the order

less_passes : (x y : DocId) → passes x y ≡ true → id_cmp x y ≡ Less
less_passes x y h = by (id_cmp x y) h
  where
    by : (o : Ordering) → (is_lt o && not false) ≡ true → o ≡ Less
    by Less e = refl
    by Equal e = cc
    by Greater e = cc

passes_less : (x y : DocId) → id_cmp x y ≡ Less → passes x y ≡ true
passes_less x y h = ap (λ o. is_lt o && not false) h

passes_not : (x y : DocId) → id_cmp x y ≢ Less → passes x y ≡ false
passes_not x y h = by (id_cmp x y) h
  where
    by : (o : Ordering) → o ≢ Less → (is_lt o && not false) ≡ false
    by Less e = absurd (e refl)
    by Equal e = refl
    by Greater e = refl

pub not_itself : (x : DocId) → passes x x ≡ false
not_itself x = passes_not x x (λ l. let k : Less ≡ Equal = sym l ∙ tied_itself id_total x in cc)

not_below : (x y : DocId) → id_cmp x y ≡ Less → passes y x ≡ false
not_below x y less = passes_not y x (λ l. let k : Less ≡ Greater = sym l ∙ (id_total.antisymm y x ∙ ap ordering_reverse less) in cc)

-- behind a document that is no node's stands no node's
no_node_above : (x y : DocId) → is_node x ≡ false → id_cmp x y ≡ Less → is_node y ≡ false
no_node_above (id.Node p) y other less = cc
no_node_above (id.Prev n p) (id.Node q) other less = cc
no_node_above (id.Prev n p) (id.Prev m q) other less = refl
no_node_above (id.Prev n p) id.Settings other less = refl
no_node_above id.Settings (id.Node q) other less = cc
no_node_above id.Settings (id.Prev m q) other less = refl
no_node_above id.Settings id.Settings other less = refl

none_comes : (o : Option DocId) (y : DocId) → is_node y ≡ false → comes o y ≡ false
none_comes None y other = other
none_comes (Some x) y other = ap (λ b. b && passes x y) other

none_left : (o : Option DocId) (x : DocId) → is_node x ≡ false → (es : Entries) → AllByRecursion (λ y. id_cmp x y ≡ Less) (keys_of es) → left o es ≡ []
none_left o x other [] h = refl
none_left o x other (e ∷ es) h = ap (λ b. cond b (e ∷ left o es) (left o es)) (none_comes o e.0 (no_node_above x e.0 other h.0)) ∙ none_left o x other es h.1

-- what is so of each is so of one that is left
pub of_left : (o : Option DocId) (P : DocId × Document → Type 0) (es : Entries) → AllByRecursion P es → AllByRecursion P (left o es)
of_left o P [] h = tt
of_left o P (e ∷ es) h = by (comes o e.0) (of_left o P es h.1)
  where
    by : (b : Bool) → AllByRecursion P (left o es) → AllByRecursion P (cond b (e ∷ left o es) (left o es))
    by true rest = (h.0, rest)
    by false rest = rest

-- and of the first that is found
pub of_first : (o : Option DocId) (P : DocId × Document → Type 0) (es : Entries) → AllByRecursion P es → (e : DocId × Document) → slice_get (behind o es) 0 ≡ Some e → P e
of_first None P [] all e h = cc
of_first None P (f ∷ fs) all e h = let same : f ≡ e = cc in subst P same all.0
of_first (Some x) P [] all e h = cc
of_first (Some x) P (f ∷ fs) all e h = by (passes x f.0) h (λ h'. of_first (Some x) P fs all.1 e h')
  where
    by : (p : Bool) → slice_get (cond p (f ∷ behind (Some x) fs) (behind (Some x) fs)) 0 ≡ Some e → (slice_get (behind (Some x) fs) 0 ≡ Some e → P e) → P e
    by true h' rest = let same : f ≡ e = cc in subst P same all.0
    by false h' rest = rest h'

-- only nodes' documents are left
pub nodes_left : (o : Option DocId) (es : Entries) → AllByRecursion (λ (e : DocId × Document). is_node e.0 ≡ true) (left o es)
nodes_left o [] = tt
nodes_left None (e ∷ es) = by (is_node e.0) refl (nodes_left None es)
  where
    by : (n : Bool) → is_node e.0 ≡ n → AllByRecursion (λ (e : DocId × Document). is_node e.0 ≡ true) (left None es) → AllByRecursion (λ (e : DocId × Document). is_node e.0 ≡ true) (cond n (e ∷ left None es) (left None es))
    by true is rest = (is, rest)
    by false is rest = rest
nodes_left (Some x) (e ∷ es) = by (is_node e.0) (passes x e.0) refl (nodes_left (Some x) es)
  where
    by : (n p : Bool) → is_node e.0 ≡ n → AllByRecursion (λ (e : DocId × Document). is_node e.0 ≡ true) (left (Some x) es) → AllByRecursion (λ (e : DocId × Document). is_node e.0 ≡ true) (cond (n && p) (e ∷ left (Some x) es) (left (Some x) es))
    by true true is rest = (is, rest)
    by true false is rest = rest
    by false p is rest = rest

of_keys : (P : DocId → Type 0) (es : Entries) → AllByRecursion P (keys_of es) → AllByRecursion (λ e. P e.0) es
of_keys P [] h = tt
of_keys P (e ∷ es) h = (h.0, of_keys P es h.1)

-- where all stand behind an id, all nodes' documents come
all_come : (x : DocId) (es : Entries) → AllByRecursion (λ y. id_cmp x y ≡ Less) (keys_of es) → left (Some x) es ≡ left None es
all_come x [] h = refl
all_come x (e ∷ es) h = by (is_node e.0) (passes_less x e.0 h.0) (all_come x es h.1)
  where
    by : (n : Bool) → passes x e.0 ≡ true → left (Some x) es ≡ left None es → cond (n && passes x e.0) (e ∷ left (Some x) es) (left (Some x) es) ≡ cond n (e ∷ left None es) (left None es)
    by true pass rest = ap (λ b. cond b (e ∷ left (Some x) es) (left (Some x) es)) pass ∙ ap (λ (es : Entries). e ∷ es) rest
    by false pass rest = rest

-- ---- what is found behind an id

-- where no node's document is left, none is found
pub none_next : (o : Option DocId) (es : Entries) → left o es ≡ [] → (e : DocId × Document) → slice_get (behind o es) 0 ≡ Some e → is_node e.0 ≡ false
none_next None [] none e h = cc
none_next None (f ∷ fs) none e h = by (is_node f.0) refl none
  where
    by : (n : Bool) → is_node f.0 ≡ n → cond n (f ∷ left None fs) (left None fs) ≡ [] → is_node e.0 ≡ false
    by true is none' = cc
    by false is none' = let same : f ≡ e = cc in ap (λ (e : DocId × Document). is_node e.0) (sym same) ∙ is
none_next (Some x) [] none e h = cc
none_next (Some x) (f ∷ fs) none e h = by (is_node f.0) (passes x f.0) refl none h (λ none' h'. none_next (Some x) fs none' e h')
  where
    by : (n p : Bool) → is_node f.0 ≡ n → cond (n && p) (f ∷ left (Some x) fs) (left (Some x) fs) ≡ [] → slice_get (cond p (f ∷ behind (Some x) fs) (behind (Some x) fs)) 0 ≡ Some e
        → (left (Some x) fs ≡ [] → slice_get (behind (Some x) fs) 0 ≡ Some e → is_node e.0 ≡ false) → is_node e.0 ≡ false
    by true true is none' h' rest = cc
    by true false is none' h' rest = rest none' h'
    by false true is none' h' rest = let same : f ≡ e = cc in ap (λ (e : DocId × Document). is_node e.0) (sym same) ∙ is
    by false false is none' h' rest = rest none' h'

-- the first that is left is found, and behind it the others are left
pub record IsNext (o : Option DocId) (es : Entries) (e : DocId × Document) (more : Entries) : Type 0 where
  pub first : slice_get (behind o es) 0 ≡ Some e
  pub rest : left (Some e.0) es ≡ more

-- the first of all is found first
at_head : (o : Option DocId) (f : DocId × Document) (fs : Entries) → IsStrictlySortedBy id_cmp (keys_of (f ∷ fs)) → left (Some f.0) (f ∷ fs) ≡ left None fs
unfolding IsStrictlySortedBy
at_head o f fs sorted = by (is_node f.0) ∙ all_come f.0 fs sorted.0
  where
    by : (n : Bool) → cond (n && passes f.0 f.0) (f ∷ left (Some f.0) fs) (left (Some f.0) fs) ≡ left (Some f.0) fs
    by true = ap (λ b. cond b (f ∷ left (Some f.0) fs) (left (Some f.0) fs)) (not_itself f.0)
    by false = refl

pub next_is : (o : Option DocId) (es : Entries) (e : DocId × Document) (more : Entries) → IsStrictlySortedBy id_cmp (keys_of es) → left o es ≡ e ∷ more → IsNext o es e more
unfolding IsStrictlySortedBy
next_is None [] e more sorted h = cc
next_is None (f ∷ fs) e more sorted h = by (is_node f.0) refl h
  where
    by : (n : Bool) → is_node f.0 ≡ n → cond n (f ∷ left None fs) (left None fs) ≡ e ∷ more → IsNext None (f ∷ fs) e more
    by true is h' =
        let same : f ≡ e = cc in
        let all : left None fs ≡ more = cc in
        subst (λ e. IsNext None (f ∷ fs) e more) same (record { first = refl; rest = at_head None f fs sorted ∙ all })
    by false is h' = let no : [] ≡ e ∷ more = sym (none_left None f.0 is fs sorted.0) ∙ h' in cc
next_is (Some x) [] e more sorted h = cc
next_is (Some x) (f ∷ fs) e more sorted h = by (is_node f.0) (passes x f.0) refl refl h (λ h'. next_is (Some x) fs e more sorted.1 h')
  where
    -- one that is passed over stands before the first that is left
    later : left (Some x) fs ≡ e ∷ more → IsNext (Some x) fs e more → (p : Bool) → p ≡ false → (slice_get (cond p (f ∷ behind (Some x) fs) (behind (Some x) fs)) 0 ≡ Some e) × (left (Some e.0) (f ∷ fs) ≡ more)
    later h' n false is = (n.first, by (is_node f.0))
      where
        above : id_cmp f.0 e.0 ≡ Less
        above = (subst (λ es. AllByRecursion (λ (g : DocId × Document). id_cmp f.0 g.0 ≡ Less) es) h' (of_left (Some x) (λ g. id_cmp f.0 g.0 ≡ Less) fs (of_keys (λ y. id_cmp f.0 y ≡ Less) fs sorted.0))).0

        by : (m : Bool) → cond (m && passes e.0 f.0) (f ∷ left (Some e.0) fs) (left (Some e.0) fs) ≡ more
        by true = ap (λ b. cond b (f ∷ left (Some e.0) fs) (left (Some e.0) fs)) (not_below f.0 e.0 above) ∙ n.rest
        by false = n.rest
    later h' n true is = cc

    by : (m p : Bool) → is_node f.0 ≡ m → passes x f.0 ≡ p → cond (m && p) (f ∷ left (Some x) fs) (left (Some x) fs) ≡ e ∷ more → (left (Some x) fs ≡ e ∷ more → IsNext (Some x) fs e more) → IsNext (Some x) (f ∷ fs) e more
    by true true is pass h' rest =
        let same : f ≡ e = cc in
        let all : left (Some x) fs ≡ more = cc in
        subst (λ e. IsNext (Some x) (f ∷ fs) e more) same (record {
          first = ap (λ b. slice_get (cond b (f ∷ behind (Some x) fs) (behind (Some x) fs)) 0) pass;
          rest = at_head (Some x) f fs sorted ∙ sym (all_come x fs (above_too id_cmp id_total id_exact x f.0 (less_passes x f.0 pass) (keys_of fs) sorted.0)) ∙ all;
        })
    by true false is pass h' rest = let l = later h' (rest h') (passes x f.0) pass in record { first = l.0; rest = l.1 }
    by false true is pass h' rest = let no : [] ≡ e ∷ more = sym (none_left (Some x) f.0 is fs sorted.0) ∙ h' in cc
    by false false is pass h' rest = let l = later h' (rest h') (passes x f.0) pass in record { first = l.0; rest = l.1 }

-- ---- what a change leaves

module _ (k : DocId) where
  -- a document that doesn't come is put, and those that come stay
  pub left_put : (o : Option DocId) → comes o k ≡ false → (v : Document) (es : Entries) → left o (insert_entry id_cmp es k v) ≡ left o es
  left_put o off v [] = ap (λ b. cond b ((k, v) ∷ []) []) off
  left_put o off v (e ∷ es) = by (id_cmp k e.0) refl (left_put o off v es)
    where
      by : (c : Ordering) → id_cmp k e.0 ≡ c → left o (insert_entry id_cmp es k v) ≡ left o es → left o (match_ordering c ((k, v) ∷ e ∷ es) ((e.0, v) ∷ es) (e ∷ insert_entry id_cmp es k v)) ≡ left o (e ∷ es)
      by Less is rest = ap (λ b. cond b ((k, v) ∷ left o (e ∷ es)) (left o (e ∷ es))) off
      by Equal is rest =
          let off' : comes o e.0 ≡ false = ap (comes o) (sym (id_exact k e.0 is)) ∙ off in
          ap (λ b. cond b ((e.0, v) ∷ left o es) (left o es)) off' ∙ sym (ap (λ b. cond b (e ∷ left o es) (left o es)) off')
      by Greater is rest = ap (λ es. cond (comes o e.0) (e ∷ es) es) rest

  -- a document that doesn't come is removed, and those that come stay
  pub left_removed : (o : Option DocId) → comes o k ≡ false → (es : Entries) → left o (remove_entry (is_at (id_cmp k)) es) ≡ left o es
  left_removed o off [] = refl
  left_removed o off (e ∷ es) = by (is_eq (id_cmp k e.0)) refl (left_removed o off es)
    where
      by : (b : Bool) → is_eq (id_cmp k e.0) ≡ b → left o (remove_entry (is_at (id_cmp k)) es) ≡ left o es → left o (cond b es (e ∷ remove_entry (is_at (id_cmp k)) es)) ≡ left o (e ∷ es)
      by true is rest = sym (ap (λ b. cond b (e ∷ left o es) (left o es)) (ap (comes o) (sym (same_id k e.0 is)) ∙ off))
      by false is rest = ap (λ es. cond (comes o e.0) (e ∷ es) es) rest

  -- each document stands under its id
  pub named_put : (v : Document) → v.id ≡ k → (es : Entries) → AllByRecursion (λ e. e.1.id ≡ e.0) es → AllByRecursion (λ e. e.1.id ≡ e.0) (insert_entry id_cmp es k v)
  named_put v own [] h = (own, tt)
  named_put v own (e ∷ es) h = by (id_cmp k e.0) refl (named_put v own es h.1)
    where
      by : (c : Ordering) → id_cmp k e.0 ≡ c → AllByRecursion (λ e. e.1.id ≡ e.0) (insert_entry id_cmp es k v) → AllByRecursion (λ (e : DocId × Document). e.1.id ≡ e.0) (match_ordering c ((k, v) ∷ e ∷ es) ((e.0, v) ∷ es) (e ∷ insert_entry id_cmp es k v))
      by Less is rest = (own, h)
      by Equal is rest = (own ∙ id_exact k e.0 is, h.1)
      by Greater is rest = (h.0, rest)

  pub named_removed : (es : Entries) → AllByRecursion (λ e. e.1.id ≡ e.0) es → AllByRecursion (λ e. e.1.id ≡ e.0) (remove_entry (is_at (id_cmp k)) es)
  named_removed [] h = tt
  named_removed (e ∷ es) h = by (is_eq (id_cmp k e.0)) (named_removed es h.1)
    where
      by : (b : Bool) → AllByRecursion (λ e. e.1.id ≡ e.0) (remove_entry (is_at (id_cmp k)) es) → AllByRecursion (λ (e : DocId × Document). e.1.id ≡ e.0) (cond b es (e ∷ remove_entry (is_at (id_cmp k)) es))
      by true rest = h.1
      by false rest = (h.0, rest)
