-- The edit by which nodes of a tree go: it is the one from the tree to what is left, and other nodes stay.
use Rattle.std.proofs.Common.{◌≡◌, Bool, true, false, cond, not, Some, None, Option, List, [], ◌∷◌, ◌++◌, map, is_some, is_none, refl, sym, ap, ◌∙◌, append-nil}
use Rattle.std.specs.declared.cmp.Ordering.{Ordering}
use Rattle.std.specs.declared.cmp.Ordering.TheVariants.{Less, Equal, Greater}
use Rattle.std.specs.BTreeMap.{is_at, insert_entry}
use Rattle.std.specs.FinMap.{is_sorted}
use Rattle.std.specs.List.{filter, flat_map, fold, list_all, list_any}
use Rattle.std.specs.Map.{values_of}
use Rattle.std.specs.Ordering.{eq_by_cmp, match_ordering}
use Rattle.std.proofs.lemmas.Bool.{false≢true}
use Rattle.std.proofs.lemmas.Map.Entries.{lookup-filter-keys}
use Rattle.basics.proofs.Lists.{empty_first, empty_second}
use Rattle.jr_path.specs.Names.{path_cmp}
use Rattle.jr_path.specs.declared.name.Name.{Name}
use Rattle.jr_path.specs.declared.path.Path.{Path}
use Rattle.jr_path.proofs.Maps.{path_exact, path_total}
use Rattle.jr_tree.specs.declared.edit.Write.{Write}
use Rattle.jr_tree.specs.declared.edit.Write.TheVariants.{Here, Gone, Put, Unset}
use Rattle.jr_tree.specs.declared.tree.Node.{Node}
use Rattle.jr_tree.specs.Changes.{Writes, node_changes, nodes_changed, nodes_taken, with_writes}
use Rattle.jr_tree.specs.Edits.{applied, changes, is_same_item, item_cmp, item_of, last_writes, taking}
use Rattle.jr_tree.specs.Trees.{IsTree, Nodes, node_at}
use Rattle.jr_tree.proofs.AtPath.{come, filled, node_at-applied}
use Rattle.jr_tree.proofs.Entries.{both, first, same_lists, second, sorted_filter}
use Rattle.jr_tree.proofs.Pointwise.{same_path}
use Rattle.jr_tree.proofs.ProperChanges.{no_changes}

-- ---- what holds of each write holds of each that is left of them

module _ (f : Write → Bool) where
  all_insert : (w : Write) (es : Writes) → list_all (λ e. f e.1) es ≡ true → f w ≡ true → list_all (λ e. f e.1) (insert_entry item_cmp es (item_of w) w) ≡ true
  all_insert w [] h k = both _ _ k refl
  all_insert w (e ∷ es) h k = by (item_cmp (item_of w) e.0) (all_insert w es (second _ _ h) k)
    where
      by : (o : Ordering) → list_all (λ e. f e.1) (insert_entry item_cmp es (item_of w) w) ≡ true → list_all (λ e. f e.1) (match_ordering o ((item_of w, w) ∷ e ∷ es) ((e.0, w) ∷ es) (e ∷ insert_entry item_cmp es (item_of w) w)) ≡ true
      by Less rest = both _ _ k h
      by Equal rest = both _ _ k (second _ _ h)
      by Greater rest = both _ _ (first _ _ h) rest

  all_with : (ws : List Write) (es : Writes) → list_all (λ e. f e.1) es ≡ true → list_all f ws ≡ true → list_all (λ e. f e.1) (with_writes es ws) ≡ true
  all_with [] es h k = h
  all_with (w ∷ ws) es h k = all_with ws (insert_entry item_cmp es (item_of w) w) (all_insert w es h (first _ _ k)) (second _ _ k)

  all_values : (es : Writes) → list_all (λ e. f e.1) es ≡ true → list_all f (values_of es) ≡ true
  all_values [] h = refl
  all_values (e ∷ es) h = both _ _ (first _ _ h) (all_values es (second _ _ h))

  all_last : (ws : List Write) → list_all f ws ≡ true → list_all f (last_writes ws) ≡ true
  all_last [] h = refl
  all_last (w ∷ ws) h = by (list_any (is_same_item w) ws) (all_last ws (second _ _ h))
    where
      by : (b : Bool) → list_all f (last_writes ws) ≡ true → list_all f (cond b (last_writes ws) (w ∷ last_writes ws)) ≡ true
      by true rest = rest
      by false rest = both _ _ (first _ _ h) rest

  all_append : (us ws : List Write) → list_all f us ≡ true → list_all f ws ≡ true → list_all f (us ++ ws) ≡ true
  all_append [] ws h k = k
  all_append (u ∷ us) ws h k = both _ _ (first _ _ h) (all_append us ws (second _ _ h) k)

-- ---- writes of other nodes

module _ (p : Path) where
  -- the write is of another node, or of a property of another
  abbrev apart : Write → Bool
  apart w = not (eq_by_cmp path_cmp p (item_of w).path)

  turned : (b : Bool) → not b ≡ true → b ≡ false
  turned true h = sym h
  turned false h = refl

  left_alone : {X : Type 0} (b : Bool) (x o : X) → not b ≡ true → cond b x o ≡ o
  left_alone true x o h = absurd (false≢true h)
  left_alone false x o h = refl

  come_apart : (o : Option Node) (w : Write) → apart w ≡ true → come None p o w ≡ o
  come_apart o (Here q) h = left_alone (eq_by_cmp path_cmp p q) _ o h
  come_apart o (Gone q) h = left_alone (eq_by_cmp path_cmp p q) None o h
  come_apart o (Put q m x) h = refl
  come_apart o (Unset q m) h = refl

  filled_apart : (o : Option Node) (w : Write) → apart w ≡ true → filled p o w ≡ o
  filled_apart o (Here q) h = refl
  filled_apart o (Gone q) h = refl
  filled_apart o (Put q m x) h = left_alone (eq_by_cmp path_cmp p q) _ o h
  filled_apart o (Unset q m) h = left_alone (eq_by_cmp path_cmp p q) _ o h

  comes_apart : (ws : List Write) (o : Option Node) → list_all apart ws ≡ true → fold (come None p) o ws ≡ o
  comes_apart [] o h = refl
  comes_apart (w ∷ ws) o h = ap (λ x. fold (come None p) x ws) (come_apart o w (first _ _ h)) ∙ comes_apart ws o (second _ _ h)

  fills_apart : (ws : List Write) (o : Option Node) → list_all apart ws ≡ true → fold (filled p) o ws ≡ o
  fills_apart [] o h = refl
  fills_apart (w ∷ ws) o h = ap (λ x. fold (filled p) x ws) (filled_apart o w (first _ _ h)) ∙ fills_apart ws o (second _ _ h)

  stays : (t : Nodes) (ws : List Write) → is_sorted path_cmp t ≡ true → list_all apart ws ≡ true → node_at (applied None t ws) p ≡ node_at t p
  stays t ws sorted h =
      let last : list_all apart (last_writes ws) ≡ true = all_last apart ws h in
      node_at-applied None p t ws sorted
      ∙ (fills_apart (last_writes ws) (fold (come None p) (node_at t p) (last_writes ws)) last ∙ comes_apart (last_writes ws) (node_at t p) last)

  unset_apart : {X : Type 0} (q : Path) (ps : List (Name × X)) → eq_by_cmp path_cmp p q ≡ false → list_all apart (map (λ n. Unset q n.0) ps) ≡ true
  unset_apart q [] h = refl
  unset_apart q (n ∷ ps) h = both _ _ (ap not h) (unset_apart q ps h)

  taken_apart : (g : Nodes) → node_at g p ≡ None → list_all apart (flat_map taking g) ≡ true
  taken_apart [] none = refl
  taken_apart (e ∷ g) none = by (eq_by_cmp path_cmp p e.0) refl none (taken_apart g)
    where
      by : (b : Bool) → eq_by_cmp path_cmp p e.0 ≡ b → cond b (Some e.1) (node_at g p) ≡ None → (node_at g p ≡ None → list_all apart (flat_map taking g) ≡ true) → list_all apart (taking e ++ flat_map taking g) ≡ true
      by true same none rest = absurd (false≢true (sym (ap is_some none)))
      by false same none rest = all_append apart (taking e) (flat_map taking g) (both _ _ (ap not same) (unset_apart e.0 e.1.props same)) (rest none)

-- ---- the edit

all_taken : (g : Nodes) → filter (λ e. is_none (node_at [] e.0)) g ≡ g
all_taken [] = refl
all_taken (e ∷ g) = ap (λ (rest : Nodes). e ∷ rest) (all_taken g)

-- the writes by which nodes go, one node after another
taking_all : (g : Nodes) → changes g [] ≡ values_of (with_writes [] (flat_map taking g))
taking_all g = ap (λ (ws : List Write). values_of (with_writes [] ws)) (append-nil (flat_map taking (filter (λ e. is_none (node_at [] e.0)) g)) ∙ ap (flat_map taking) (all_taken g))

pub untouched : (g t : Nodes) (p : Path) → is_sorted path_cmp t ≡ true → node_at g p ≡ None → node_at (applied None t (changes g [])) p ≡ node_at t p
untouched g t p sorted none =
    stays p t (changes g []) sorted
    (ap (list_all (apart p)) (taking_all g)
    ∙ all_values (apart p) (with_writes [] (flat_map taking g)) (all_with (apart p) (flat_map taking g) [] refl (taken_apart p g none)))

-- ---- what is left

module _ (old g : Nodes) where
  abbrev pub left : Nodes
  left = filter (λ e. is_none (node_at g e.0)) old

  pub left_at : (q : Path) → node_at left q ≡ cond (is_none (node_at g q)) (node_at old q) None
  left_at q = lookup-filter-keys (is_at (path_cmp q)) (λ r. is_none (node_at g r)) (is_none (node_at g q)) (λ r h. ap (λ (x : Path). is_none (node_at g x)) (sym (same_path q r h))) old

-- nothing is written where nothing is left
none_written : (es : Writes) (ws : List Write) → values_of (with_writes es ws) ≡ [] → (es ≡ []) × (ws ≡ [])
none_written [] [] h = (refl, refl)
none_written (e ∷ es) [] h = absurd (false≢true (sym (ap (λ (vs : List Write). is_cons vs) h)))
  where
    is_cons : List Write → Bool
    is_cons [] = false
    is_cons (v ∷ vs) = true
none_written es (w ∷ ws) h = absurd (no_insert es (none_written (insert_entry item_cmp es (item_of w) w) ws h).0)
  where
    no_insert : (es : Writes) → insert_entry item_cmp es (item_of w) w ≡ [] → ⊥
    no_insert [] h = false≢true (sym (ap (λ (xs : Writes). is_cons xs) h))
      where
        is_cons : Writes → Bool
        is_cons [] = false
        is_cons (x ∷ xs) = true
    no_insert (e ∷ es) h = by (item_cmp (item_of w) e.0) h
      where
        is_cons : Writes → Bool
        is_cons [] = false
        is_cons (x ∷ xs) = true

        by : (o : Ordering) → match_ordering o ((item_of w, w) ∷ e ∷ es) ((e.0, w) ∷ es) (e ∷ insert_entry item_cmp es (item_of w) w) ≡ [] → ⊥
        by Less h = false≢true (sym (ap (λ (xs : Writes). is_cons xs) h))
        by Equal h = false≢true (sym (ap (λ (xs : Writes). is_cons xs) h))
        by Greater h = false≢true (sym (ap (λ (xs : Writes). is_cons xs) h))

none_of_fewer : (f : Path × Node → List Write) (test : Path × Node → Bool) (es : Nodes) → flat_map f es ≡ [] → flat_map f (filter test es) ≡ []
none_of_fewer f test [] h = refl
none_of_fewer f test (e ∷ es) h = by (test e) (none_of_fewer f test es (empty_second (f e) (flat_map f es) h))
  where
    by : (b : Bool) → flat_map f (filter test es) ≡ [] → flat_map f (cond b (e ∷ filter test es) (filter test es)) ≡ []
    by true rest = ap (λ (ws : List Write). ws ++ flat_map f (filter test es)) (empty_first (f e) (flat_map f es) h) ∙ rest
    by false rest = rest

module _ (old g : Nodes) (tree : IsTree old) (sorted : is_sorted path_cmp g ≡ true) (within : (q : Path) (node : Node) → node_at g q ≡ Some node → node_at old q ≡ Some node) where
  taken_at : (q : Path) → node_at (filter (λ e. is_none (node_at (left old g) e.0)) old) q ≡ node_at g q
  taken_at q =
      lookup-filter-keys (is_at (path_cmp q)) (λ r. is_none (node_at (left old g) r)) (is_none (node_at (left old g) q)) (λ r h. ap (λ (x : Path). is_none (node_at (left old g) x)) (sym (same_path q r h))) old
      ∙ (ap (λ o. cond (is_none o) (node_at old q) None) (left_at old g q) ∙ by (node_at g q) refl (node_at old q) refl)
    where
      by : (o : Option Node) → node_at g q ≡ o → (x : Option Node) → node_at old q ≡ x → cond (is_none (cond (is_none o) x None)) x None ≡ o
      by None h None is = refl
      by None h (Some y) is = refl
      by (Some node) h x is = sym is ∙ within q node h

  taken_are : filter (λ e. is_none (node_at (left old g) e.0)) old ≡ g
  taken_are = same_lists path_cmp path_total path_exact _ g (sorted_filter path_cmp (λ e. is_none (node_at (left old g) e.0)) old tree.paths) sorted taken_at

  none_changed : nodes_changed old (left old g) ≡ []
  none_changed =
      none_of_fewer (node_changes old) (λ e. is_none (node_at g e.0)) old
      (empty_second (nodes_taken old old) (nodes_changed old old) (none_written [] (nodes_taken old old ++ nodes_changed old old) (no_changes old tree)).1)

  pub edit_is : changes g [] ≡ changes old (left old g)
  edit_is =
      taking_all g
      ∙ ap (λ (ws : List Write). values_of (with_writes [] ws))
      (sym (append-nil (flat_map taking g)) ∙ (ap (λ (es : Nodes). flat_map taking es ++ []) (sym taken_are) ∙ ap (λ (ws : List Write). nodes_taken (left old g) old ++ ws) (sym none_changed)))
