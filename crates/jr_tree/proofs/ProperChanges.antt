-- The changes from one tree to another are a proper edit of the first, and there are none from a tree to itself.
use Rattle.std.proofs.Common.{◌≡◌, Bool, true, false, cond, ◌&&◌, ◌||◌, not, List, [], ◌∷◌, ◌++◌, map, Option, None, Some, is_some, is_none, refl, sym, ap, ◌∙◌, subst}
use Rattle.std.specs.declared.cmp.Ordering.{Ordering}
use Rattle.std.specs.declared.cmp.Ordering.TheVariants.{Less, Equal, Greater}
use Rattle.std.specs.Ordering.{is_eq, eq_by_cmp, match_ordering}
use Rattle.std.specs.Option.{option_and_then, option_map_or, option_or}
use Rattle.std.specs.Map.{lookup, values_of}
use Rattle.std.specs.BTreeMap.{is_at, insert_entry}
use Rattle.std.specs.List.{filter, flat_map, list_all, list_any}
use Rattle.std.specs.FinMap.{is_sorted}
use Rattle.std.specs.Cmp.{IsTotalOrder, tied_itself}
use Rattle.std.proofs.lemmas.Cmp.{nat_list_cmp_total}
use mathlib.Core.Bool.{false≢true}
use Rattle.jr_path.specs.Names.{name_cmp, path_cmp}
use Rattle.jr_path.specs.declared.name.Name.{Name}
use Rattle.jr_path.specs.declared.path.Item.{Item}
use Rattle.jr_path.specs.declared.path.Path.{Path}
use Rattle.jr_path.proofs.Maps.{path_total}
use Rattle.jr_value.specs.declared.value.Property.{Property}
use Rattle.jr_value.specs.Values.{same_property}
use Rattle.jr_value.specs.Equality.{same_property_decides}
use Rattle.jr_tree.specs.declared.tree.Node.{Node}
use Rattle.jr_tree.specs.declared.edit.Write.{Write}
use Rattle.jr_tree.specs.declared.edit.Write.TheVariants.{Here, Gone, Put, Unset}
use Rattle.jr_tree.specs.Trees.{Nodes, node_at, undated, IsTree}
use Rattle.jr_tree.specs.Edits.{applied, changes, is_change, is_emptied, is_once, is_same_item, is_unset_of, item_cmp, item_of, properties_at, property_changes, taking, IsProper}
use Rattle.jr_tree.specs.Changes.{Writes, with_writes, unset_missing, put_changed, nodes_taken, node_changes, nodes_changed}
use Rattle.jr_tree.specs.Items.{put_of, written}
use Rattle.jr_tree.proofs.Entries.{exactly, first, second, both, none_below}
use Rattle.jr_tree.proofs.LastWrites.{item_total}
use Rattle.jr_tree.proofs.Written.{written_among}
use Rattle.jr_tree.proofs.Undated.{Tree-alike, changes-undated}
use Rattle.jr_tree.proofs.ChangesLaw.{changes_applied, given, is_keyed, item_ties, keyed_with, put_changed_of, sorted_with, values_read, written_of}
use Rattle.basics.proofs.Options.{none_tested}

-- ---- what holds of each of a list

abbrev EachOf : {X : Type 0} → (X → Type 0) → List X → Type 0
EachOf P [] = Unit {0}
EachOf P (x ∷ xs) = P x × EachOf P xs

each_more : {X : Type 0} (P Q : X → Type 0) → ((x : X) → P x → Q x) → (xs : List X) → EachOf P xs → EachOf Q xs
each_more P Q f [] h = tt
each_more P Q f (x ∷ xs) h = (f x h.0, each_more P Q f xs h.1)

each_of : {X : Type 0} (P : X → Type 0) → ((x : X) → P x) → (xs : List X) → EachOf P xs
each_of P f [] = tt
each_of P f (x ∷ xs) = (f x, each_of P f xs)

each_true : {X : Type 0} (P : X → Type 0) (f : X → Bool) (xs : List X) → EachOf P xs → list_all f xs ≡ true → EachOf (λ x. P x × (f x ≡ true)) xs
each_true P f [] e h = tt
each_true P f (x ∷ xs) e h = ((e.0, first _ _ h), each_true P f xs e.1 (second _ _ h))

each_filter : {X : Type 0} (P : X → Type 0) (test : X → Bool) (xs : List X) → EachOf P xs → EachOf (λ x. P x × (test x ≡ true)) (filter test xs)
each_filter P test [] h = tt
each_filter P test (x ∷ xs) h = by (test x) refl (each_filter P test xs h.1)
  where
    by : (b : Bool) → test x ≡ b → EachOf (λ x. P x × (test x ≡ true)) (filter test xs) → EachOf (λ x. P x × (test x ≡ true)) (cond b (x ∷ filter test xs) (filter test xs))
    by true k rest = ((h.0, k), rest)
    by false k rest = rest

all_append : (f : Write → Bool) (us ws : List Write) → list_all f us ≡ true → list_all f ws ≡ true → list_all f (us ++ ws) ≡ true
all_append f [] ws h k = k
all_append f (u ∷ us) ws h k = both _ _ (first _ _ h) (all_append f us ws (second _ _ h) k)

all_flat : {A : Type 0} (f : Write → Bool) (g : A → List Write) (xs : List A) → EachOf (λ x. list_all f (g x) ≡ true) xs → list_all f (flat_map g xs) ≡ true
all_flat f g [] h = refl
all_flat f g (x ∷ xs) h = all_append f (g x) (flat_map g xs) h.0 (all_flat f g xs h.1)

all_map : {A : Type 0} (f : Write → Bool) (g : A → Write) (xs : List A) → EachOf (λ x. f (g x) ≡ true) xs → list_all f (map g xs) ≡ true
all_map f g [] h = refl
all_map f g (x ∷ xs) h = both _ _ h.0 (all_map f g xs h.1)

-- each entry of a list in order is found at its key
module _ {K X : Type 0} (R : K → K → Ordering) (total : IsTotalOrder R) where
  found_within : (whole es : List (K × X)) → is_sorted R es ≡ true → ((k : K) (x : X) → lookup (is_at (R k)) es ≡ Some x → lookup (is_at (R k)) whole ≡ Some x) → EachOf (λ e. lookup (is_at (R e.0)) whole ≡ Some e.1) es
  found_within whole [] s within = tt
  found_within whole (e ∷ es) s within =
      (within e.0 e.1 (ap (λ o. cond (is_eq o) (Some e.1) (lookup (is_at (R e.0)) es)) (tied_itself total e.0)), found_within whole es (second _ _ s) (λ k x h. within k x (passed k x h (eq_by_cmp R k e.0) refl)))
    where
      passed : (k : K) (x : X) → lookup (is_at (R k)) es ≡ Some x → (b : Bool) → eq_by_cmp R k e.0 ≡ b → cond b (Some e.1) (lookup (is_at (R k)) es) ≡ Some x
      passed k x h true g = absurd (false≢true (ap is_some (sym (none_below R total k e.0 (exactly _ g) es (first _ _ s)) ∙ h)))
      passed k x h false g = h

  each_found : (es : List (K × X)) → is_sorted R es ≡ true → EachOf (λ e. lookup (is_at (R e.0)) es ≡ Some e.1) es
  each_found es s = found_within es es s (λ k x h. h)

names_found : (ps : List (Name × Property)) → is_sorted name_cmp ps ≡ true → EachOf (λ n. lookup (is_at (name_cmp n.0)) ps ≡ Some n.1) ps
names_found ps s = each_found name_cmp nat_list_cmp_total ps s

-- ---- single nodes

none_is : {X : Type 0} (o : Option X) → is_some o ≡ false → is_none o ≡ true
none_is None h = refl
none_is (Some x) h = absurd (false≢true (sym h))

abbrev prop_in : Name → Option Node → Option Property
prop_in n o = option_and_then (λ node. lookup (is_at (name_cmp n)) node.props) o

-- a property of a node is one among its properties
prop_among : (n : Name) (o : Option Node) → prop_in n o ≡ lookup (is_at (name_cmp n)) (option_map_or (λ node. node.props) o [])
prop_among n None = refl
prop_among n (Some node) = refl

sorted_props : (t : Nodes) (p : Path) → list_all (λ e. is_sorted name_cmp e.1.props) t ≡ true → is_sorted name_cmp (properties_at t p) ≡ true
sorted_props [] p h = refl
sorted_props (e ∷ t) p h = by (eq_by_cmp path_cmp p e.0) (sorted_props t p (second _ _ h))
  where
    by : (b : Bool) → is_sorted name_cmp (properties_at t p) ≡ true → is_sorted name_cmp (option_map_or (λ node. node.props) (cond b (Some e.1) (node_at t p)) []) ≡ true
    by true rest = first _ _ h
    by false rest = rest

module _ (t u : Nodes) (e : Path × Node) where
  -- the writes that take a node's items away change them
  taken_changes : node_at t e.0 ≡ Some e.1 → is_sorted name_cmp e.1.props ≡ true → is_none (node_at u e.0) ≡ true → list_all (is_change t u) (taking e) ≡ true
  taken_changes there names gone =
      both _ _ (both _ _ (ap is_some there) gone)
      (all_map (is_change t u) (λ n. Unset e.0 n.0) e.1.props
      (each_more _ _ (λ n h. both _ _ (ap (λ o. is_some (prop_in n.0 o)) there ∙ ap is_some h) (ap (λ o. is_none (prop_in n.0 o)) (none_tested (node_at u e.0) gone))) e.1.props (names_found e.1.props names)))

  abbrev old : List (Name × Property)
  old = properties_at t e.0

  abbrev new : List (Name × Property)
  new = e.1.props

  -- and so do those that make a node what it is in the other tree
  changed_changes : node_at u e.0 ≡ Some e.1 → is_sorted name_cmp e.1.props ≡ true → is_sorted name_cmp (properties_at t e.0) ≡ true → list_all (is_change t u) (node_changes t e) ≡ true
  changed_changes there names names' =
      all_append (is_change t u) (cond (is_some (node_at t e.0)) [] (Here e.0 ∷ [])) (property_changes e.0 old new) (here (is_some (node_at t e.0)) refl)
      (all_append (is_change t u) (unset_missing e.0 old new) (put_changed e.0 old new)
      (all_map (is_change t u) (λ n. Unset e.0 n.0) (filter (λ n. is_none (lookup (is_at (name_cmp n.0)) new)) old)
      (each_more _ _ (λ n h. both _ _ (ap is_some (prop_among n.0 (node_at t e.0) ∙ h.0)) (ap (λ o. is_none (prop_in n.0 o)) there ∙ h.1)) _ (each_filter _ (λ n. is_none (lookup (is_at (name_cmp n.0)) new)) old (names_found old names'))))
      (all_map (is_change t u) (λ n. Put e.0 n.0 n.1) (filter (λ n. not (option_map_or (same_property n.1) (lookup (is_at (name_cmp n.0)) old) false)) new)
      (each_more _ _ (λ n h. both _ _ (ap (λ o. not (option_map_or (same_property n.1) o false)) (prop_among n.0 (node_at t e.0)) ∙ h.1)
      (ap (λ o. option_map_or (same_property n.1) o false) (ap (prop_in n.0) there ∙ h.0) ∙ (same_property_decides n.1 n.1).1 refl)) _ (each_filter _ (λ n. not (option_map_or (same_property n.1) (lookup (is_at (name_cmp n.0)) old) false)) new (names_found new names)))))
    where
      here : (b : Bool) → is_some (node_at t e.0) ≡ b → list_all (is_change t u) (cond b [] (Here e.0 ∷ [])) ≡ true
      here true k = refl
      here false k = both _ _ (both _ _ (none_is (node_at t e.0) k) (ap is_some there)) refl

-- ---- the writes by their items

all_insert : (f : Write → Bool) (w : Write) (es : Writes) → list_all (λ e. f e.1) es ≡ true → f w ≡ true → list_all (λ e. f e.1) (insert_entry item_cmp es (item_of w) w) ≡ true
all_insert f w [] h k = both _ _ k refl
all_insert f w (e ∷ es) h k = by (item_cmp (item_of w) e.0) (all_insert f w es (second _ _ h) k)
  where
    by : (o : Ordering) → list_all (λ e. f e.1) (insert_entry item_cmp es (item_of w) w) ≡ true → list_all (λ e. f e.1) (match_ordering o ((item_of w, w) ∷ e ∷ es) ((e.0, w) ∷ es) (e ∷ insert_entry item_cmp es (item_of w) w)) ≡ true
    by Less rest = both _ _ k h
    by Equal rest = both _ _ k (second _ _ h)
    by Greater rest = both _ _ (first _ _ h) rest

all_with : (f : Write → Bool) (es : Writes) (ws : List Write) → list_all (λ e. f e.1) es ≡ true → list_all f ws ≡ true → list_all (λ e. f e.1) (with_writes es ws) ≡ true
all_with f es [] h k = h
all_with f es (w ∷ ws) h k = all_with f (insert_entry item_cmp es (item_of w) w) ws (all_insert f w es h (first _ _ k)) (second _ _ k)

all_values : (f : Write → Bool) (es : Writes) → list_all (λ e. f e.1) es ≡ true → list_all f (values_of es) ≡ true
all_values f [] h = refl
all_values f (e ∷ es) h = both _ _ (first _ _ h) (all_values f es (second _ _ h))

-- the write of an item, where this is one
abbrev of_item : Item → Write → Option Write
of_item i w = cond (eq_by_cmp item_cmp i (item_of w)) (Some w) None

-- no later write is of the item of the first
apart_from : (e : Item × Write) (es : Writes) → is_sorted item_cmp (e ∷ es) ≡ true → is_keyed (e ∷ es) ≡ true → list_any (is_same_item e.1) (values_of es) ≡ false
apart_from e es s k =
    let tie : item_cmp (item_of e.1) e.0 ≡ Equal = exactly _ (item_ties.symm (item_of e.1) e.0 ∙ first _ _ k) in
    written_among (item_of e.1) (of_item (item_of e.1)) (λ w. given (eq_by_cmp item_cmp (item_of e.1) (item_of w)) w) e.1 (values_of es) (given (eq_by_cmp item_cmp (item_of e.1) (item_of e.1)) e.1 ∙ item_ties.refl (item_of e.1))
    ∙ ap is_some (values_read (item_of e.1) (of_item (item_of e.1)) (λ w. given (eq_by_cmp item_cmp (item_of e.1) (item_of w)) w) es (second _ _ s) (second _ _ k)
    ∙ ap (option_and_then (of_item (item_of e.1))) (none_below item_cmp item_total (item_of e.1) e.0 tie es (first _ _ s)))

-- each item is written once
once_values : (es : Writes) → is_sorted item_cmp es ≡ true → is_keyed es ≡ true → is_once (values_of es) ≡ true
once_values [] s k = refl
once_values (e ∷ es) s k = both _ _ (ap not (apart_from e es s k)) (once_values es (second _ _ s) (second _ _ k))

-- what unsets a property is among the writes
unset_among : (p : Path) (n : Name) (ws : List Write) → written (put_of p n) ws ≡ Some None → list_any (is_unset_of p n) ws ≡ true
unset_among p n [] h = absurd (false≢true (ap is_some h))
unset_among p n (w ∷ ws) h = by (written (put_of p n) ws) refl h (unset_among p n ws)
  where
    either : (a b : Bool) → b ≡ true → (a || b) ≡ true
    either true b h = refl
    either false b h = h

    here : (w : Write) → put_of p n w ≡ Some None → is_unset_of p n w ≡ true
    here (Here q) h = absurd (false≢true (ap is_some h))
    here (Gone q) h = absurd (false≢true (ap is_some h))
    here (Put q m x) h = put (eq_by_cmp path_cmp p q && eq_by_cmp name_cmp n m) h
      where
        put : (b : Bool) → ◌≡◌ {A = Option (Option Property)} (cond b (Some (Some x)) None) (Some None) → false ≡ true
        put true h = sym (ap (λ o. option_map_or is_some o false) h)
        put false h = ap is_some h
    here (Unset q m) h = unset (eq_by_cmp path_cmp p q && eq_by_cmp name_cmp n m) h
      where
        unset : (b : Bool) → ◌≡◌ {A = Option (Option Property)} (cond b (Some None) None) (Some None) → b ≡ true
        unset true h = refl
        unset false h = ap is_some h

    by : (o : Option (Option Property)) → written (put_of p n) ws ≡ o → option_or o (put_of p n w) ≡ Some None → (written (put_of p n) ws ≡ Some None → list_any (is_unset_of p n) ws ≡ true) → (is_unset_of p n w || list_any (is_unset_of p n) ws) ≡ true
    by (Some x) is h rest = either (is_unset_of p n w) _ (rest (is ∙ h))
    by None is h rest = ap (λ b. b || list_any (is_unset_of p n) ws) (here w h)

-- ---- the law

-- what holds of the writes of each node holds of each change
all_changes : (f : Write → Bool) (t u : Nodes) → EachOf (λ e. list_all f (taking e) ≡ true) (filter (λ e. is_none (node_at u e.0)) t) → EachOf (λ e. list_all f (node_changes t e) ≡ true) u → list_all f (changes t u) ≡ true
all_changes f t u taken changed =
    all_values f (with_writes [] (nodes_taken u t ++ nodes_changed t u))
    (all_with f [] (nodes_taken u t ++ nodes_changed t u) refl (all_append f (nodes_taken u t) (nodes_changed t u) (all_flat f taking (filter (λ e. is_none (node_at u e.0)) t) taken) (all_flat f (node_changes t) u changed)))

-- the nodes of a tree are found, and their names are in order
nodes_found : (t : Nodes) → IsTree t → EachOf (λ e. (node_at t e.0 ≡ Some e.1) × (is_sorted name_cmp e.1.props ≡ true)) t
nodes_found t tree = each_true _ (λ e. is_sorted name_cmp e.1.props) t (each_found path_cmp path_total t tree.paths) tree.names

module _ (t u : Nodes) (from : IsTree t) (to : IsTree u) where
  changing : list_all (is_change t u) (changes t u) ≡ true
  changing = all_changes (is_change t u) t u
      (each_more _ _ (λ e h. taken_changes t u e h.0.0 h.0.1 h.1) _ (each_filter _ (λ e. is_none (node_at u e.0)) t (nodes_found t from)))
      (each_more _ _ (λ e h. changed_changes t u e h.0 h.1 (sorted_props t e.0 from.names)) u (nodes_found u to))

  abbrev gone : Name → Node → Option (Option Property)
  gone n node = cond (is_some (lookup (is_at (name_cmp n)) node.props)) (Some None) None

  -- a property of a node that goes is unset
  unset : (e : Path × Node) → node_at t e.0 ≡ Some e.1 → is_none (node_at u e.0) ≡ true → (n : Name × Property) → lookup (is_at (name_cmp n.0)) e.1.props ≡ Some n.1 → list_any (is_unset_of e.0 n.0) (changes t u) ≡ true
  unset e there away n h = unset_among e.0 n.0 (changes t u)
      (put_changed_of t u from.paths to.paths to.names e.0 n.0
      ∙ (ap (λ b. option_or (option_and_then (written_of (properties_at t e.0) n.0) b) (option_and_then (gone n.0) (cond (is_none b) (node_at t e.0) None))) (none_tested (node_at u e.0) away)
      ∙ (ap (option_and_then (gone n.0)) there ∙ ap (λ o. cond (is_some o) (Some None) None) h)))

  emptied : list_all (is_emptied t (changes t u)) (changes t u) ≡ true
  emptied = all_changes f t u
      (each_more _ _ (λ e h. both _ _ (subst (λ (ps : List (Name × Property)). list_all (λ n. list_any (is_unset_of e.0 n.0) (changes t u)) ps ≡ true) (sym (ap (λ o. option_map_or (λ node. node.props) o []) h.0.0)) (unsets e h.0.0 h.1 e.1.props (names_found e.1.props h.0.1)))
      (unset_plain e.0 e.1.props)) _ (each_filter _ (λ e. is_none (node_at u e.0)) t (nodes_found t from)))
      (each_of _ (λ (e : Path × Node). all_append f (cond (is_some (node_at t e.0)) [] (Here e.0 ∷ [])) (property_changes e.0 (properties_at t e.0) e.1.props) (come e (is_some (node_at t e.0)))
      (all_append f (unset_missing e.0 (properties_at t e.0) e.1.props) (put_changed e.0 (properties_at t e.0) e.1.props) (unset_plain e.0 (filter (λ n. is_none (lookup (is_at (name_cmp n.0)) e.1.props)) (properties_at t e.0))) (put_plain e.0 (filter (λ n. not (option_map_or (same_property n.1) (lookup (is_at (name_cmp n.0)) (properties_at t e.0)) false)) e.1.props)))) u)
    where
      f : Write → Bool
      f w = is_emptied t (changes t u) w

      unset_plain : (p : Path) (ns : List (Name × Property)) → list_all f (map (λ n. Unset p n.0) ns) ≡ true
      unset_plain p [] = refl
      unset_plain p (n ∷ ns) = unset_plain p ns

      put_plain : (p : Path) (ns : List (Name × Property)) → list_all f (map (λ n. Put p n.0 n.1) ns) ≡ true
      put_plain p [] = refl
      put_plain p (n ∷ ns) = put_plain p ns

      come : (e : Path × Node) (b : Bool) → list_all f (cond b [] (Here e.0 ∷ [])) ≡ true
      come e true = refl
      come e false = refl

      unsets : (e : Path × Node) → node_at t e.0 ≡ Some e.1 → is_none (node_at u e.0) ≡ true → (ps : List (Name × Property)) → EachOf (λ n. lookup (is_at (name_cmp n.0)) e.1.props ≡ Some n.1) ps → list_all (λ n. list_any (is_unset_of e.0 n.0) (changes t u)) ps ≡ true
      unsets e there away [] h = refl
      unsets e there away (n ∷ ps) h = both _ _ (unset e there away n h.0) (unsets e there away ps h.1)

  pub changes_proper : IsProper t (changes t u)
  changes_proper =
      let leads : undated (applied None t (changes t u)) ≡ undated u = changes_applied None t u from to in
      let ws : List Write = nodes_taken u t ++ nodes_changed t u in
      record {
        tree = Tree-alike u (applied None t (changes t u)) (sym leads) to;
        once = once_values (with_writes [] ws) (sorted_with [] ws refl) (keyed_with [] ws refl);
        changing =
            sym (changes-undated t (applied None t (changes t u)) (changes t u))
            ∙ (ap (λ (v : Nodes). list_all (is_change t v) (changes t u)) leads ∙ (changes-undated t u (changes t u) ∙ changing));
        emptied = emptied;
      }

none_left : {X : Type 0} (test : X → Bool) (xs : List X) → EachOf (λ x. test x ≡ false) xs → filter test xs ≡ []
none_left test [] h = refl
none_left test (x ∷ xs) h = ap (λ b. cond b (x ∷ filter test xs) (filter test xs)) h.0 ∙ none_left test xs h.1

none_made : {A : Type 0} (g : A → List Write) (xs : List A) → EachOf (λ x. g x ≡ []) xs → flat_map g xs ≡ []
none_made g [] h = refl
none_made g (x ∷ xs) h = ap (λ us. us ++ flat_map g xs) h.0 ∙ none_made g xs h.1

-- properties are made from themselves without a write
no_property_changes : (p : Path) (ps : List (Name × Property)) → is_sorted name_cmp ps ≡ true → property_changes p ps ps ≡ []
no_property_changes p ps s =
    let found = names_found ps s in
    ap (λ l. map (λ n. Unset p n.0) l ++ put_changed p ps ps) (none_left (λ n. is_none (lookup (is_at (name_cmp n.0)) ps)) ps (each_more _ _ (λ n h. ap is_none h) ps found))
    ∙ ap (map (λ n. Put p n.0 n.1)) (none_left (λ n. not (option_map_or (same_property n.1) (lookup (is_at (name_cmp n.0)) ps) false)) ps (each_more _ _ (λ n h. ap (λ o. not (option_map_or (same_property n.1) o false)) h ∙ ap not ((same_property_decides n.1 n.1).1 refl)) ps found))

-- there are no changes from a tree to itself
pub no_changes : (t : Nodes) → IsTree t → changes t t ≡ []
no_changes t tree = ap (λ ws. values_of (with_writes [] ws)) (ap (λ l. flat_map taking l ++ nodes_changed t t) (none_left (λ e. is_none (node_at t e.0)) t (each_more _ _ (λ e h. ap is_none h.0) t (nodes_found t tree))) ∙ none_made (node_changes t) t (each_more _ _ none t (nodes_found t tree)))
  where
    none : (e : Path × Node) → (node_at t e.0 ≡ Some e.1) × (is_sorted name_cmp e.1.props ≡ true) → node_changes t e ≡ []
    none e h =
        ap (λ o. cond (is_some o) [] (Here e.0 ∷ []) ++ property_changes e.0 (option_map_or (λ node. node.props) o []) e.1.props) h.0 ∙ no_property_changes e.0 e.1.props h.1
