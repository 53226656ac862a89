-- The changes from one tree to another, applied to the first, give the second.
use Rattle.std.proofs.Common.{◌≡◌, Bool, true, false, cond, ◌&&◌, not, List, [], ◌∷◌, ◌++◌, map, Option, None, Some, is_some, is_none, refl, sym, ap, ◌∙◌, subst}
use Rattle.std.specs.declared.cmp.Ordering.{Ordering}
use Rattle.std.specs.declared.cmp.Ordering.TheVariants.{Less, Equal, Greater}
use Rattle.std.specs.Ordering.{is_eq, eq_by_cmp, match_ordering}
use Rattle.std.specs.Option.{option_and_then, option_map_or, option_map, option_or, unwrap_or}
use Rattle.std.specs.Map.{lookup, values_of}
use Rattle.std.specs.BTreeMap.{is_at, insert_entry}
use Rattle.std.specs.List.{filter, flat_map, list_all}
use Rattle.std.specs.FinMap.{is_sorted}
use Rattle.std.specs.Cmp.{IsEquivalence}
use Rattle.std.proofs.lemmas.Cmp.{nat_list_cmp_total, eq_by_cmp_equiv}
use mathlib.Core.Bool.{false≢true}
use Rattle.jr_path.specs.Names.{name_cmp, path_cmp}
use Rattle.jr_path.specs.declared.name.Name.{Name}
use Rattle.jr_path.specs.declared.path.Item.{Item}
use Rattle.jr_path.specs.declared.path.Path.{Path}
use Rattle.jr_path.proofs.Maps.{path_total, path_exact, name_exact, lookup-insert_entry}
use Rattle.jr_value.specs.declared.value.Property.{Property}
use Rattle.jr_value.specs.Values.{same_property}
use Rattle.jr_value.specs.Equality.{same_property_decides}
use Rattle.jr_rev.specs.declared.revision.Revision.{Revision}
use Rattle.jr_tree.specs.declared.tree.Node.{Node}
use Rattle.jr_tree.specs.declared.edit.Write.{Write}
use Rattle.jr_tree.specs.declared.edit.Write.TheVariants.{Here, Put, Unset}
use Rattle.jr_tree.specs.Trees.{Nodes, born_of, born_at, has_names_in_order, node_at, property_at, undated, IsTree}
use Rattle.jr_tree.specs.Edits.{applied, changes, item_of, item_cmp, taking, property_changes, properties_at}
use Rattle.jr_tree.specs.Changes.{Writes, with_writes, unset_missing, put_changed, nodes_taken, node_changes, nodes_changed}
use Rattle.jr_tree.specs.Items.{here_of, put_of, written, has_after, property_after}
use Rattle.jr_tree.proofs.Entries.{exactly, first, second, both, none_below, sorted_insert, sorted_filter, same_lists}
use Rattle.jr_tree.proofs.Pointwise.{same_path}
use Rattle.jr_tree.proofs.Proper.{same_name}
use Rattle.jr_tree.proofs.LastWrites.{item_total}
use Rattle.jr_tree.proofs.Written.{Reads, here_reads, put_reads, or_none, none_from}
use Rattle.jr_tree.proofs.AtPath.{InOrder, prop_of, order-applied}
use Rattle.jr_tree.proofs.EditLaw.{born_applied, IsOrderly, Orderly-all, Orderly-applied, has_applied, property_applied}
use Rattle.jr_tree.proofs.Undated.{undate, has-undated, node_at-undated, property-undated, sorted-undated}
pub use Rattle.basics.proofs.Options.{some_if as given}

pub item_ties : IsEquivalence (eq_by_cmp item_cmp)
item_ties = eq_by_cmp_equiv item_total

-- ---- writes kept by their items

abbrev pub is_keyed : Writes → Bool
is_keyed es = list_all (λ e. eq_by_cmp item_cmp e.0 (item_of e.1)) es

keyed_insert : (w : Write) (es : Writes) → is_keyed es ≡ true → is_keyed (insert_entry item_cmp es (item_of w) w) ≡ true
keyed_insert w [] h = both _ _ (item_ties.refl (item_of w)) refl
keyed_insert w (e ∷ es) h = by (item_cmp (item_of w) e.0) refl (keyed_insert w es (second _ _ h))
  where
    by : (o : Ordering) → item_cmp (item_of w) e.0 ≡ o → is_keyed (insert_entry item_cmp es (item_of w) w) ≡ true → is_keyed (match_ordering o ((item_of w, w) ∷ e ∷ es) ((e.0, w) ∷ es) (e ∷ insert_entry item_cmp es (item_of w) w)) ≡ true
    by Less r rest = both _ _ (item_ties.refl (item_of w)) h
    by Equal r rest = both _ _ (item_ties.symm e.0 (item_of w) ∙ ap is_eq r) (second _ _ h)
    by Greater r rest = both _ _ (first _ _ h) rest

pub keyed_with : (es : Writes) (ws : List Write) → is_keyed es ≡ true → is_keyed (with_writes es ws) ≡ true
keyed_with es [] h = h
keyed_with es (w ∷ ws) h = keyed_with (insert_entry item_cmp es (item_of w) w) ws (keyed_insert w es h)

pub sorted_with : (es : Writes) (ws : List Write) → is_sorted item_cmp es ≡ true → is_sorted item_cmp (with_writes es ws) ≡ true
sorted_with es [] h = h
sorted_with es (w ∷ ws) h = sorted_with (insert_entry item_cmp es (item_of w) w) ws (sorted_insert item_cmp item_total (item_of w) w es h)

-- a reading of an item reads the entry at that item
pub values_read : {X : Type 0} (i : Item) (f : Write → Option X) → Reads i f → (es : Writes) → is_sorted item_cmp es ≡ true → is_keyed es ≡ true → written f (values_of es) ≡ option_and_then f (lookup (is_at (item_cmp i)) es)
values_read i f reads [] s k = refl
values_read i f reads (e ∷ es) s k = ap (λ o. option_or o (f e.1)) (values_read i f reads es (second _ _ s) (second _ _ k)) ∙ by (eq_by_cmp item_cmp i e.0) refl
  where
    by : (b : Bool) → eq_by_cmp item_cmp i e.0 ≡ b → option_or (option_and_then f (lookup (is_at (item_cmp i)) es)) (f e.1) ≡ option_and_then f (cond b (Some e.1) (lookup (is_at (item_cmp i)) es))
    by true h = ap (λ (o : Option Write). option_or (option_and_then f o) (f e.1)) (none_below item_cmp item_total i e.0 (exactly _ h) es (first _ _ s))
    by false h =
        let apart : eq_by_cmp item_cmp i (item_of e.1) ≡ false = item_ties.symm i (item_of e.1) ∙ (sym (item_ties.congr e.0 (item_of e.1) i (first _ _ k)) ∙ (item_ties.symm e.0 i ∙ h)) in
        ap (option_or (option_and_then f (lookup (is_at (item_cmp i)) es))) (none_from (f e.1) (reads e.1 ∙ apart)) ∙ or_none _

-- the last write of an item
abbrev last_of : Item → List Write → Option Write
last_of i ws = written (λ w. cond (eq_by_cmp item_cmp i (item_of w)) (Some w) None) ws

last_at : (i : Item) (es : Writes) (ws : List Write) → lookup (is_at (item_cmp i)) (with_writes es ws) ≡ option_or (last_of i ws) (lookup (is_at (item_cmp i)) es)
last_at i es [] = refl
last_at i es (w ∷ ws) =
    last_at i (insert_entry item_cmp es (item_of w) w) ws
    ∙ (ap (option_or (last_of i ws)) (lookup-insert_entry item_cmp item_total i (item_of w) w es)
    ∙ by (eq_by_cmp item_cmp i (item_of w)) (last_of i ws) (lookup (is_at (item_cmp i)) es))
  where
    by : (b : Bool) (o r : Option Write) → option_or o (cond b (Some w) r) ≡ option_or (option_or o (cond b (Some w) None)) r
    by b (Some v) r = refl
    by true None r = refl
    by false None r = refl

either_found : {X Y : Type 0} (a b : Option X) (p q : Option Y) → is_some a ≡ is_some p → is_some b ≡ is_some q → is_some (option_or a b) ≡ is_some (option_or p q)
either_found (Some x) b (Some y) q g h = refl
either_found (Some x) b None q g h = absurd (false≢true (sym g))
either_found None b (Some y) q g h = absurd (false≢true g)
either_found None b None q g h = h

both_found : {X : Type 0} (i : Item) (f : Write → Option X) → Reads i f → (ws : List Write) → is_some (written f ws) ≡ is_some (last_of i ws)
both_found i f reads [] = refl
both_found i f reads (w ∷ ws) = either_found _ _ _ _ (both_found i f reads ws) (reads w ∙ sym (given (eq_by_cmp item_cmp i (item_of w)) w))

last_read : {X : Type 0} (i : Item) (f : Write → Option X) → Reads i f → (ws : List Write) → written f ws ≡ option_and_then f (last_of i ws)
last_read i f reads [] = refl
last_read i f reads (w ∷ ws) = by (last_of i ws) (last_read i f reads ws) (both_found i f reads ws) (eq_by_cmp item_cmp i (item_of w)) refl
  where
    stays : {Y : Type 0} (o r : Option Y) → is_some o ≡ true → option_or o r ≡ o
    stays None r h = absurd (false≢true h)
    stays (Some y) r h = refl

    by : (o : Option Write) → written f ws ≡ option_and_then f o → is_some (written f ws) ≡ is_some o → (b : Bool) → eq_by_cmp item_cmp i (item_of w) ≡ b
        → option_or (written f ws) (f w) ≡ option_and_then f (option_or o (cond b (Some w) None))
    by (Some v) is there b e = stays (written f ws) (f w) there ∙ is
    by None is there true e = ap (λ r. option_or r (f w)) is
    by None is there false e = ap (λ r. option_or r (f w)) is ∙ none_from (f w) (reads w ∙ e)

-- what the changes write is what is written in making them
changes_read : {X : Type 0} (i : Item) (f : Write → Option X) → Reads i f → (t u : Nodes) → written f (changes t u) ≡ written f (nodes_taken u t ++ nodes_changed t u)
changes_read i f reads t u =
    let ws : List Write = nodes_taken u t ++ nodes_changed t u in
    values_read i f reads (with_writes [] ws) (sorted_with [] ws refl) (keyed_with [] ws refl)
    ∙ (ap (option_and_then f) (last_at i [] ws ∙ or_none (last_of i ws)) ∙ sym (last_read i f reads ws))

-- ---- lists of writes, node by node

or_within : {X : Type 0} (a b c : Option X) → option_or (option_or a b) c ≡ option_or a (option_or b c)
or_within (Some x) b c = refl
or_within None b c = refl

written-append : {X : Type 0} (f : Write → Option X) (us ws : List Write) → written f (us ++ ws) ≡ option_or (written f ws) (written f us)
written-append f [] ws = sym (or_none (written f ws))
written-append f (w ∷ us) ws = ap (λ o. option_or o (f w)) (written-append f us ws) ∙ or_within (written f ws) (written f us) (f w)

-- where only the writes of the node at p are read, they are read of that node
nodes_read : {X : Type 0} (f : Write → Option X) (g : Path × Node → List Write) (p : Path) (h : Node → Option X) (ok : Node → Bool) → ((e : Path × Node) → ok e.1 ≡ true → written f (g e) ≡ cond (eq_by_cmp path_cmp p e.0) (h e.1) None)
    → (es : Nodes) → InOrder es → list_all (λ e. ok e.1) es ≡ true → written f (flat_map g es) ≡ option_and_then h (node_at es p)
nodes_read f g p h ok one [] s k = refl
nodes_read f g p h ok one (e ∷ es) s k =
    written-append f (g e) (flat_map g es)
    ∙ (ap (option_or (written f (flat_map g es))) (one e (first _ _ k))
    ∙ (ap (λ o. option_or o (cond (eq_by_cmp path_cmp p e.0) (h e.1) None)) (nodes_read f g p h ok one es (second _ _ s) (second _ _ k))
    ∙ by (eq_by_cmp path_cmp p e.0) refl))
  where
    by : (b : Bool) → eq_by_cmp path_cmp p e.0 ≡ b → option_or (option_and_then h (node_at es p)) (cond b (h e.1) None) ≡ option_and_then h (cond b (Some e.1) (node_at es p))
    by true c = ap (λ (o : Option Node). option_or (option_and_then h o) (h e.1)) (none_below path_cmp path_total p e.0 (exactly _ c) es (first _ _ s))
    by false c = or_none (option_and_then h (node_at es p))

-- a filter by keys keeps or loses all that is at a key
module _ {K X : Type 0} (R : K → K → Ordering) (same : (x y : K) → eq_by_cmp R x y ≡ true → x ≡ y) where
  kept_at : (test : K → Bool) (q : K) (es : List (K × X)) → lookup (is_at (R q)) (filter (λ e. test e.0) es) ≡ cond (test q) (lookup (is_at (R q)) es) None
  kept_at test q [] = by (test q)
    where
      by : (b : Bool) → ◌≡◌ {A = Option X} None (cond b None None)
      by true = refl
      by false = refl
  kept_at test q (e ∷ es) = by (test e.0) refl (eq_by_cmp R q e.0) refl (kept_at test q es)
    where
      at : K → List (K × X) → Option X
      at k l = lookup (is_at (R k)) l

      by : (b : Bool) → test e.0 ≡ b → (c : Bool) → eq_by_cmp R q e.0 ≡ c → lookup (is_at (R q)) (filter (λ e. test e.0) es) ≡ cond (test q) (lookup (is_at (R q)) es) None
          → lookup (is_at (R q)) (cond b (e ∷ filter (λ e. test e.0) es) (filter (λ e. test e.0) es)) ≡ cond (test q) (cond c (Some e.1) (lookup (is_at (R q)) es)) None
      by true h true g rest = ap (λ b. cond b (Some e.1) (lookup (is_at (R q)) (filter (λ e. test e.0) es))) g ∙ ap (λ b. cond b (Some e.1) None) (sym (ap test (same q e.0 g) ∙ h))
      by true h false g rest = ap (λ b. cond b (Some e.1) (lookup (is_at (R q)) (filter (λ e. test e.0) es))) g ∙ rest
      by false h true g rest =
          let out : test q ≡ false = ap test (same q e.0 g) ∙ h in
          rest ∙ (ap (λ b. cond b (lookup (is_at (R q)) es) None) out ∙ ap (λ b. cond b (Some e.1) None) (sym out))
      by false h false g rest = rest

-- ---- the writes of one node

no_node_unset : (p q : Path) (ns : List (Name × Property)) → written (here_of p) (map (λ n. Unset q n.0) ns) ≡ None
no_node_unset p q [] = refl
no_node_unset p q (n ∷ ns) = ap (λ o. option_or o None) (no_node_unset p q ns)

no_node_put : (p q : Path) (ns : List (Name × Property)) → written (here_of p) (map (λ n. Put q n.0 n.1) ns) ≡ None
no_node_put p q [] = refl
no_node_put p q (n ∷ ns) = ap (λ o. option_or o None) (no_node_put p q ns)

no_node_changed : (p q : Path) (old new : List (Name × Property)) → written (here_of p) (property_changes q old new) ≡ None
no_node_changed p q old new =
    written-append (here_of p) (unset_missing q old new) (put_changed q old new)
    ∙ (ap (λ o. option_or o (written (here_of p) (unset_missing q old new))) (no_node_put p q (filter (λ n. not (option_map_or (same_property n.1) (lookup (is_at (name_cmp n.0)) old) false)) new))
    ∙ no_node_unset p q (filter (λ n. is_none (lookup (is_at (name_cmp n.0)) new)) old))

taken_here : (p : Path) (e : Path × Node) → written (here_of p) (taking e) ≡ cond (eq_by_cmp path_cmp p e.0) (Some false) None
taken_here p e = ap (λ o. option_or o (cond (eq_by_cmp path_cmp p e.0) (Some false) None)) (no_node_unset p e.0 e.1.props)

changed_here : (t : Nodes) (p : Path) (e : Path × Node) → written (here_of p) (node_changes t e) ≡ cond (eq_by_cmp path_cmp p e.0) (cond (is_some (node_at t p)) None (Some true)) None
changed_here t p e =
    written-append (here_of p) (cond (is_some (node_at t e.0)) [] (Here e.0 ∷ [])) (property_changes e.0 (properties_at t e.0) e.1.props)
    ∙ (ap (λ o. option_or o (written (here_of p) (cond (is_some (node_at t e.0)) [] (Here e.0 ∷ [])))) (no_node_changed p e.0 (properties_at t e.0) e.1.props)
    ∙ by (eq_by_cmp path_cmp p e.0) refl (is_some (node_at t e.0)) refl)
  where
    by : (b : Bool) → eq_by_cmp path_cmp p e.0 ≡ b → (c : Bool) → is_some (node_at t e.0) ≡ c → written (here_of p) (cond c [] (Here e.0 ∷ [])) ≡ cond b (cond (is_some (node_at t p)) None (Some true)) None
    by true h true g = ap (λ b. cond b None (Some true)) (sym (ap (λ q. is_some (node_at t q)) (same_path p e.0 h) ∙ g))
    by true h false g = ap (λ b. cond b (Some true) None) h ∙ ap (λ b. cond b None (Some true)) (sym (ap (λ q. is_some (node_at t q)) (same_path p e.0 h) ∙ g))
    by false h true g = refl
    by false h false g = ap (λ b. cond b (Some true) None) h

unset_found : (p q : Path) (n : Name) (ns : List (Name × Property)) → written (put_of p n) (map (λ m. Unset q m.0) ns) ≡ cond (eq_by_cmp path_cmp p q) (cond (is_some (lookup (is_at (name_cmp n)) ns)) (Some None) None) None
unset_found p q n [] = by (eq_by_cmp path_cmp p q)
  where
    by : (b : Bool) → ◌≡◌ {A = Option (Option Property)} None (cond b None None)
    by true = refl
    by false = refl
unset_found p q n (m ∷ ns) = ap (λ o. option_or o (put_of p n (Unset q m.0))) (unset_found p q n ns) ∙ by (eq_by_cmp path_cmp p q) (eq_by_cmp name_cmp n m.0) (is_some (lookup (is_at (name_cmp n)) ns)) refl
  where
    by : (b c d : Bool) → is_some (lookup (is_at (name_cmp n)) ns) ≡ d → option_or {T = Option Property} (cond b (cond d (Some None) None) None) (cond (b && c) (Some None) None) ≡ cond b (cond (is_some (cond c (Some m.1) (lookup (is_at (name_cmp n)) ns))) (Some None) None) None
    by false c d h = refl
    by true true true h = refl
    by true true false h = refl
    by true false true h = ap (λ b. cond b (Some None) None) (sym h)
    by true false false h = ap (λ b. cond b (Some None) None) (sym h)

put_found : (p q : Path) (n : Name) (ns : List (Name × Property)) → is_sorted name_cmp ns ≡ true → written (put_of p n) (map (λ m. Put q m.0 m.1) ns) ≡ cond (eq_by_cmp path_cmp p q) (option_map Some (lookup (is_at (name_cmp n)) ns)) None
put_found p q n [] s = by (eq_by_cmp path_cmp p q)
  where
    by : (b : Bool) → ◌≡◌ {A = Option (Option Property)} None (cond b None None)
    by true = refl
    by false = refl
put_found p q n (m ∷ ns) s = ap (λ o. option_or o (put_of p n (Put q m.0 m.1))) (put_found p q n ns (second _ _ s)) ∙ by (eq_by_cmp path_cmp p q) (eq_by_cmp name_cmp n m.0) refl
  where
    by : (b c : Bool) → eq_by_cmp name_cmp n m.0 ≡ c → option_or (cond b (option_map Some (lookup (is_at (name_cmp n)) ns)) None) (cond (b && c) (Some (Some m.1)) None) ≡ cond b (option_map Some (cond c (Some m.1) (lookup (is_at (name_cmp n)) ns))) None
    by false c h = refl
    by true true h = ap (λ (o : Option Property). option_or (option_map Some o) (Some (Some m.1))) (none_below name_cmp nat_list_cmp_total n m.0 (exactly _ h) ns (first _ _ s))
    by true false h = or_none _

-- a property that isn't so in the old node
abbrev pub changed_from : List (Name × Property) → Name → Property → Option Property
changed_from old n x = cond (not (option_map_or (same_property x) (lookup (is_at (name_cmp n)) old) false)) (Some x) None

changed_found : (old : List (Name × Property)) (n : Name) (new : List (Name × Property)) → is_sorted name_cmp new ≡ true
    → lookup (is_at (name_cmp n)) (filter (λ m. not (option_map_or (same_property m.1) (lookup (is_at (name_cmp m.0)) old) false)) new) ≡ option_and_then (changed_from old n) (lookup (is_at (name_cmp n)) new)
changed_found old n [] s = refl
changed_found old n (m ∷ new) s = by (is_changed m) refl (eq_by_cmp name_cmp n m.0) refl (changed_found old n new (second _ _ s))
  where
    is_changed : Name × Property → Bool
    is_changed m = not (option_map_or (same_property m.1) (lookup (is_at (name_cmp m.0)) old) false)

    here : eq_by_cmp name_cmp n m.0 ≡ true → not (option_map_or (same_property m.1) (lookup (is_at (name_cmp n)) old) false) ≡ is_changed m
    here g = ap (λ k. not (option_map_or (same_property m.1) (lookup (is_at (name_cmp k)) old) false)) (same_name n m.0 g)

    by : (b : Bool) → is_changed m ≡ b → (c : Bool) → eq_by_cmp name_cmp n m.0 ≡ c → lookup (is_at (name_cmp n)) (filter is_changed new) ≡ option_and_then (changed_from old n) (lookup (is_at (name_cmp n)) new)
        → lookup (is_at (name_cmp n)) (cond b (m ∷ filter is_changed new) (filter is_changed new)) ≡ option_and_then (changed_from old n) (cond c (Some m.1) (lookup (is_at (name_cmp n)) new))
    by true h true g rest = ap (λ b. cond b (Some m.1) (lookup (is_at (name_cmp n)) (filter is_changed new))) g ∙ ap (λ b. cond b (Some m.1) None) (sym (here g ∙ h))
    by true h false g rest = ap (λ b. cond b (Some m.1) (lookup (is_at (name_cmp n)) (filter is_changed new))) g ∙ rest
    by false h true g rest =
        rest
        ∙ (ap (option_and_then (changed_from old n)) (none_below name_cmp nat_list_cmp_total n m.0 (exactly _ g) new (first _ _ s)) ∙ ap (λ b. cond b (Some m.1) None) (sym (here g ∙ h)))
    by false h false g rest = rest

taken_put : (p : Path) (n : Name) (e : Path × Node) → written (put_of p n) (taking e) ≡ cond (eq_by_cmp path_cmp p e.0) (cond (is_some (lookup (is_at (name_cmp n)) e.1.props)) (Some None) None) None
taken_put p n e = or_none _ ∙ unset_found p e.0 n e.1.props

-- what is written of a property of a node that may differ: it is put, or else unset where it was there and isn't any more
abbrev pub written_of : List (Name × Property) → Name → Node → Option (Option Property)
written_of old n node =
    option_or (option_map Some (option_and_then (changed_from old n) (lookup (is_at (name_cmp n)) node.props)))
    (cond (is_some (cond (is_none (lookup (is_at (name_cmp n)) node.props)) (lookup (is_at (name_cmp n)) old) None)) (Some None) None)

both_at : {X : Type 0} (b : Bool) (x y : Option X) → option_or (cond b x None) (cond b y None) ≡ cond b (option_or x y) None
both_at true x y = refl
both_at false x y = refl

no_put_here : (p q : Path) (n : Name) (c : Bool) → written (put_of p n) (cond c [] (Here q ∷ [])) ≡ None
no_put_here p q n true = refl
no_put_here p q n false = refl

changed_put : (t : Nodes) (p : Path) (n : Name) (e : Path × Node) → is_sorted name_cmp e.1.props ≡ true → written (put_of p n) (node_changes t e) ≡ cond (eq_by_cmp path_cmp p e.0) (written_of (properties_at t p) n e.1) None
changed_put t p n e s =
    written-append (put_of p n) (cond (is_some (node_at t e.0)) [] (Here e.0 ∷ [])) (property_changes e.0 old new)
    ∙ (ap (option_or (written (put_of p n) (property_changes e.0 old new))) (no_put_here p e.0 n (is_some (node_at t e.0)))
    ∙ (or_none (written (put_of p n) (property_changes e.0 old new))
    ∙ (written-append (put_of p n) (map (λ m. Unset e.0 m.0) missing) (map (λ m. Put e.0 m.0 m.1) changed)
    ∙ (ap (λ o. option_or o (written (put_of p n) (map (λ m. Unset e.0 m.0) missing))) (put_found p e.0 n changed (sorted_filter name_cmp _ new s))
    ∙ (ap (option_or (cond (eq_by_cmp path_cmp p e.0) (option_map Some (lookup (is_at (name_cmp n)) changed)) None)) (unset_found p e.0 n missing)
    ∙ (both_at (eq_by_cmp path_cmp p e.0) _ _
    ∙ (ap (λ (o : Option Property). cond (eq_by_cmp path_cmp p e.0) (option_or (option_map Some o) (cond (is_some (lookup (is_at (name_cmp n)) missing)) (Some None) None)) None) (changed_found old n new s)
    ∙ (ap (λ (o : Option Property). cond (eq_by_cmp path_cmp p e.0) (option_or (option_map Some (option_and_then (changed_from old n) (lookup (is_at (name_cmp n)) new))) (cond (is_some o) (Some None) None)) None) (kept_at name_cmp same_name (λ k. is_none (lookup (is_at (name_cmp k)) new)) n old)
    ∙ by (eq_by_cmp path_cmp p e.0) refl))))))))
  where
    old : List (Name × Property)
    old = properties_at t e.0

    new : List (Name × Property)
    new = e.1.props

    missing : List (Name × Property)
    missing = filter (λ m. is_none (lookup (is_at (name_cmp m.0)) new)) old

    changed : List (Name × Property)
    changed = filter (λ m. not (option_map_or (same_property m.1) (lookup (is_at (name_cmp m.0)) old) false)) new

    by : (b : Bool) → eq_by_cmp path_cmp p e.0 ≡ b → cond b (written_of old n e.1) None ≡ cond b (written_of (properties_at t p) n e.1) None
    by true h = ap (λ q. written_of (properties_at t q) n e.1) (sym (same_path p e.0 h))
    by false h = refl

-- ---- the law

all_true : (es : Nodes) → list_all (λ e. true) es ≡ true
all_true [] = refl
all_true (e ∷ es) = all_true es

-- what the changes write of a node
here_changed : (t u : Nodes) → InOrder t → InOrder u → (p : Path) → written (here_of p) (changes t u) ≡ option_or (option_and_then (λ node. cond (is_some (node_at t p)) None (Some true)) (node_at u p)) (option_and_then (λ node. Some false) (cond (is_none (node_at u p)) (node_at t p) None))
here_changed t u s o p =
    changes_read (record { path = p; name = None }) (here_of p) (here_reads p) t u
    ∙ (written-append (here_of p) (nodes_taken u t) (nodes_changed t u)
    ∙ (ap (λ b. option_or b (written (here_of p) (nodes_taken u t))) (nodes_read (here_of p) (node_changes t) p (λ node. cond (is_some (node_at t p)) None (Some true)) (λ node. true) (λ e k. changed_here t p e) u o (all_true u))
    ∙ ap (option_or (option_and_then (λ node. cond (is_some (node_at t p)) None (Some true)) (node_at u p)))
    (nodes_read (here_of p) taking p (λ node. Some false) (λ node. true) (λ e k. taken_here p e) (filter (λ e. is_none (node_at u e.0)) t) (sorted_filter path_cmp _ t s) (all_true (filter (λ e. is_none (node_at u e.0)) t))
    ∙ ap (option_and_then (λ node. Some false)) (kept_at path_cmp same_path (λ q. is_none (node_at u q)) p t))))

-- and of a property
pub put_changed_of : (t u : Nodes) → InOrder t → InOrder u → has_names_in_order u ≡ true → (p : Path) (n : Name)
    → written (put_of p n) (changes t u) ≡ option_or (option_and_then (written_of (properties_at t p) n) (node_at u p)) (option_and_then (λ node. cond (is_some (lookup (is_at (name_cmp n)) node.props)) (Some None) None) (cond (is_none (node_at u p)) (node_at t p) None))
put_changed_of t u s o names p n =
    changes_read (record { path = p; name = Some n }) (put_of p n) (put_reads p n) t u
    ∙ (written-append (put_of p n) (nodes_taken u t) (nodes_changed t u)
    ∙ (ap (λ b. option_or b (written (put_of p n) (nodes_taken u t))) (nodes_read (put_of p n) (node_changes t) p (written_of (properties_at t p) n) (λ node. is_sorted name_cmp node.props) (λ e k. changed_put t p n e k) u o names)
    ∙ ap (option_or (option_and_then (written_of (properties_at t p) n) (node_at u p)))
    (nodes_read (put_of p n) taking p (λ node. cond (is_some (lookup (is_at (name_cmp n)) node.props)) (Some None) None) (λ node. true) (λ e k. taken_put p n e) (filter (λ e. is_none (node_at u e.0)) t) (sorted_filter path_cmp _ t s) (all_true (filter (λ e. is_none (node_at u e.0)) t))
    ∙ ap (option_and_then (λ node. cond (is_some (lookup (is_at (name_cmp n)) node.props)) (Some None) None)) (kept_at path_cmp same_path (λ q. is_none (node_at u q)) p t))))

has_changed : (t u : Nodes) → InOrder t → InOrder u → (p : Path) → has_after t (changes t u) p ≡ is_some (node_at u p)
has_changed t u s o p = ap (λ h. unwrap_or h (is_some (node_at t p))) (here_changed t u s o p) ∙ by (node_at t p) (node_at u p)
  where
    by : (a b : Option Node) → unwrap_or (option_or (option_and_then (λ node. cond (is_some a) None (Some true)) b) (option_and_then (λ node. Some false) (cond (is_none b) a None))) (is_some a) ≡ is_some b
    by None None = refl
    by None (Some n) = refl
    by (Some m) None = refl
    by (Some m) (Some n) = refl

-- the property that was there, with what is written of it
rewritten : (a b : Option Property)
    → unwrap_or (option_or (option_map Some (option_and_then (λ x. cond (not (option_map_or (same_property x) a false)) (Some x) None) b)) (cond (is_some (cond (is_none b) a None)) (Some None) None)) a ≡ b
rewritten None None = refl
rewritten (Some y) None = refl
rewritten None (Some x) = refl
rewritten (Some y) (Some x) = by (same_property x y) refl
  where
    by : (s : Bool) → same_property x y ≡ s → unwrap_or (option_or (option_map Some (cond (not s) (Some x) None)) None) (Some y) ≡ Some x
    by true h = ap Some (sym ((same_property_decides x y).0 h))
    by false h = refl

old_is : (n : Name) (o : Option Node) → lookup (is_at (name_cmp n)) (option_map_or (λ node. node.props) o []) ≡ prop_of n o
old_is n None = refl
old_is n (Some node) = refl

property_changed : (t u : Nodes) → InOrder t → InOrder u → has_names_in_order u ≡ true → (p : Path) (n : Name) → property_after t (changes t u) p n ≡ property_at u p n
property_changed t u s o names p n =
    ap (λ b. cond b (unwrap_or (written (put_of p n) (changes t u)) (property_at t p n)) None) (has_changed t u s o p)
    ∙ (ap (λ w. cond (is_some (node_at u p)) (unwrap_or w (property_at t p n)) None) (put_changed_of t u s o names p n)
    ∙ by (node_at u p))
  where
    gone : Node → Option (Option Property)
    gone node = cond (is_some (lookup (is_at (name_cmp n)) node.props)) (Some None) None

    by : (b : Option Node) → cond (is_some b) (unwrap_or (option_or (option_and_then (written_of (properties_at t p) n) b) (option_and_then gone (cond (is_none b) (node_at t p) None))) (property_at t p n)) None ≡ prop_of n b
    by None = refl
    by (Some node) =
        ap (λ w. unwrap_or w (property_at t p n)) (or_none (written_of (properties_at t p) n node))
        ∙ (ap (unwrap_or (written_of (properties_at t p) n node)) (sym (old_is n (node_at t p))) ∙ rewritten (lookup (is_at (name_cmp n)) (properties_at t p)) (lookup (is_at (name_cmp n)) node.props))

-- two nodes, or none, with the same properties, that the same revision added
same_node : (a b : Option Node) → IsOrderly a → IsOrderly b → is_some a ≡ is_some b → born_of a ≡ born_of b → ((n : Name) → prop_of n a ≡ prop_of n b) → a ≡ b
same_node None None s o h d e = refl
same_node None (Some y) s o h d e = absurd (false≢true h)
same_node (Some x) None s o h d e = absurd (false≢true (sym h))
same_node (Some x) (Some y) s o h d e = λ i. Some (record { props = same_lists name_cmp nat_list_cmp_total name_exact x.props y.props (s x refl) (o y refl) e i; born = d i })

-- trees with the same nodes and properties, that the same revisions added, are the same
pub same_trees : (t u : Nodes) → InOrder t → InOrder u → ((p : Path) → IsOrderly (node_at t p)) → ((p : Path) → IsOrderly (node_at u p)) → ((p : Path) → is_some (node_at t p) ≡ is_some (node_at u p)) → ((p : Path) → born_at t p ≡ born_at u p)
    → ((p : Path) (n : Name) → property_at t p n ≡ property_at u p n) → t ≡ u
same_trees t u s o names names' has born same = same_lists path_cmp path_total path_exact t u s o (λ p. same_node (node_at t p) (node_at u p) (names p) (names' p) (has p) (born p) (same p))

nobody : (o : Option Node) → born_of (option_map undate o) ≡ None
nobody None = refl
nobody (Some node) = refl

undated_is : (t : Nodes) (p : Path) → born_at (undated t) p ≡ None
undated_is t p = ap born_of (node_at-undated t p) ∙ nobody (node_at t p)

Orderly-undated : (o : Option Node) → IsOrderly o → IsOrderly (option_map undate o)
Orderly-undated None s = λ node e. absurd (false≢true (ap is_some e))
Orderly-undated (Some old) s = λ node e. subst (λ (x : Option Node). option_map_or (λ node. is_sorted name_cmp node.props) x true ≡ true) e (s old refl)

-- trees with the same nodes and properties differ in who added the nodes alone
pub alike_trees : (t u : Nodes) → InOrder t → InOrder u → ((p : Path) → IsOrderly (node_at t p)) → ((p : Path) → IsOrderly (node_at u p)) → ((p : Path) → is_some (node_at t p) ≡ is_some (node_at u p)) → ((p : Path) (n : Name) → property_at t p n ≡ property_at u p n) → undated t ≡ undated u
alike_trees t u s o names names' has same =
    same_trees (undated t) (undated u) (sorted-undated t ∙ s) (sorted-undated u ∙ o) (λ p. orderly t p (names p)) (λ p. orderly u p (names' p)) (λ p. has-undated t p ∙ (has p ∙ sym (has-undated u p)))
    (λ p. undated_is t p ∙ sym (undated_is u p)) (λ p n. property-undated t p n ∙ (same p n ∙ sym (property-undated u p n)))
  where
    orderly : (t : Nodes) (p : Path) → IsOrderly (node_at t p) → IsOrderly (node_at (undated t) p)
    orderly t p h = subst IsOrderly (sym (node_at-undated t p)) (Orderly-undated (node_at t p) h)

pub changes_applied : (born : Option Revision) (t u : Nodes) → IsTree t → IsTree u → undated (applied born t (changes t u)) ≡ undated u
changes_applied born t u tree tree' =
    let names = Orderly-all t tree.names in
    alike_trees (applied born t (changes t u)) u (order-applied born t (changes t u) tree.paths) tree'.paths (Orderly-applied born t (changes t u) tree.paths names) (Orderly-all u tree'.names)
    (λ p. has_applied born t (changes t u) tree.paths p ∙ has_changed t u tree.paths tree'.paths p)
    (λ p n. property_applied born t (changes t u) tree.paths names p n ∙ property_changed t u tree.paths tree'.paths tree'.names p n)

-- who added a node that is written, or is as it was
born_made : (a b : Option Node) → born_of b ≡ born_of a
    → cond (unwrap_or (option_or (option_and_then (λ node. cond (is_some a) None (Some true)) b) (option_and_then (λ node. Some false) (cond (is_none b) a None))) (is_some a))
    (cond (is_some (option_or (option_and_then (λ node. cond (is_some a) None (Some true)) b) (option_and_then (λ node. Some false) (cond (is_none b) a None)))) None (born_of a)) None ≡ born_of b
born_made None None h = refl
born_made None (Some n) h = sym h
born_made (Some m) None h = refl
born_made (Some m) (Some n) h = sym h

-- applied without a revision the changes give the second tree itself, where what it adds is pending and the rest was added as in the first
pub changes_exact : (t u : Nodes) → IsTree t → IsTree u → ((p : Path) → born_at u p ≡ born_at t p) → applied None t (changes t u) ≡ u
changes_exact t u tree tree' born =
    let names = Orderly-all t tree.names in
    same_trees (applied None t (changes t u)) u (order-applied None t (changes t u) tree.paths) tree'.paths (Orderly-applied None t (changes t u) tree.paths names) (Orderly-all u tree'.names)
    (λ p. has_applied None t (changes t u) tree.paths p ∙ has_changed t u tree.paths tree'.paths p)
    (λ p. born_applied None t (changes t u) tree.paths p
    ∙ (ap (λ (o : Option Bool). cond (unwrap_or o (is_some (node_at t p))) (cond (is_some o) None (born_at t p)) None) (here_changed t u tree.paths tree'.paths p) ∙ born_made (node_at t p) (node_at u p) (born p)))
    (λ p n. property_applied None t (changes t u) tree.paths names p n ∙ property_changed t u tree.paths tree'.paths tree'.names p n)
