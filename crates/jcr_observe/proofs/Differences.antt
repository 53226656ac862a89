-- The item changes of a proper edit are the differences of the trees before and after it.
use Rattle.std.proofs.Common.{◌≡◌, ◌≢◌, Bool, true, false, not, cond, ◌&&◌, ◌||◌, List, [], ◌∷◌, map, Option, None, Some, is_some, is_none, refl, sym, ap, ◌∙◌, subst}
use Rattle.std.specs.declared.cmp.Ordering.{Ordering}
use Rattle.std.specs.declared.cmp.Ordering.TheVariants.{Less, Equal, Greater}
use Rattle.std.specs.Ordering.{is_eq, eq_by_cmp, match_ordering}
use Rattle.std.specs.Option.{option_map, option_map_or, option_or, unwrap_or}
use Rattle.std.specs.List.{All, AllByRecursion, Contains, fold, list_all}
use Rattle.std.specs.List.Sorted.{IsStrictlySortedBy}
use Rattle.std.specs.FinMap.{is_sorted}
use Rattle.std.specs.Map.{lookup, keys_of, values_of}
use Rattle.std.specs.BTreeMap.{is_at, insert_entry}
use Rattle.std.proofs.lemmas.Bool.{false≢true}
use Rattle.std.proofs.lemmas.List.Elements.{All-nil, All-contains, All-from_recursion}
use Rattle.std.proofs.lemmas.Map.Views.{All-values-insert_entry, Contains-from_lookup}
use Rattle.std.proofs.lemmas.Map.Made.{Contains-values_of}
use Rattle.jr_path.specs.declared.name.Name.{Name}
use Rattle.jr_path.specs.declared.path.Item.{Item}
use Rattle.jr_path.specs.declared.path.Path.{Path}
use Rattle.jr_path.proofs.Maps.{lookup-insert_entry}
use Rattle.jr_path.proofs.Orders.{item_exact}
use Rattle.jr_rev.specs.declared.revision.Revision.{Revision}
use Rattle.jr_value.specs.declared.value.Property.{Property}
use Rattle.jr_value.specs.Values.{same_property}
use Rattle.jr_tree.specs.declared.edit.Write.{Write}
use Rattle.jr_tree.specs.declared.edit.Write.TheVariants.{Here, Gone, Put, Unset}
use Rattle.jr_tree.specs.declared.shared.ItemChange.{ItemChange}
use Rattle.jr_tree.specs.Trees.{Nodes, IsTree, node_at, property_at}
use Rattle.jr_tree.specs.Edits.{applied, is_change, item_cmp, item_of, IsProper}
use Rattle.jr_tree.specs.Items.{here_of, put_of, written}
use Rattle.jr_tree.proofs.Entries.{exactly, first, second, rising, sorted_insert}
use Rattle.jr_tree.proofs.LastWrites.{item_total}
use Rattle.jr_tree.proofs.Written.{Reads, here_reads, put_reads}
use Rattle.jr_tree.proofs.EditLaw.{has_applied, property_fitted, Orderly-all}
use Rattle.jr_tree.proofs.Proper.{proper_fits}
use Rattle.jr_tree.proofs.Undated.{changes-undated, undated-applied}
use Rattle.oak_machine.specs.Changed.{has_item, leaves_item, item_change, item_changes}
use Rattle.jcr_observe.specs.Differences.{content_at, IsDifference, AreDifferences}

-- ---- options

mapped : {X Y : Type 0} (f : X → Y) (o : Option X) → is_some o ≡ is_some (option_map f o)
mapped f None = refl
mapped f (Some x) = refl

unmapped : {X : Type 0} (o : Option X) → unwrap_or (option_map Some o) None ≡ o
unmapped None = refl
unmapped (Some x) = refl

none_apart : {X Y : Type 0} (f : X → Y) (o r : Option X) → is_none o ≡ true → is_some r ≡ true → option_map f o ≢ option_map f r
none_apart f (Some x) r n s e = false≢true n
none_apart f None None n s e = false≢true s
none_apart f None (Some y) n s e = false≢true (ap is_some e)

not_some : {X : Type 0} (o : Option X) → is_none o ≡ true → false ≡ is_some o
not_some None h = refl
not_some (Some x) h = absurd (false≢true h)

some_alike : (x : Property) (o : Option Property) → option_map_or (same_property x) o false ≡ true → true ≡ is_some o
some_alike x None h = absurd (false≢true h)
some_alike x (Some y) h = refl

not_both : (b : Bool) → (not b && b) ≡ true → ⊥
not_both true h = false≢true h
not_both false h = false≢true h

some_by : {X : Type 0} (o : Option X) → o ≢ None → is_some o ≡ true
some_by None h = absurd (h refl)
some_by (Some x) h = refl

both_there : {X Y : Type 0} (y : Y) (o r : Option X) → is_some o ≡ is_some r → option_map (λ (x : X). y) o ≡ option_map (λ (x : X). y) r
both_there y None None h = refl
both_there y None (Some x) h = absurd (false≢true h)
both_there y (Some x) None h = absurd (false≢true (sym h))
both_there y (Some x) (Some z) h = refl

-- ---- the changes, by their items

abbrev Changes : Type 0
Changes = List (Item × ItemChange)

abbrev with_changes : Nodes → Changes → List Write → Changes
with_changes t es ws = fold (λ es w. insert_entry item_cmp es (item_of w) (item_change t w)) es ws

abbrev at : Item → Changes → Option ItemChange
at i es = lookup (is_at (item_cmp i)) es

abbrev IsKeyed : Item × ItemChange → Type 0
IsKeyed e = e.1.item ≡ e.0

sorted_with : (t : Nodes) (es : Changes) (ws : List Write) → is_sorted item_cmp es ≡ true → is_sorted item_cmp (with_changes t es ws) ≡ true
sorted_with t es [] h = h
sorted_with t es (w ∷ ws) h = sorted_with t (insert_entry item_cmp es (item_of w) (item_change t w)) ws (sorted_insert item_cmp item_total (item_of w) (item_change t w) es h)

keyed_insert : (k : Item) (c : ItemChange) (es : Changes) → c.item ≡ k → AllByRecursion IsKeyed es → AllByRecursion IsKeyed (insert_entry item_cmp es k c)
keyed_insert k c [] is h = (is, tt)
keyed_insert k c (e ∷ es) is h = by (item_cmp k e.0) refl (keyed_insert k c es is h.1)
  where
    by : (o : Ordering) → item_cmp k e.0 ≡ o → AllByRecursion IsKeyed (insert_entry item_cmp es k c) → AllByRecursion IsKeyed (match_ordering o ((k, c) ∷ e ∷ es) ((e.0, c) ∷ es) (e ∷ insert_entry item_cmp es k c))
    by Less r rest = (is, h)
    by Equal r rest = (is ∙ item_exact k e.0 r, h.1)
    by Greater r rest = (h.0, rest)

keyed_with : (t : Nodes) (es : Changes) (ws : List Write) → AllByRecursion IsKeyed es → AllByRecursion IsKeyed (with_changes t es ws)
keyed_with t es [] h = h
keyed_with t es (w ∷ ws) h = keyed_with t (insert_entry item_cmp es (item_of w) (item_change t w)) ws (keyed_insert (item_of w) (item_change t w) es refl h)

items_are : (es : Changes) → AllByRecursion IsKeyed es → map (λ c. c.item) (values_of es) ≡ keys_of es
items_are [] h = refl
items_are (e ∷ es) h = λ k. h.0 k ∷ items_are es h.1 k

-- an item that is written has a change
found_with : {X : Type 0} (i : Item) (f : Write → Option X) → Reads i f → (t : Nodes) (es : Changes) (ws : List Write) → is_some (at i (with_changes t es ws)) ≡ (is_some (written f ws) || is_some (at i es))
found_with i f reads t es [] = refl
found_with {X} i f reads t es (w ∷ ws) =
    found_with i f reads t (insert_entry item_cmp es (item_of w) (item_change t w)) ws
    ∙ (ap (λ (o : Option ItemChange). is_some (written f ws) || is_some o) (lookup-insert_entry item_cmp item_total i (item_of w) (item_change t w) es)
    ∙ by (written f ws) (f w) (eq_by_cmp item_cmp i (item_of w)) (at i es) (reads w))
  where
    by : (o r : Option X) (b : Bool) (there : Option ItemChange) → is_some r ≡ b → (is_some o || is_some (cond b (Some (item_change t w)) there)) ≡ (is_some (option_or o r) || is_some there)
    by (Some x) r b there h = refl
    by None (Some x) true there h = refl
    by None (Some x) false there h = absurd (false≢true (sym h))
    by None None true there h = absurd (false≢true h)
    by None None false there h = refl

found : {X : Type 0} (i : Item) (f : Write → Option X) → Reads i f → (t : Nodes) (ws : List Write) → written f ws ≢ None → is_some (at i (with_changes t [] ws)) ≡ true
found i f reads t ws h = found_with i f reads t [] ws ∙ ap (λ b. b || false) (some_by (written f ws) h)

-- ---- the changes are differences

module _ (t u : Nodes) where
  is_difference : (w : Write) → is_change t u w ≡ true → IsDifference t u (item_change t w)
  is_difference (Here p) h = record {
    differs = none_apart (λ node. None) (node_at t p) (node_at u p) (first _ _ h) (second _ _ h);
    before = mapped (λ node. None) (node_at t p);
    after = sym (second _ _ h) ∙ mapped (λ node. None) (node_at u p);
  }
  is_difference (Gone p) h = record {
    differs = λ e. none_apart (λ node. None) (node_at u p) (node_at t p) (second _ _ h) (first _ _ h) (sym e);
    before = mapped (λ node. None) (node_at t p);
    after = not_some (node_at u p) (second _ _ h) ∙ mapped (λ node. None) (node_at u p);
  }
  is_difference (Put p n x) h = record {
    differs = λ e.
        let same : property_at t p n ≡ property_at u p n = sym (unmapped (property_at t p n)) ∙ (ap (λ (o : Option (Option Property)). unwrap_or o None) e ∙ unmapped (property_at u p n)) in
        not_both (option_map_or (same_property x) (property_at u p n) false)
        (ap (λ (o : Option Property). not (option_map_or (same_property x) o false) && option_map_or (same_property x) (property_at u p n) false) (sym same) ∙ h);
    before = mapped Some (property_at t p n);
    after = some_alike x (property_at u p n) (second _ _ h) ∙ mapped Some (property_at u p n);
  }
  is_difference (Unset p n) h = record {
    differs = λ e. none_apart Some (property_at u p n) (property_at t p n) (second _ _ h) (first _ _ h) (sym e);
    before = mapped Some (property_at t p n);
    after = not_some (property_at u p n) (second _ _ h) ∙ mapped Some (property_at u p n);
  }

  all_with : (es : Changes) (ws : List Write) → list_all (is_change t u) ws ≡ true → All (IsDifference t u) (values_of es) → All (IsDifference t u) (values_of (with_changes t es ws))
  all_with es [] h rest = rest
  all_with es (w ∷ ws) h rest =
      all_with (insert_entry item_cmp es (item_of w) (item_change t w)) ws (second _ _ h)
      (All-values-insert_entry item_cmp (item_of w) (item_change t w) (IsDifference t u) es rest (is_difference w (first _ _ h)))

  -- two differences at one item are the same change
  same_change : (c d : ItemChange) → c.item ≡ d.item → IsDifference t u c → IsDifference t u d → c ≡ d
  same_change c d same this that = λ k. record {
    item = same k;
    before = (this.before ∙ (ap (λ i. is_some (content_at t i)) same ∙ sym that.before)) k;
    after = (this.after ∙ (ap (λ i. is_some (content_at u i)) same ∙ sym that.after)) k;
  }

-- ---- no difference is missed

item_is : (i j : Item) → eq_by_cmp item_cmp i j ≡ true → i ≡ j
item_is i j h = item_exact i j (exactly _ h)

module _ (born : Option Revision) (t : Nodes) (ws : List Write) (tree : IsTree t) (proper : IsProper t ws) where
  abbrev after : Nodes
  after = applied born t ws

  all_changed : list_all (is_change t after) ws ≡ true
  all_changed =
      sym (changes-undated t after ws)
      ∙ (ap (λ (u : Nodes). list_all (is_change t u) ws) (undated-applied born t ws ∙ sym (undated-applied None t ws))
      ∙ (changes-undated t (applied None t ws) ws ∙ proper.changing))

  -- an item that isn't written stays
  node_stays : (p : Path) → written (here_of p) ws ≡ None → is_some (node_at t p) ≡ is_some (node_at after p)
  node_stays p none = sym (has_applied born t ws tree.paths p ∙ ap (λ (o : Option Bool). unwrap_or o (is_some (node_at t p))) none)

  property_stays : (p : Path) (n : Name) → written (put_of p n) ws ≡ None → property_at t p n ≡ property_at after p n
  property_stays p n none =
      sym (property_fitted born t ws tree.paths (Orderly-all t tree.names) (proper_fits t ws tree.paths proper) p n
      ∙ ap (λ (o : Option (Option Property)). unwrap_or o (property_at t p n)) none)

  found_where : (p : Path) (name : Option Name) → content_at t (record { path = p; name = name }) ≢ content_at after (record { path = p; name = name })
      → is_some (at (record { path = p; name = name }) (with_changes t [] ws)) ≡ true
  found_where p None differs = found (record { path = p; name = None }) (here_of p) (here_reads p) t ws (λ none. differs (both_there None (node_at t p) (node_at after p) (node_stays p none)))
  found_where p (Some n) differs = found (record { path = p; name = Some n }) (put_of p n) (put_reads p n) t ws (λ none. differs (ap (λ (o : Option Property). option_map Some o) (property_stays p n none)))

  abbrev changes : Changes
  changes = with_changes t [] ws

  keyed : All IsKeyed changes
  keyed = All-from_recursion IsKeyed changes (keyed_with t [] ws tt)

  each : All (IsDifference t after) (values_of changes)
  each = all_with t after [] ws all_changed (All-nil (IsDifference t after))

  is_among : (c : ItemChange) → IsDifference t after c → Contains (values_of changes) c
  is_among c difference = by (at c.item changes) refl (found_where c.item.path c.item.name difference.differs)
    where
      by : (o : Option ItemChange) → at c.item changes ≡ o → is_some o ≡ true → Contains (values_of changes) c
      by None is some = absurd (false≢true some)
      by (Some d) is some =
          let entry : Contains changes (c.item, d) = Contains-from_lookup {eq = eq_by_cmp item_cmp} item_is c.item d changes is in
          let there : Contains (values_of changes) d = Contains-values_of changes c.item d entry in
          let same : d.item ≡ c.item = All-contains IsKeyed changes (c.item, d) keyed entry in
          subst (Contains (values_of changes)) (same_change t after d c same (All-contains (IsDifference t after) (values_of changes) d each there) difference) there

  pub are_differences : AreDifferences t (applied born t ws) (item_changes t ws)
  are_differences = record {
    ordered = subst (IsStrictlySortedBy item_cmp) (sym (items_are changes (keyed_with t [] ws tt))) (rising item_cmp changes (sorted_with t [] ws refl));
    exact = λ c. (λ h. All-contains (IsDifference t after) (values_of changes) c each h, is_among c);
  }
