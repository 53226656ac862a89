-- A check-in leaves the frozen nodes of its version in the tree.
use Rattle.std.proofs.Common.{◌≡◌, Bool, true, false, cond, ◌++◌, Some, None, Option, List, [], ◌∷◌, drop, length, refl, sym, ap, ◌∙◌, subst, append_assoc, append-nil}
use Rattle.std.specs.Prelude.{is_some}
use Rattle.std.specs.Ordering.{eq_by_cmp, is_lt, ordering_then}
use Rattle.std.specs.Option.{option_and_then}
use Rattle.std.specs.List.{cons_option, filter, filter_map, fold, list_all}
use Rattle.std.specs.BTreeMap.{insert_entry}
use Rattle.std.specs.FinMap.{is_sorted}
use Rattle.std.specs.FinMap.Entries.{below_all}
use Rattle.std.proofs.Math.Seq.{drop-append_seam}
use Rattle.std.proofs.lemmas.Bool.{and_from, and_parts, false≢true}
use Rattle.std.proofs.lemmas.Cmp.{nat_list_cmp_total, tied_itself}
use Rattle.basics.proofs.Options.{none_unless}
use Rattle.jr_path.specs.Names.{is_under, name_cmp, path_cmp}
use Rattle.jr_path.specs.declared.name.Name.{Name}
use Rattle.jr_path.specs.declared.path.Path.{Path}
use Rattle.jr_path.proofs.Parts.{below_is_prefix}
use Rattle.jr_rev.specs.declared.revision.Revision.{Revision}
use Rattle.jr_value.specs.declared.value.Property.{Property}
use Rattle.jr_value.specs.declared.value.Property.TheVariants.{Single}
use Rattle.jr_value.specs.declared.value.Value.TheVariants as value
use Rattle.jr_tree.specs.declared.edit.Write.{Write}
use Rattle.jr_tree.specs.declared.tree.Node.{Node}
use Rattle.jr_tree.specs.Edits.{applied}
use Rattle.jr_tree.specs.Trees.{IsTree, Nodes, has_names_in_order, node_at, property_at, subtree_of, undated}
use Rattle.jr_tree.proofs.AtPath.{order-applied}
use Rattle.jr_tree.proofs.ChangesLaw.{alike_trees}
use Rattle.jr_tree.proofs.EditLaw.{IsOrderly, Orderly-all, Orderly-applied}
use Rattle.jr_tree.proofs.Entries.{sorted_filter, sorted_insert}
use Rattle.jr_items.specs.Items.{adding, property_of}
use Rattle.jr_items.specs.Names.{frozen_mixin_types, frozen_node, frozen_primary_type, frozen_type, frozen_uuid, mixin_types, primary_type, uuid}
use Rattle.jr_types.specs.declared.TypeDef.{TypeDef}
use Rattle.jcr_lock.specs.Needed.{is_needed}
use Rattle.jcr_frozen.specs.declared.frozen.Share.TheVariants as share
use Rattle.jcr_frozen.specs.Frozen.{frozen_copy, frozen_props, frozen_tree, is_copied, is_frozen_with, share_of, with_frozen_own, with_optional_property, with_in_share}
use Rattle.jcr_restore.specs.Edits.{frozen_of}
use Rattle.jcr_restore.proofs.Added.{is_elsewhere, node_there, prop_there}
use Rattle.jcr_restore.proofs.Standing.{above_there, all_below, found_passes, node_below, same_front, under_itself}

-- ---- the properties of a frozen node stand in order

sorted_property : (props : List (Name × Property)) (n : Name) (o : Option Property)
    → is_sorted name_cmp props ≡ true → is_sorted name_cmp (with_optional_property props n o) ≡ true
sorted_property props n None s = s
sorted_property props n (Some x) s = sorted_insert name_cmp nat_list_cmp_total n x props s

sorted_copied : (types : List TypeDef) (node : Node) (es props : List (Name × Property))
    → is_sorted name_cmp props ≡ true
    → is_sorted name_cmp (fold (with_in_share share.Copied types node) props es) ≡ true
sorted_copied types node [] props s = s
sorted_copied types node (e ∷ es) props s =
    sorted_copied types node es (with_in_share share.Copied types node props e) (by (is_copied types node e.0 e.1))
  where
    by : (b : Bool) → is_sorted name_cmp (cond b (insert_entry name_cmp props e.0 e.1) props) ≡ true
    by true = sorted_insert name_cmp nat_list_cmp_total e.0 e.1 props s
    by false = s

sorted_own : (node : Node) (props : List (Name × Property)) → is_sorted name_cmp props ≡ true
    → is_sorted name_cmp (with_frozen_own node props) ≡ true
sorted_own node props s =
    sorted_property told frozen_uuid (property_of node uuid)
    (sorted_property told_primary frozen_mixin_types (property_of node mixin_types)
    (sorted_property typed frozen_primary_type (property_of node primary_type)
    (sorted_insert name_cmp nat_list_cmp_total primary_type (Single (value.Name frozen_type)) props
    s)))
  where
    typed : List (Name × Property)
    typed = insert_entry name_cmp props primary_type (Single (value.Name frozen_type))

    told_primary : List (Name × Property)
    told_primary = with_optional_property typed frozen_primary_type (property_of node primary_type)

    told : List (Name × Property)
    told = with_optional_property told_primary frozen_mixin_types (property_of node mixin_types)

sorted_frozen : (types : List TypeDef) (node : Node)
    → is_sorted name_cmp (frozen_props types node) ≡ true
sorted_frozen types node =
    sorted_own node (share_of share.Copied types node)
    (sorted_copied types node node.props [] refl)

-- ---- the frozen nodes stand in order

-- behind one path two paths stand as without it
behind : (p a b : Path) → path_cmp (p ++ a) (p ++ b) ≡ path_cmp a b
behind [] a b = refl
behind (n ∷ p) a b =
    ap (λ o. ordering_then o (path_cmp (p ++ a) (p ++ b))) (tied_itself nat_list_cmp_total n)
    ∙ behind p a b

-- paths below p stand at f as at p
moved : (p f a b : Path) → is_under a p ≡ true → is_under b p ≡ true
    → path_cmp (f ++ drop (length p) a) (f ++ drop (length p) b) ≡ path_cmp a b
moved p f a b h k =
    let x = (below_is_prefix a p).0 h in
    let y = (below_is_prefix b p).0 k in
    let x_is : drop (length p) a ≡ x.0 = ap (drop (length p)) x.1 ∙ drop-append_seam p x.0 in
    let y_is : drop (length p) b ≡ y.0 = ap (drop (length p)) y.1 ∙ drop-append_seam p y.0 in
    behind f (drop (length p) a) (drop (length p) b)
    ∙ ((λ i. path_cmp (x_is i) (y_is i))
    ∙ (sym (behind p x.0 y.0) ∙ sym (λ i. path_cmp (x.1 i) (y.1 i))))

module _ (types : List TypeDef) (t : Nodes) (p f : Path) where
  -- the frozen nodes of some nodes
  abbrev frozen_part : Nodes → Nodes
  frozen_part es =
      filter_map (λ e. cond (is_frozen_with types t p e.0)
      (Some (f ++ drop (length p) e.0, frozen_copy types e.1)) None) es

  below_part : (x : Path) → is_under x p ≡ true → (es : Nodes)
      → list_all (λ e. is_under e.0 p) es ≡ true → below_all path_cmp x es ≡ true
      → below_all path_cmp (f ++ drop (length p) x) (frozen_part es) ≡ true
  below_part x under [] all below = refl
  below_part x under (e ∷ es) all below =
      by (is_frozen_with types t p e.0)
      (below_part x under es (and_parts _ _ all).1 (and_parts _ _ below).1)
    where
      by : (b : Bool) → below_all path_cmp (f ++ drop (length p) x) (frozen_part es) ≡ true
          → below_all path_cmp (f ++ drop (length p) x)
          (cons_option (cond b (Some (f ++ drop (length p) e.0, frozen_copy types e.1)) None)
          (frozen_part es)) ≡ true
      by true rest =
          and_from _ _
          (ap is_lt (moved p f x e.0 under (and_parts _ _ all).0) ∙ (and_parts _ _ below).0) rest
      by false rest = rest

  sorted_part : (es : Nodes) → list_all (λ e. is_under e.0 p) es ≡ true
      → is_sorted path_cmp es ≡ true → is_sorted path_cmp (frozen_part es) ≡ true
  sorted_part [] all s = refl
  sorted_part (e ∷ es) all s =
      by (is_frozen_with types t p e.0) (sorted_part es (and_parts _ _ all).1 (and_parts _ _ s).1)
    where
      by : (b : Bool) → is_sorted path_cmp (frozen_part es) ≡ true
          → is_sorted path_cmp
          (cons_option (cond b (Some (f ++ drop (length p) e.0, frozen_copy types e.1)) None)
          (frozen_part es)) ≡ true
      by true rest =
          and_from _ _
          (below_part e.0 (and_parts _ _ all).0 es (and_parts _ _ all).1 (and_parts _ _ s).0) rest
      by false rest = rest

  names_part : (es : Nodes) → has_names_in_order (frozen_part es) ≡ true
  names_part [] = refl
  names_part (e ∷ es) = by (is_frozen_with types t p e.0) (names_part es)
    where
      by : (b : Bool) → has_names_in_order (frozen_part es) ≡ true → has_names_in_order
          (cons_option (cond b (Some (f ++ drop (length p) e.0, frozen_copy types e.1)) None)
          (frozen_part es)) ≡ true
      by true rest = and_from _ _ (sorted_frozen types e.1) rest
      by false rest = rest

  pub under_part : (es : Nodes) → list_all (λ e. is_under e.0 f) (frozen_part es) ≡ true
  under_part [] = refl
  under_part (e ∷ es) = by (is_frozen_with types t p e.0) (under_part es)
    where
      by : (b : Bool) → list_all (λ e. is_under e.0 f) (frozen_part es) ≡ true
          → list_all (λ e. is_under e.0 f)
          (cons_option (cond b (Some (f ++ drop (length p) e.0, frozen_copy types e.1)) None)
          (frozen_part es)) ≡ true
      by true rest = and_from _ _ (under_itself f (drop (length p) e.0)) rest
      by false rest = rest

  -- no revision added them
  undated_part : (es : Nodes) → undated (frozen_part es) ≡ frozen_part es
  undated_part [] = refl
  undated_part (e ∷ es) = by (is_frozen_with types t p e.0) (undated_part es)
    where
      by : (b : Bool) → undated (frozen_part es) ≡ frozen_part es
          → undated
          (cons_option (cond b (Some (f ++ drop (length p) e.0, frozen_copy types e.1)) None)
          (frozen_part es))
          ≡ cons_option (cond b (Some (f ++ drop (length p) e.0, frozen_copy types e.1)) None)
          (frozen_part es)
      by true rest =
          ap (λ (us : Nodes). (f ++ drop (length p) e.0, frozen_copy types e.1) ∷ us) rest
      by false rest = rest

-- ---- what stands at and below a path

-- two lists of nodes below f that agree on each node below f
module _ (f : Path) (a b : Nodes) (under_a : list_all (λ e. is_under e.0 f) a ≡ true)
    (under_b : list_all (λ e. is_under e.0 f) b ≡ true)
    (there : (ns : List Name) → is_some (node_at a (f ++ ns)) ≡ is_some (node_at b (f ++ ns)))
    (props : (ns : List Name) (n : Name)
    → property_at a (f ++ ns) n ≡ property_at b (f ++ ns) n) where
  outside : (u : Nodes) → list_all (λ e. is_under e.0 f) u ≡ true → (q : Path)
      → is_under q f ≡ false → node_at u q ≡ None
  outside u under q h =
      none_unless _ (λ some. false≢true (sym h ∙ found_passes (λ r. is_under r f) q u under some))

  pub same_there : (q : Path) → is_some (node_at a q) ≡ is_some (node_at b q)
  same_there q = by (is_under q f) refl
    where
      by : (c : Bool) → is_under q f ≡ c → is_some (node_at a q) ≡ is_some (node_at b q)
      by true h =
          let more = (below_is_prefix q f).0 h in
          ap (λ (r : Path). is_some (node_at a r)) more.1
          ∙ (there more.0 ∙ sym (ap (λ (r : Path). is_some (node_at b r)) more.1))
      by false h = ap is_some (outside a under_a q h ∙ sym (outside b under_b q h))

  pub same_props : (q : Path) (n : Name) → property_at a q n ≡ property_at b q n
  same_props q n = by (is_under q f) refl
    where
      by : (c : Bool) → is_under q f ≡ c → property_at a q n ≡ property_at b q n
      by true h =
          let more = (below_is_prefix q f).0 h in
          ap (λ (r : Path). property_at a r n) more.1
          ∙ (props more.0 n ∙ sym (ap (λ (r : Path). property_at b r n) more.1))
      by false h =
          ap (λ (o : Option Node). option_and_then (λ node. property_of node n) o)
          (outside a under_a q h ∙ sym (outside b under_b q h))

  pub orderly_below : ((q : Path) → IsOrderly (node_at a (f ++ q))) → (q : Path)
      → IsOrderly (node_at a q)
  orderly_below orderly q = by (is_under q f) refl
    where
      by : (c : Bool) → is_under q f ≡ c → IsOrderly (node_at a q)
      by true h =
          let more = (below_is_prefix q f).0 h in
          subst (λ (r : Path). IsOrderly (node_at a r)) (sym more.1) (orderly more.0)
      by false h =
          subst IsOrderly (sym (outside a under_a q h))
          (λ node e. absurd (false≢true (ap is_some e)))

-- the frozen nodes of p are added below a version, where no node is
module _ (types : List TypeDef) (born : Option Revision) (t : Nodes) (tree : IsTree t) (p v : Path)
    (version : Node) (rest : List Write) (free : node_at t v ≡ None)
    (elsewhere : (n : Name) (ns : List Name)
    → list_all (is_elsewhere (v ++ n ∷ ns)) rest ≡ true) where
  abbrev place : Path
  place = frozen_of v

  abbrev added : Nodes
  added = frozen_tree types t p place

  abbrev edit : List Write
  edit = filter (is_needed t) (adding ((v, version) ∷ added) ++ rest)

  abbrev after : Nodes
  after = applied born t edit

  sorted : is_sorted path_cmp added ≡ true
  sorted =
      sorted_part types t p place (subtree_of t p) (all_below p t)
      (sorted_filter path_cmp _ t tree.paths)

  names : has_names_in_order added ≡ true
  names = names_part types t p place (subtree_of t p)

  onward : (ns : List Name) → place ++ ns ≡ v ++ frozen_node ∷ ns
  onward ns = append_assoc v (frozen_node ∷ []) ns

  free_below : (ns : List Name) → node_at t (place ++ ns) ≡ None
  free_below ns =
      none_unless _
      (λ some. false≢true (sym (ap is_some free)
      ∙ above_there t tree v (frozen_node ∷ ns)
      (ap (λ (r : Path). is_some (node_at t r)) (sym (onward ns)) ∙ some)))

  beside : (ns : List Name) → eq_by_cmp path_cmp (place ++ ns) v ≡ false
  beside ns =
      ap (λ (r : Path). eq_by_cmp path_cmp r v) (onward ns)
      ∙ (ap (λ (r : Path). eq_by_cmp path_cmp (v ++ frozen_node ∷ ns) r) (sym (append-nil v))
      ∙ same_front v (frozen_node ∷ ns) [])

  apart : (ns : List Name) → list_all (is_elsewhere (place ++ ns)) rest ≡ true
  apart ns =
      ap (λ (r : Path). list_all (is_elsewhere r) rest) (onward ns) ∙ elsewhere frozen_node ns

  there : (ns : List Name)
      → is_some (node_at (subtree_of after place) (place ++ ns))
      ≡ is_some (node_at added (place ++ ns))
  there ns =
      ap is_some (node_below after place ns)
      ∙ node_there born t tree (place ++ ns) v version added rest sorted names (free_below ns)
      (beside ns) (apart ns)

  props : (ns : List Name) (n : Name)
      → property_at (subtree_of after place) (place ++ ns) n ≡ property_at added (place ++ ns) n
  props ns n =
      ap (λ (o : Option Node). option_and_then (λ node. property_of node n) o)
      (node_below after place ns)
      ∙ prop_there born t tree (place ++ ns) v version added rest sorted names (free_below ns)
      (beside ns) (apart ns) n

  orderly : (ns : List Name) → IsOrderly (node_at (subtree_of after place) (place ++ ns))
  orderly ns =
      subst IsOrderly (sym (node_below after place ns))
      (Orderly-applied born t edit tree.paths (Orderly-all t tree.names) (place ++ ns))

  under_added : list_all (λ e. is_under e.0 place) added ≡ true
  under_added = under_part types t p place (subtree_of t p)

  -- afterwards they are there
  pub frozen_stays : undated (subtree_of after place) ≡ added
  frozen_stays =
      alike_trees (subtree_of after place) added
      (sorted_filter path_cmp _ after (order-applied born t edit tree.paths)) sorted
      (orderly_below place (subtree_of after place) added (all_below place after) under_added there
      props orderly)
      (Orderly-all added names)
      (same_there place (subtree_of after place) added (all_below place after) under_added there
      props)
      (same_props place (subtree_of after place) added (all_below place after) under_added there
      props)
      ∙ undated_part types t p place (subtree_of t p)
