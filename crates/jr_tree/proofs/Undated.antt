-- Trees without the revisions that added their nodes: an edit makes of one what it makes of the tree.
use Rattle.std.proofs.Common.{◌≡◌, Bool, true, false, cond, ◌&&◌, not, List, [], ◌∷◌, map, Option, None, Some, is_some, is_none, refl, sym, ap, ◌∙◌, subst}
use Rattle.std.specs.declared.cmp.Ordering.{Ordering}
use Rattle.std.specs.declared.cmp.Ordering.TheVariants.{Less, Equal, Greater}
use Rattle.std.specs.Ordering.{is_lt, match_ordering}
use Rattle.std.specs.Option.{option_map, option_map_or}
use Rattle.std.specs.Map.{lookup, remove_entry, set_value}
use Rattle.std.specs.BTreeMap.{is_at, insert_entry}
use Rattle.std.specs.List.{fold, list_all}
use Rattle.std.specs.FinMap.{is_sorted}
use Rattle.std.specs.FinMap.Entries.{below_all}
use Rattle.jr_path.specs.Names.{name_cmp, path_cmp, parent_of}
use Rattle.jr_path.specs.declared.name.Name.{Name}
use Rattle.jr_path.specs.declared.path.Path.{Path}
use Rattle.jr_rev.specs.declared.revision.Revision.{Revision}
use Rattle.jr_value.specs.declared.value.Property.{Property}
use Rattle.jr_value.specs.Values.{same_property}
use Rattle.jr_tree.specs.declared.tree.Node.{Node}
use Rattle.jr_tree.specs.declared.edit.Write.{Write}
use Rattle.jr_tree.specs.declared.edit.Write.TheVariants.{Here, Gone, Put, Unset}
use Rattle.jr_tree.specs.Trees.{Nodes, has_parent, node_at, property_at, undated, IsTree}
use Rattle.jr_tree.specs.Edits.{applied, is_change, last_writes, properties_at, with_node_write, with_property_write, IsProper}
use Rattle.jr_tree.proofs.AtPath.{prop_of, props_of}

abbrev pub undate : Node → Node
undate node = record node { born = None }

-- ---- what is changed in each value of a map

module _ {K X : Type 0} (f : X → X) where
  abbrev pub each : List (K × X) → List (K × X)
  each es = map (λ e. (e.0, f e.1)) es

  pub lookup-each : (test : K → Bool) (es : List (K × X)) → lookup test (each es) ≡ option_map f (lookup test es)
  lookup-each test [] = refl
  lookup-each test (e ∷ es) = by (test e.0) (lookup-each test es)
    where
      by : (b : Bool) → lookup test (each es) ≡ option_map f (lookup test es) → cond b (Some (f e.1)) (lookup test (each es)) ≡ option_map f (cond b (Some e.1) (lookup test es))
      by true rest = refl
      by false rest = rest

  remove-each : (test : K → Bool) (es : List (K × X)) → each (remove_entry test es) ≡ remove_entry test (each es)
  remove-each test [] = refl
  remove-each test (e ∷ es) = by (test e.0) (remove-each test es)
    where
      by : (b : Bool) → each (remove_entry test es) ≡ remove_entry test (each es) → each (cond b es (e ∷ remove_entry test es)) ≡ cond b (each es) ((e.0, f e.1) ∷ remove_entry test (each es))
      by true rest = refl
      by false rest = ap (λ (l : List (K × X)). (e.0, f e.1) ∷ l) rest

  set-each : (test : K → Bool) (x y : X) (es : List (K × X)) → f x ≡ y → each (set_value test es x) ≡ set_value test (each es) y
  set-each test x y [] h = refl
  set-each test x y (e ∷ es) h = by (test e.0) (set-each test x y es h)
    where
      by : (b : Bool) → each (set_value test es x) ≡ set_value test (each es) y → each (cond b ((e.0, x) ∷ es) (e ∷ set_value test es x)) ≡ cond b ((e.0, y) ∷ each es) ((e.0, f e.1) ∷ set_value test (each es) y)
      by true rest = ap (λ (z : X). (e.0, z) ∷ each es) h
      by false rest = ap (λ (l : List (K × X)). (e.0, f e.1) ∷ l) rest

  module _ (R : K → K → Ordering) where
    insert-each : (k : K) (x y : X) (es : List (K × X)) → f x ≡ y → each (insert_entry R es k x) ≡ insert_entry R (each es) k y
    insert-each k x y [] h = ap (λ (z : X). (k, z) ∷ []) h
    insert-each k x y (e ∷ es) h = by (R k e.0) (insert-each k x y es h)
      where
        by : (o : Ordering) → each (insert_entry R es k x) ≡ insert_entry R (each es) k y
            → each (match_ordering o ((k, x) ∷ e ∷ es) ((e.0, x) ∷ es) (e ∷ insert_entry R es k x)) ≡ match_ordering o ((k, y) ∷ each (e ∷ es)) ((e.0, y) ∷ each es) ((e.0, f e.1) ∷ insert_entry R (each es) k y)
        by Less rest = ap (λ (z : X). (k, z) ∷ each (e ∷ es)) h
        by Equal rest = ap (λ (z : X). (e.0, z) ∷ each es) h
        by Greater rest = ap (λ (l : List (K × X)). (e.0, f e.1) ∷ l) rest

    below-each : (k : K) (es : List (K × X)) → below_all R k (each es) ≡ below_all R k es
    below-each k [] = refl
    below-each k (e ∷ es) = ap (λ b. is_lt (R k e.0) && b) (below-each k es)

    pub sorted-each : (es : List (K × X)) → is_sorted R (each es) ≡ is_sorted R es
    sorted-each [] = refl
    sorted-each (e ∷ es) = λ i. below-each e.0 es i && sorted-each es i

  all-each : (test : K × X → Bool) → ((e : K × X) → test (e.0, f e.1) ≡ test e) → (es : List (K × X)) → list_all test (each es) ≡ list_all test es
  all-each test same [] = refl
  all-each test same (e ∷ es) = λ i. same e i && all-each test same es i

-- ---- trees

pub node_at-undated : (t : Nodes) (p : Path) → node_at (undated t) p ≡ option_map undate (node_at t p)
node_at-undated t p = lookup-each undate (is_at (path_cmp p)) t

has_undated : (o : Option Node) → is_some (option_map undate o) ≡ is_some o
has_undated None = refl
has_undated (Some node) = refl

props_undated : (o : Option Node) → props_of (option_map undate o) ≡ props_of o
props_undated None = refl
props_undated (Some node) = refl

prop_undated : (n : Name) (o : Option Node) → prop_of n (option_map undate o) ≡ prop_of n o
prop_undated n None = refl
prop_undated n (Some node) = refl

pub has-undated : (t : Nodes) (p : Path) → is_some (node_at (undated t) p) ≡ is_some (node_at t p)
has-undated t p = ap is_some (node_at-undated t p) ∙ has_undated (node_at t p)

pub property-undated : (t : Nodes) (p : Path) (n : Name) → property_at (undated t) p n ≡ property_at t p n
property-undated t p n = ap (prop_of n) (node_at-undated t p) ∙ prop_undated n (node_at t p)

pub properties-undated : (t : Nodes) (p : Path) → properties_at (undated t) p ≡ properties_at t p
properties-undated t p = ap props_of (node_at-undated t p) ∙ props_undated (node_at t p)

pub sorted-undated : (t : Nodes) → is_sorted path_cmp (undated t) ≡ is_sorted path_cmp t
sorted-undated t = sorted-each undate path_cmp t

pub names-undated : (t : Nodes) → list_all (λ e. is_sorted name_cmp e.1.props) (undated t) ≡ list_all (λ e. is_sorted name_cmp e.1.props) t
names-undated t = all-each undate (λ e. is_sorted name_cmp e.1.props) (λ e. refl) t

parent-undated : (t : Nodes) (o : Option Path) → option_map_or (λ q. is_some (node_at (undated t) q)) o true ≡ option_map_or (λ q. is_some (node_at t q)) o true
parent-undated t None = refl
parent-undated t (Some q) = has-undated t q

all_same : {X : Type 0} (f g : X → Bool) → ((x : X) → f x ≡ g x) → (xs : List X) → list_all f xs ≡ list_all g xs
all_same f g same [] = refl
all_same f g same (x ∷ xs) = λ i. same x i && all_same f g same xs i

parents-undated : (t : Nodes) → list_all (λ e. has_parent (undated t) e.0) (undated t) ≡ list_all (λ e. has_parent t e.0) t
parents-undated t = all-each undate (λ e. has_parent (undated t) e.0) (λ e. refl) t ∙ all_same _ _ (λ e. parent-undated t (parent_of e.0)) t

-- a tree is one whoever added its nodes
pub Tree-undated : (t : Nodes) → IsTree t → IsTree (undated t)
Tree-undated t tree = record {
  paths = sorted-undated t ∙ tree.paths;
  names = names-undated t ∙ tree.names;
  root = has-undated t [] ∙ tree.root;
  parents = parents-undated t ∙ tree.parents;
}

pub Tree-dated : (t : Nodes) → IsTree (undated t) → IsTree t
Tree-dated t tree = record {
  paths = sym (sorted-undated t) ∙ tree.paths;
  names = sym (names-undated t) ∙ tree.names;
  root = sym (has-undated t []) ∙ tree.root;
  parents = sym (parents-undated t) ∙ tree.parents;
}

-- two trees that differ in who added their nodes alone are both trees, or neither is
pub Tree-alike : (t u : Nodes) → undated t ≡ undated u → IsTree t → IsTree u
Tree-alike t u same tree = Tree-dated u (subst IsTree same (Tree-undated t tree))

-- ---- edits

undated-come : (born : Option Revision) (t : Nodes) (w : Write) → undated (with_node_write born t w) ≡ with_node_write None (undated t) w
undated-come born t (Here p) = insert-each undate path_cmp p _ _ t (ap (λ (ps : List (Name × Property)). record { props = ps; born = None }) (sym (properties-undated t p)))
undated-come born t (Gone p) = remove-each undate (is_at (path_cmp p)) t
undated-come born t (Put p n x) = refl
undated-come born t (Unset p n) = refl

changed-undated : (g : List (Name × Property) → List (Name × Property)) (p : Path) (t : Nodes)
    → undated (option_map_or (λ node. set_value (is_at (path_cmp p)) t (record node { props = g node.props })) (node_at t p) t)
    ≡ option_map_or (λ node. set_value (is_at (path_cmp p)) (undated t) (record node { props = g node.props })) (node_at (undated t) p) (undated t)
changed-undated g p t =
    by (node_at t p)
    ∙ ap (λ (o : Option Node). option_map_or (λ node. set_value (is_at (path_cmp p)) (undated t) (record node { props = g node.props })) o (undated t)) (sym (node_at-undated t p))
  where
    by : (o : Option Node) → undated (option_map_or (λ node. set_value (is_at (path_cmp p)) t (record node { props = g node.props })) o t)
        ≡ option_map_or (λ node. set_value (is_at (path_cmp p)) (undated t) (record node { props = g node.props })) (option_map undate o) (undated t)
    by None = refl
    by (Some node) = set-each undate (is_at (path_cmp p)) _ _ t refl

undated-filled : (t : Nodes) (w : Write) → undated (with_property_write t w) ≡ with_property_write (undated t) w
undated-filled t (Here p) = refl
undated-filled t (Gone p) = refl
undated-filled t (Put p n x) = changed-undated (λ ps. insert_entry name_cmp ps n x) p t
undated-filled t (Unset p n) = changed-undated (λ ps. remove_entry (is_at (name_cmp n)) ps) p t

undated-comes : (born : Option Revision) (t : Nodes) (ws : List Write) → undated (fold (with_node_write born) t ws) ≡ fold (with_node_write None) (undated t) ws
undated-comes born t [] = refl
undated-comes born t (w ∷ ws) = undated-comes born (with_node_write born t w) ws ∙ ap (λ (u : Nodes). fold (with_node_write None) u ws) (undated-come born t w)

undated-fills : (t : Nodes) (ws : List Write) → undated (fold with_property_write t ws) ≡ fold with_property_write (undated t) ws
undated-fills t [] = refl
undated-fills t (w ∷ ws) = undated-fills (with_property_write t w) ws ∙ ap (λ (u : Nodes). fold with_property_write u ws) (undated-filled t w)

-- an edit makes of a tree, but for who added its nodes, the same by each revision
pub undated-applied : (born : Option Revision) (t : Nodes) (ws : List Write) → undated (applied born t ws) ≡ applied None (undated t) ws
undated-applied born t ws =
    undated-fills (fold (with_node_write born) t (last_writes ws)) (last_writes ws)
    ∙ ap (λ (u : Nodes). fold with_property_write u (last_writes ws)) (undated-comes born t (last_writes ws))

-- a proper edit gives a tree, whoever makes it
pub proper_tree : (born : Option Revision) (t : Nodes) (ws : List Write) → IsProper t ws → IsTree (applied born t ws)
proper_tree born t ws proper = Tree-alike _ _ (undated-applied None t ws ∙ sym (undated-applied born t ws)) proper.tree

-- a change is one whoever added the nodes of the second tree
pub change-undated : (t u : Nodes) (w : Write) → is_change t (undated u) w ≡ is_change t u w
change-undated t u (Here p) = ap (λ b. is_none (node_at t p) && b) (has-undated u p)
change-undated t u (Gone p) = ap (λ (o : Option Node). is_some (node_at t p) && is_none o) (node_at-undated u p) ∙ ap (λ b. is_some (node_at t p) && b) (none_undated (node_at u p))
  where
    none_undated : (o : Option Node) → is_none (option_map undate o) ≡ is_none o
    none_undated None = refl
    none_undated (Some node) = refl
change-undated t u (Put p n x) = ap (λ (o : Option Property). not (option_map_or (same_property x) (property_at t p n) false) && option_map_or (same_property x) o false) (property-undated u p n)
change-undated t u (Unset p n) = ap (λ (o : Option Property). is_some (property_at t p n) && is_none o) (property-undated u p n)

pub changes-undated : (t u : Nodes) (ws : List Write) → list_all (is_change t (undated u)) ws ≡ list_all (is_change t u) ws
changes-undated t u ws = all_same _ _ (change-undated t u) ws
