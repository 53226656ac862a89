-- What an edit makes of the node at one path.
use Rattle.std.proofs.Common.{◌≡◌, Bool, true, false, cond, Some, None, Option, List, [], ◌∷◌, refl, sym, ap, ◌∙◌, subst, IsSome}
use Rattle.std.specs.Option.{option_and_then, option_map_or, option_map}
use Rattle.std.specs.Ordering.{eq_by_cmp}
use Rattle.std.specs.Cmp.{IsEquivalence}
use Rattle.std.specs.Map.{lookup, set_value, remove_entry}
use Rattle.std.specs.BTreeMap.{is_at, insert_entry}
use Rattle.std.specs.List.{fold}
use Rattle.std.specs.FinMap.{is_sorted}
use Rattle.std.proofs.lemmas.Cmp.{eq_by_cmp_equiv}
use Rattle.std.proofs.lemmas.Map.{lookup-set_value}
use Rattle.jr_path.specs.Names.{name_cmp, path_cmp}
use Rattle.jr_path.specs.declared.name.Name.{Name}
use Rattle.jr_path.specs.declared.path.Path.{Path}
use Rattle.jr_path.proofs.Maps.{path_total, lookup-insert_entry}
use Rattle.jr_rev.specs.declared.revision.Revision.{Revision}
use Rattle.jr_value.specs.declared.value.Property.{Property}
use Rattle.jr_tree.specs.declared.tree.Node.{Node}
use Rattle.jr_tree.specs.declared.edit.Write.{Write}
use Rattle.jr_tree.specs.declared.edit.Write.TheVariants.{Here, Gone, Put, Unset}
use Rattle.jr_tree.specs.Trees.{Nodes, node_at}
use Rattle.jr_tree.specs.Edits.{with_node_write, with_property_write, applied, last_writes, properties_at}
use Rattle.jr_tree.proofs.Pointwise.{same_path}
use Rattle.jr_tree.proofs.Entries.{sorted_insert, sorted_remove, sorted_set, lookup-remove}

-- the properties of a node, or none
abbrev pub props_of : Option Node → List (Name × Property)
props_of o = option_map_or (λ node. node.props) o []

-- what a write of a node makes of the node at p
abbrev pub come : Option Revision → Path → Option Node → Write → Option Node
come born p o (Here q) = cond (eq_by_cmp path_cmp p q) (Some (record { props = props_of o; born = born })) o
come born p o (Gone q) = cond (eq_by_cmp path_cmp p q) None o
come born p o (Put q m x) = o
come born p o (Unset q m) = o

-- what a write of a property makes of the node at p
abbrev pub filled : Path → Option Node → Write → Option Node
filled p o (Here q) = o
filled p o (Gone q) = o
filled p o (Put q m x) = cond (eq_by_cmp path_cmp p q) (option_map {T = Node} (λ node. record node { props = insert_entry name_cmp node.props m x }) o) o
filled p o (Unset q m) = cond (eq_by_cmp path_cmp p q) (option_map {T = Node} (λ node. record node { props = remove_entry (is_at (name_cmp m)) node.props }) o) o

abbrev pub prop_of : Name → Option Node → Option Property
prop_of n o = option_and_then (λ node. lookup (is_at (name_cmp n)) node.props) o

abbrev pub InOrder : Nodes → Type 0
InOrder t = is_sorted path_cmp t ≡ true

same : (p q : Path) → eq_by_cmp path_cmp p q ≡ true → (t : Nodes) → node_at t q ≡ node_at t p
same p q h t = ap (node_at t) (sym (same_path p q h))

path_ties : IsEquivalence (eq_by_cmp path_cmp)
path_ties = eq_by_cmp_equiv path_total

come_there : (node : Node) (p q : Path) (t : Nodes) (b : Bool) → eq_by_cmp path_cmp p q ≡ b → node_at (insert_entry path_cmp t q node) p ≡ cond b (Some node) (node_at t p)
come_there node p q t b h = lookup-insert_entry path_cmp path_total p q node t ∙ ap (λ b. cond b (Some node) (node_at t p)) h

pub node_at-come : (born : Option Revision) (t : Nodes) → InOrder t → (w : Write) (p : Path) → node_at (with_node_write born t w) p ≡ come born p (node_at t p) w
node_at-come born t s (Here q) p = come_there _ p q t _ refl ∙ by (eq_by_cmp path_cmp p q) refl
  where
    by : (b : Bool) → eq_by_cmp path_cmp p q ≡ b → cond b (Some (record { props = properties_at t q; born = born })) (node_at t p) ≡ cond b (Some (record { props = props_of (node_at t p); born = born })) (node_at t p)
    by true h = ap (λ (o : Option Node). Some (record { props = props_of o; born = born })) (same p q h t)
    by false h = refl
node_at-come born t s (Gone q) p = lookup-remove path_cmp path_total p q t s
node_at-come born t s (Put q m x) p = refl
node_at-come born t s (Unset q m) p = refl

pub order-come : (born : Option Revision) (t : Nodes) → InOrder t → (w : Write) → InOrder (with_node_write born t w)
order-come born t s (Here q) = sorted_insert path_cmp path_total q _ t s
order-come born t s (Gone q) = sorted_remove path_cmp _ t s
order-come born t s (Put q m x) = s
order-come born t s (Unset q m) = s

-- a node that is there is changed in place
pub changed_there : (f : Node → Node) (t : Nodes) (p q : Path) (o : Option Node) → node_at t q ≡ o
    → node_at (option_map_or (λ node. set_value (is_at (path_cmp q)) t (f node)) o t) p ≡ cond (eq_by_cmp path_cmp p q) (option_map f (node_at t p)) (node_at t p)
changed_there f t p q None h = by (eq_by_cmp path_cmp p q) refl
  where
    by : (b : Bool) → eq_by_cmp path_cmp p q ≡ b → node_at t p ≡ cond b (option_map f (node_at t p)) (node_at t p)
    by true e = let none : node_at t p ≡ None = sym (same p q e t) ∙ h in none ∙ ap (option_map f) (sym none)
    by false e = refl
changed_there f t p q (Some node) h = lookup-set_value path_ties (is_at (path_cmp q)) one p (f node) t (subst IsSome (sym h) refl) ∙ by (eq_by_cmp path_cmp p q) refl
  where
    one : (a b : Path) → eq_by_cmp path_cmp q a ≡ true → eq_by_cmp path_cmp q b ≡ eq_by_cmp path_cmp a b
    one a b e = ap (λ c. eq_by_cmp path_cmp c b) (same_path q a e)

    turned : eq_by_cmp path_cmp q p ≡ eq_by_cmp path_cmp p q
    turned = path_ties.symm q p

    by : (b : Bool) → eq_by_cmp path_cmp p q ≡ b → cond (eq_by_cmp path_cmp q p) (Some (f node)) (node_at t p) ≡ cond b (option_map f (node_at t p)) (node_at t p)
    by true e = ap (λ b. cond b (Some (f node)) (node_at t p)) (turned ∙ e) ∙ ap (option_map f) (sym (sym (same p q e t) ∙ h))
    by false e = ap (λ b. cond b (Some (f node)) (node_at t p)) (turned ∙ e)

pub node_at-filled : (t : Nodes) (w : Write) (p : Path) → node_at (with_property_write t w) p ≡ filled p (node_at t p) w
node_at-filled t (Here q) p = refl
node_at-filled t (Gone q) p = refl
node_at-filled t (Put q m x) p = changed_there (λ node. record node { props = insert_entry name_cmp node.props m x }) t p q (node_at t q) refl
node_at-filled t (Unset q m) p = changed_there (λ node. record node { props = remove_entry (is_at (name_cmp m)) node.props }) t p q (node_at t q) refl

pub order-filled : (t : Nodes) → InOrder t → (w : Write) → InOrder (with_property_write t w)
order-filled t s (Here q) = s
order-filled t s (Gone q) = s
order-filled t s (Put q m x) = by (node_at t q)
  where
    by : (o : Option Node) → InOrder (option_map_or (λ node. set_value (is_at (path_cmp q)) t (record node { props = insert_entry name_cmp node.props m x })) o t)
    by None = s
    by (Some node) = sorted_set path_cmp _ _ t s
order-filled t s (Unset q m) = by (node_at t q)
  where
    by : (o : Option Node) → InOrder (option_map_or (λ node. set_value (is_at (path_cmp q)) t (record node { props = remove_entry (is_at (name_cmp m)) node.props })) o t)
    by None = s
    by (Some node) = sorted_set path_cmp _ _ t s

pub order-comes : (born : Option Revision) (t : Nodes) (ws : List Write) → InOrder t → InOrder (fold (with_node_write born) t ws)
order-comes born t [] s = s
order-comes born t (w ∷ ws) s = order-comes born (with_node_write born t w) ws (order-come born t s w)

pub order-fills : (t : Nodes) (ws : List Write) → InOrder t → InOrder (fold with_property_write t ws)
order-fills t [] s = s
order-fills t (w ∷ ws) s = order-fills (with_property_write t w) ws (order-filled t s w)

pub node_at-comes : (born : Option Revision) (p : Path) (t : Nodes) (ws : List Write) → InOrder t → node_at (fold (with_node_write born) t ws) p ≡ fold (come born p) (node_at t p) ws
node_at-comes born p t [] s = refl
node_at-comes born p t (w ∷ ws) s = node_at-comes born p (with_node_write born t w) ws (order-come born t s w) ∙ ap (λ (o : Option Node). fold (come born p) o ws) (node_at-come born t s w p)

pub node_at-fills : (p : Path) (t : Nodes) (ws : List Write) → node_at (fold with_property_write t ws) p ≡ fold (filled p) (node_at t p) ws
node_at-fills p t [] = refl
node_at-fills p t (w ∷ ws) = node_at-fills p (with_property_write t w) ws ∙ ap (λ (o : Option Node). fold (filled p) o ws) (node_at-filled t w p)

-- the node at a path after an edit hangs on the node there before
pub node_at-applied : (born : Option Revision) (p : Path) (t : Nodes) (ws : List Write) → InOrder t → node_at (applied born t ws) p ≡ fold (filled p) (fold (come born p) (node_at t p) (last_writes ws)) (last_writes ws)
node_at-applied born p t ws s =
    node_at-fills p (fold (with_node_write born) t (last_writes ws)) (last_writes ws) ∙ ap (λ (o : Option Node). fold (filled p) o (last_writes ws)) (node_at-comes born p t (last_writes ws) s)

pub order-applied : (born : Option Revision) (t : Nodes) (ws : List Write) → InOrder t → InOrder (applied born t ws)
order-applied born t ws s = order-fills _ (last_writes ws) (order-comes born t (last_writes ws) s)
