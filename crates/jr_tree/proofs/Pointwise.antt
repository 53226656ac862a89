-- What a tree has at an item after one write of a property.
use Rattle.std.proofs.Common.{◌≡◌, Bool, true, false, cond, ◌&&◌, Some, None, refl, sym, ap, ◌∙◌, subst, Option, is_some, IsSome}
use Rattle.std.specs.Option.{option_and_then, option_map_or}
use Rattle.std.specs.Ordering.{eq_by_cmp}
use Rattle.std.specs.Map.{lookup, set_value}
use Rattle.std.specs.BTreeMap.{is_at, insert_entry}
use Rattle.std.proofs.lemmas.Cmp.{eq_by_cmp_equiv, nat_list_cmp_total}
use Rattle.std.proofs.lemmas.Map.{lookup-set_value}
use Rattle.jr_path.specs.Names.{name_cmp, path_cmp}
use Rattle.jr_path.specs.declared.name.Name.{Name}
use Rattle.jr_path.specs.declared.path.Path.{Path}
use Rattle.jr_path.proofs.Maps.{path_total, path_exact, lookup-insert_entry}
use Rattle.jr_value.specs.declared.value.Property.{Property}
use Rattle.jr_tree.specs.declared.tree.Node.{Node}
use Rattle.jr_tree.specs.declared.edit.Write.TheVariants.{Put}
use Rattle.jr_tree.specs.Trees.{Nodes, node_at, property_at}
use Rattle.jr_tree.specs.Edits.{with_property_write}
use Rattle.basics.proofs.Orders.{equal_of}

dead : {X : Type 0} (a b : Bool) (x y : X) → y ≡ cond (a && (b && false)) x y
dead true true x y = refl
dead true false x y = refl
dead false b x y = refl

live : {X : Type 0} (b : Bool) (x y : X) → cond b x y ≡ cond (b && true) x y
live true x y = refl
live false x y = refl

pub same_path : (p q : Path) → eq_by_cmp path_cmp p q ≡ true → p ≡ q
same_path p q h = path_exact p q (equal_of (path_cmp p q) h)

-- the property at an item after a Put: the one put, where it is that item and the node stands, and else the one before
pub property_at-put : (t : Nodes) (p : Path) (n : Name) (x : Property) (q : Path) (m : Name)
    → property_at (with_property_write t (Put p n x)) q m ≡ cond (eq_by_cmp path_cmp p q && (eq_by_cmp name_cmp m n && is_some (node_at t p))) (Some x) (property_at t q m)
property_at-put t p n x q m = by (node_at t p) refl
  where
    of_node : Option Node → Option Property
    of_node o = option_and_then (λ node. lookup (is_at (name_cmp m)) node.props) o

    with_x : Node → Node
    with_x node = record node { props = insert_entry name_cmp node.props n x }

    at : (node : Node) → node_at t p ≡ Some node → (b : Bool) → eq_by_cmp path_cmp p q ≡ b
        → of_node (cond b (Some (with_x node)) (node_at t q)) ≡ cond (b && (eq_by_cmp name_cmp m n && true)) (Some x) (property_at t q m)
    at node e false h = refl
    at node e true h =
        lookup-insert_entry name_cmp nat_list_cmp_total m n x node.props
        ∙ (live (eq_by_cmp name_cmp m n) (Some x) _
        ∙ ap (λ o. cond (eq_by_cmp name_cmp m n && true) (Some x) (of_node o)) (sym e ∙ ap (node_at t) (same_path p q h)))

    by : (o : Option Node) → node_at t p ≡ o
        → of_node (node_at (option_map_or (λ node. set_value (is_at (path_cmp p)) t (with_x node)) o t) q) ≡ cond (eq_by_cmp path_cmp p q && (eq_by_cmp name_cmp m n && is_some o)) (Some x) (property_at t q m)
    by None e = dead (eq_by_cmp path_cmp p q) (eq_by_cmp name_cmp m n) (Some x) (property_at t q m)
    by (Some node) e =
        ap of_node (lookup-set_value (eq_by_cmp_equiv path_total) (is_at (path_cmp p)) (λ a b same. ap (λ c. eq_by_cmp path_cmp c b) (same_path p a same)) q (with_x node) t (subst IsSome (sym e) refl))
        ∙ at node e (eq_by_cmp path_cmp p q) refl
