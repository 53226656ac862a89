-- The commands that make items by node types keep a tree a tree, and take no node away.
use Rattle.std.proofs.Common.{◌≡◌, ◌++◌, Bool, true, false, cond, List, [], ◌∷◌, Option, None, Some, is_some, refl, sym, ap, ◌∙◌, subst}
use Rattle.std.specs.Prelude.{Result, Ok}
use Rattle.std.specs.BTreeMap.{insert_entry, is_at}
use Rattle.std.specs.FinMap.{is_sorted}
use Rattle.std.specs.List.{fold}
use Rattle.std.specs.Option.{unwrap_or}
use Rattle.std.proofs.lemmas.Cmp.{nat_list_cmp_total}
use Rattle.jr_path.specs.Names.{name_cmp, parent_of}
use Rattle.jr_path.specs.declared.name.Name.{Name}
use Rattle.jr_path.specs.declared.path.Path.{Path}
use Rattle.jr_value.specs.declared.value.Kind.TheVariants as kind
use Rattle.jr_value.specs.declared.value.Property.{Property}
use Rattle.jr_value.specs.declared.value.Property.TheVariants.{Single, Many}
use Rattle.jr_value.specs.declared.value.Value.{Value}
use Rattle.jr_value.specs.declared.value.Value.TheVariants as value
use Rattle.jr_tree.specs.declared.shared.Refusal.{Refusal}
use Rattle.jr_tree.specs.declared.shared.Who.{Who}
use Rattle.jr_tree.specs.declared.tree.Node.{Node}
use Rattle.jr_tree.specs.Trees.{IsTree, Nodes, node_of_type}
use Rattle.jr_tree.proofs.Entries.{sorted_insert, sorted_remove}
use Rattle.jr_items.specs.Items.{is_empty, property_of}
use Rattle.jr_items.specs.Names.{child_order, mixin_types, primary_type, version_storage}
use Rattle.jr_items.specs.Refusals.{in_system, limit_refusal}
use Rattle.jr_types.specs.Attributes.{are_ordered}
use Rattle.jr_types.specs.declared.TypeDef.{TypeDef}
use Rattle.jr_overlay.specs.Drafts.{Steps, drafted, with_step}
use Rattle.jr_overlay.specs.Overlays.{View, whole_view}
use Rattle.jr_overlay.specs.Views.{KeepTree}
use Rattle.jr_overlay.proofs.KeptTrees.{names_after, parent_after}
use Rattle.jcr_trans.specs.declared.command.TreeNode.{TreeNode}
use Rattle.jcr_write.specs.Places.{above, at_place, types_of_node, of_node, path_refusal, putting, unless_refused, with_property, without_property}
use Rattle.jcr_write.specs.Writes.{node_set}
use Rattle.jcr_write.proofs.Keeping.{came_of, in_place, passed, put_of, set_keeps}
use Rattle.jcr_fill.specs.Makings.{Making, complete, making, unknown_type}
use Rattle.jcr_fill.specs.Steps.{and_then, each}
use Rattle.jcr_fill.proofs.Children.{kept_by_put}
use Rattle.jcr_fill.proofs.Fills.{ok_same}
use Rattle.jcr_fill.proofs.KeepingTrees.{complete_keeps, complete_stays}
use Rattle.jcr_fill.proofs.OneByOne.{came_first, each_keeps}
use Rattle.jcr_make.specs.Commands.{add_made, chosen_below, chosen_type, completed_new}
use Rattle.jcr_mixin.specs.Commands.{completed_node, is_lost, lists_mixin, node_retyped, node_unmixed, of_primary_type, type_made, unlisted, unmixed, unmixin_made, unmixin_refusal, with_kept, with_mixins}
use Rattle.jcr_mixin.specs.Histories.{begun_by, mixins_with, mixed, mixin_given, mixin_made, mixin_refusal, mixing, place_mixing}
use Rattle.jcr_make.specs.Subtrees.{furnished, limited, part_added, part_at, part_node, tree_made, with_part, with_set, with_sets}
use Rattle.jcr_make.proofs.KeepingHistories.{begun_keeps, begun_stays}

-- ---- the node at a place, and one that is made of it

-- a command at a place came of the node there
placed : {A : Type 0} (view : View) (steps : Steps) (p : Path) (then : Node → Result A Refusal) (a : A) → at_place view steps p then ≡ Ok a
    → (node : Node) × (drafted view steps p ≡ Some node) × (then node ≡ Ok a)
placed view steps p then a h = came_of p (drafted view steps p) then a (passed (path_refusal p) (of_node p (drafted view steps p) then) a h).1

abbrev IsOrdered : Node → Type 0
IsOrdered node = is_sorted name_cmp node.props ≡ true

with_ordered : (node : Node) (n : Name) (x : Property) → IsOrdered node → IsOrdered (with_property node n x)
with_ordered node n x h = sorted_insert name_cmp nat_list_cmp_total n x node.props h

without_ordered : (node : Node) (n : Name) → IsOrdered node → IsOrdered (without_property node n)
without_ordered node n h = sorted_remove name_cmp (is_at (name_cmp n)) node.props h

retyped_ordered : (types : List TypeDef) (node : Node) (n : Name) → IsOrdered node → IsOrdered (of_primary_type types node n)
retyped_ordered types node n h = by (are_ordered (types_of_node types typed))
  where
    typed : Node
    typed = with_property node primary_type (Single (value.Name n))

    typed_ordered : IsOrdered typed
    typed_ordered = with_ordered node primary_type (Single (value.Name n)) h

    by : (b : Bool) → IsOrdered (cond b typed (without_property typed child_order))
    by true = typed_ordered
    by false = without_ordered typed child_order typed_ordered

mixins_ordered : (node : Node) (xs : List Value) → IsOrdered node → IsOrdered (with_mixins node xs)
mixins_ordered node [] h = without_ordered node mixin_types h
mixins_ordered node (x ∷ xs) h = with_ordered node mixin_types (Many kind.Name (x ∷ xs)) h

kept_ordered : (types : List TypeDef) (old new : Node) (xs props : List (Name × Property)) → is_sorted name_cmp props ≡ true
    → is_sorted name_cmp (fold (with_kept types old new) props xs) ≡ true
kept_ordered types old new [] props h = h
kept_ordered types old new (x ∷ xs) props h = kept_ordered types old new xs (with_kept types old new props x) (by (is_lost types old new x.0 x.1))
  where
    by : (b : Bool) → is_sorted name_cmp (cond b props (insert_entry name_cmp props x.0 x.1)) ≡ true
    by true = h
    by false = sorted_insert name_cmp nat_list_cmp_total x.0 x.1 props h

-- ---- nodes that are put with all that belongs to them

-- the path above has a node, so each parent has
above_there : (view : View) (steps : Steps) (p : Path) → is_some (drafted view steps (above p)) ≡ true
    → (q : Path) → parent_of p ≡ Some q → is_some (drafted view steps q) ≡ true
above_there view steps p there q e = ap (λ (o : Option Path). is_some (drafted view steps (unwrap_or o []))) (sym e) ∙ there

-- a node in the place of one that is there
completed_in_place : (types : List TypeDef) (who : Who) (v : Nodes) (p : Path) (old node : Node) (m new : Making) → IsTree v → KeepTree (whole_view v) m.steps
    → drafted (whole_view v) m.steps p ≡ Some old → IsOrdered node → complete types who (whole_view v) p node m ≡ Ok new → KeepTree (whole_view v) new.steps
completed_in_place types who v p old node m new tree keep there ordered h =
    complete_keeps types who v p node m new keep ordered (λ q up. parent_after v m.steps tree keep p q (ap is_some there) up) h

-- a node is added below one that is there
chosen_above : (types : List TypeDef) (view : View) (steps : Steps) (p : Path) (named : Option Name) (n : Name) → chosen_type types view steps p named ≡ Ok n
    → is_some (drafted view steps (above p)) ≡ true
chosen_above types view steps p named n h = ap is_some (came_of (above p) (drafted view steps (above p)) (chosen_below types view steps p named) n h).1

completed_new_keeps : (types : List TypeDef) (who : Who) (v : Nodes) (p : Path) (named : Option Name) (n : Name) (m new : Making) → KeepTree (whole_view v) m.steps
    → chosen_type types (whole_view v) m.steps p named ≡ Ok n → completed_new types who (whole_view v) p m n ≡ Ok new → KeepTree (whole_view v) new.steps
completed_new_keeps types who v p named n m new keep chosen h = complete_keeps types who v p (node_of_type n) m new keep refl
    (above_there (whole_view v) m.steps p (chosen_above types (whole_view v) m.steps p named n chosen)) h

-- what `add` came of
added_of : (types : List TypeDef) (who : Who) (view : View) (p : Path) (named : Option Name) (m new : Making) → add_made types who view p named m ≡ Ok new
    → (n : Name) × (chosen_type types view m.steps p named ≡ Ok n) × (completed_new types who view p m n ≡ Ok new)
added_of types who view p named m new h = came_first (chosen_type types view m.steps p named) (completed_new types who view p m) new
    (passed (path_refusal p) (and_then (chosen_type types view m.steps p named) (completed_new types who view p m)) new h).1

pub add_keeps : (types : List TypeDef) (who : Who) (v : Nodes) (p : Path) (named : Option Name) (m new : Making) → KeepTree (whole_view v) m.steps
    → add_made types who (whole_view v) p named m ≡ Ok new → KeepTree (whole_view v) new.steps
add_keeps types who v p named m new keep h =
    let of = added_of types who (whole_view v) p named m new h in
    completed_new_keeps types who v p named of.0 m new keep of.1 of.2

pub add_stays : (types : List TypeDef) (who : Who) (view : View) (p q : Path) (named : Option Name) (m new : Making) → add_made types who view p named m ≡ Ok new
    → is_some (drafted view m.steps q) ≡ true → is_some (drafted view new.steps q) ≡ true
add_stays types who view p q named m new h there =
    let of = added_of types who view p named m new h in
    complete_stays types who view p q (node_of_type of.0) m new of.2 there

-- what `type` came of
retyped_of : (types : List TypeDef) (who : Who) (view : View) (p : Path) (n : Name) (m new : Making) → type_made types who view p n m ≡ Ok new
    → (old : Node) × (drafted view m.steps p ≡ Some old) × (complete types who view p (of_primary_type types old n) m ≡ Ok new)
retyped_of types who view p n m new h =
    let came = came_first (node_retyped types view m.steps p n) (completed_node types who view p m) new h in
    let place = placed view m.steps p (λ node. unless_refused (unknown_type types n) (Ok (of_primary_type types node n))) came.0 came.1 in
    let is : came.0 ≡ of_primary_type types place.0 n = ok_same (passed (unknown_type types n) (Ok (of_primary_type types place.0 n)) came.0 place.2).1 in
    (place.0, place.1, subst (λ (node : Node). complete types who view p node m ≡ Ok new) is came.2)

pub type_keeps : (types : List TypeDef) (who : Who) (v : Nodes) (p : Path) (n : Name) (m new : Making) → IsTree v → KeepTree (whole_view v) m.steps
    → type_made types who (whole_view v) p n m ≡ Ok new → KeepTree (whole_view v) new.steps
type_keeps types who v p n m new tree keep h =
    let of = retyped_of types who (whole_view v) p n m new h in
    completed_in_place types who v p of.0 (of_primary_type types of.0 n) m new tree keep of.1 (retyped_ordered types of.0 n (names_after v m.steps tree keep p of.0 of.1)) of.2

pub type_stays : (types : List TypeDef) (who : Who) (view : View) (p q : Path) (n : Name) (m new : Making) → type_made types who view p n m ≡ Ok new
    → is_some (drafted view m.steps q) ≡ true → is_some (drafted view new.steps q) ≡ true
type_stays types who view p q n m new h there =
    let of = retyped_of types who view p n m new h in
    complete_stays types who view p q (of_primary_type types of.0 n) m new of.2 there

-- ---- mixins

-- what `unmixin` came of
unmixed_of : (types : List TypeDef) (view : View) (p : Path) (n : Name) (steps new : Steps) → unmixin_made types view p n steps ≡ Ok new
    → (old : Node) × (drafted view steps p ≡ Some old) × (with_step steps p (Some (unmixed types old n)) ≡ new)
unmixed_of types view p n steps new h =
    let came = came_first (node_unmixed types view steps p n) (λ node. Ok (with_step steps p (Some node))) new h in
    let place = placed view steps p (λ node. unless_refused (unmixin_refusal types node n) (Ok (unmixed types node n))) came.0 came.1 in
    let is : came.0 ≡ unmixed types place.0 n = ok_same (passed (unmixin_refusal types place.0 n) (Ok (unmixed types place.0 n)) came.0 place.2).1 in
    (place.0, place.1, ap (λ (node : Node). with_step steps p (Some node)) (sym is) ∙ sym (ok_same came.2))

pub unmixin_keeps : (types : List TypeDef) (v : Nodes) (p : Path) (n : Name) (steps new : Steps) → IsTree v → KeepTree (whole_view v) steps
    → unmixin_made types (whole_view v) p n steps ≡ Ok new → KeepTree (whole_view v) new
unmixin_keeps types v p n steps new tree keep h =
    let of = unmixed_of types (whole_view v) p n steps new h in
    in_place v steps new p of.0 (unmixed types of.0 n) tree keep of.1
    (kept_ordered types of.0 (unlisted of.0 n) (unlisted of.0 n).props [] refl) of.2

pub unmixin_stays : (types : List TypeDef) (view : View) (p q : Path) (n : Name) (steps new : Steps) → unmixin_made types view p n steps ≡ Ok new
    → is_some (drafted view steps q) ≡ true → is_some (drafted view new q) ≡ true
unmixin_stays types view p q n steps new h there =
    let of = unmixed_of types view p n steps new h in
    subst (λ (s : Steps). is_some (drafted view s q) ≡ true) of.2 (kept_by_put view steps p (unmixed types of.0 n) q there)

-- what a mixin is to be put into, where the node lacks it
mixing_of : (node : Node) (n : Name) (x : Node) → mixing node n ≡ Some x → x ≡ mixed node n
mixing_of node n x h = by (lists_mixin node n) h
  where
    by : (b : Bool) → cond b None (Some (mixed node n)) ≡ Some x → x ≡ mixed node n
    by true e = cc
    by false e = sym (ap (λ (o : Option Node). unwrap_or o (mixed node n)) e)

-- what `mixin` came of: nothing is made where the node has the mixin
mixed_of : (types : List TypeDef) (who : Who) (view : View) (p : Path) (n : Name) (m new : Making) → mixin_made types who view p n m ≡ Ok new
    → (old : Node) × (drafted view m.steps p ≡ Some old) × (mixin_given types who view p n m (mixing old n) ≡ Ok new)
mixed_of types who view p n m new h =
    let came = came_first (place_mixing types view m.steps p n) (mixin_given types who view p n m) new h in
    let place = placed view m.steps p (λ node. unless_refused (mixin_refusal types p node n) (Ok (mixing node n))) came.0 came.1 in
    let is : came.0 ≡ mixing place.0 n = ok_same (passed (mixin_refusal types p place.0 n) (Ok (mixing place.0 n)) came.0 place.2).1 in
    (place.0, place.1, subst (λ (o : Option Node). mixin_given types who view p n m o ≡ Ok new) is came.2)

pub mixin_stays : (types : List TypeDef) (who : Who) (view : View) (p q : Path) (n : Name) (m new : Making) → mixin_made types who view p n m ≡ Ok new
    → is_some (drafted view m.steps q) ≡ true → is_some (drafted view new.steps q) ≡ true
mixin_stays types who view p q n m new h there =
    let of = mixed_of types who view p n m new h in
    by (mixing of.0 n) of.2
  where
    by : (o : Option Node) → mixin_given types who view p n m o ≡ Ok new → is_some (drafted view new.steps q) ≡ true
    by None e = ap (λ (k : Making). is_some (drafted view k.steps q)) (ok_same e) ∙ there
    by (Some x) e =
        let came = came_first (complete types who view p x m) (begun_by n who view p) new e in
        begun_stays n who view p q came.0 new came.2 (complete_stays types who view p q x m came.0 came.1 there)

pub mixin_keeps : (types : List TypeDef) (who : Who) (v : Nodes) (p : Path) (n : Name) (m new : Making) → IsTree v → KeepTree (whole_view v) m.steps
    → is_some (drafted (whole_view v) m.steps version_storage) ≡ true → mixin_made types who (whole_view v) p n m ≡ Ok new → KeepTree (whole_view v) new.steps
mixin_keeps types who v p n m new tree keep stored h =
    let of = mixed_of types who (whole_view v) p n m new h in
    by of.0 of.1 (mixing of.0 n) refl of.2
  where
    by : (old : Node) → drafted (whole_view v) m.steps p ≡ Some old → (o : Option Node) → mixing old n ≡ o
        → mixin_given types who (whole_view v) p n m o ≡ Ok new → KeepTree (whole_view v) new.steps
    by old there None e f = subst (λ (k : Making). KeepTree (whole_view v) k.steps) (sym (ok_same f)) keep
    by old there (Some x) e f =
        let came = came_first (complete types who (whole_view v) p x m) (begun_by n who (whole_view v) p) new f in
        let ordered : IsOrdered x = subst IsOrdered (sym (mixing_of old n x e))
        (mixins_ordered old (mixins_with n (property_of old mixin_types)) (names_after v m.steps tree keep p old there)) in
        begun_keeps n who v p came.0 new tree
        (completed_in_place types who v p old x m came.0 tree keep there ordered came.1)
        (complete_stays types who (whole_view v) p version_storage x m came.0 came.1 stored) came.2

-- ---- trees of nodes

-- a node that is put takes none away
pub put_stays : (view : View) (p q : Path) (due : Result Node Refusal) (steps new : Steps) → putting steps p due ≡ Ok new
    → is_some (drafted view steps q) ≡ true → is_some (drafted view new q) ≡ true
put_stays view p q due steps new h there =
    let put = put_of steps new p due h in
    subst (λ (s : Steps). is_some (drafted view s q) ≡ true) put.2 (kept_by_put view steps p put.0 q there)

-- what setting properties came of
sets_of : (types : List TypeDef) (view : View) (p : Path) (props : List (Name × Property)) (m new : Making) → with_sets types view p props m ≡ Ok new
    → each (with_set types view p) props m.steps ≡ Ok new.steps
sets_of types view p props m new h =
    let came = came_first (each (with_set types view p) props m.steps) (λ steps. Ok (making steps m.ids)) new h in
    came.1 ∙ ap (λ (k : Making). Ok k.steps) (sym (ok_same came.2))

-- what a part of a tree came of: its node, its mixins, its properties
record PartMade (types : List TypeDef) (who : Who) (view : View) (p : Path) (part : TreeNode) (m new : Making) : Type 0 where
  node : Making
  mixins : Making
  made : part_node types who view p part m ≡ Ok node
  mixed : each (mixin_made types who view p) part.mixins node ≡ Ok mixins
  set : each (with_set types view p) part.props mixins.steps ≡ Ok new.steps

part_of : (types : List TypeDef) (who : Who) (view : View) (p : Path) (part : TreeNode) (m new : Making) → part_at types who view p part m ≡ Ok new
    → PartMade types who view p part m new
part_of types who view p part m new h =
    let node = came_first (part_node types who view p part m) (furnished types who view p part) new h in
    let mixins = came_first (each (mixin_made types who view p) part.mixins node.0) (with_sets types view p part.props) new node.2 in
    record {
      node = node.0;
      mixins = mixins.0;
      made = node.1;
      mixed = mixins.1;
      set = sets_of types view p part.props mixins.0 new mixins.2;
    }

-- what adding a node below the topmost one came of
part_added_of : (types : List TypeDef) (who : Who) (view : View) (p : Path) (named : Option Name) (m new : Making) → part_added types who view p named m ≡ Ok new
    → (n : Name) × (chosen_type types view m.steps p named ≡ Ok n) × (completed_new types who view p m n ≡ Ok new)
part_added_of types who view p named m new h =
    let came = came_first (chosen_type types view m.steps p named) (limited types who view p m) new
    (passed (in_system p) (and_then (chosen_type types view m.steps p named) (limited types who view p m)) new h).1 in
    (came.0, came.1, (passed (limit_refusal p) (completed_new types who view p m came.0) new came.2).1)

part_node_of : (types : List TypeDef) (who : Who) (view : View) (p : Path) (part : TreeNode) (m new : Making) → part_node types who view p part m ≡ Ok new
    → (n : Name) × (chosen_type types view m.steps p part.node_type ≡ Ok n) × (completed_new types who view p m n ≡ Ok new)
part_node_of types who view p part m new h = by (is_empty part.path) h
  where
    by : (b : Bool) → cond b (add_made types who view p part.node_type m) (part_added types who view p part.node_type m) ≡ Ok new
        → (n : Name) × (chosen_type types view m.steps p part.node_type ≡ Ok n) × (completed_new types who view p m n ≡ Ok new)
    by true e = added_of types who view p part.node_type m new e
    by false e = part_added_of types who view p part.node_type m new e

part_stays : (types : List TypeDef) (who : Who) (view : View) (p q : Path) (part : TreeNode) (m new : Making) → part_at types who view p part m ≡ Ok new
    → is_some (drafted view m.steps q) ≡ true → is_some (drafted view new.steps q) ≡ true
part_stays types who view p q part m new h there =
    let of = part_of types who view p part m new h in
    let node = part_node_of types who view p part m of.node of.made in
    each_keeps (λ (s : Steps). is_some (drafted view s q) ≡ true) (with_set types view p) (λ x s t e is. put_stays view p q (node_set types view s p x.0 x.1) s t e is) part.props of.mixins.steps new.steps of.set
    (each_keeps (λ (k : Making). is_some (drafted view k.steps q) ≡ true) (mixin_made types who view p) (λ n k l e is. mixin_stays types who view p q n k l e is) part.mixins of.node of.mixins of.mixed
    (complete_stays types who view p q (node_of_type node.0) m of.node node.2 there))

-- steps keep a tree, in which the version storage is there
abbrev KeepStored : Nodes → Making → Type 0
KeepStored v m = KeepTree (whole_view v) m.steps × (is_some (drafted (whole_view v) m.steps version_storage) ≡ true)

part_keeps : (types : List TypeDef) (who : Who) (v : Nodes) (p : Path) (part : TreeNode) (m new : Making) → IsTree v → part_at types who (whole_view v) p part m ≡ Ok new
    → KeepStored v m → KeepStored v new
part_keeps types who v p part m new tree h is =
    let w : View = whole_view v in
    let of = part_of types who w p part m new h in
    let node = part_node_of types who w p part m of.node of.made in
    let added : KeepStored v of.node = (
      completed_new_keeps types who v p part.node_type node.0 m of.node is.0 node.1 node.2,
      complete_stays types who w p version_storage (node_of_type node.0) m of.node node.2 is.1,
    ) in
    let mixed : KeepStored v of.mixins = each_keeps (KeepStored v) (mixin_made types who w p)
    (λ n k l e both. (mixin_keeps types who v p n k l tree both.0 both.1 e, mixin_stays types who w p version_storage n k l e both.1))
    part.mixins of.node of.mixins of.mixed added in (
      each_keeps (λ (s : Steps). KeepTree w s) (with_set types w p) (λ x s t e keep. set_keeps types v s t p x.0 x.1 tree keep e) part.props of.mixins.steps new.steps of.set mixed.0,
      part_stays types who w p version_storage part m new h is.1,
    )

pub tree_keeps : (types : List TypeDef) (who : Who) (v : Nodes) (p : Path) (parts : List TreeNode) (m new : Making) → IsTree v → KeepTree (whole_view v) m.steps
    → is_some (drafted (whole_view v) m.steps version_storage) ≡ true → tree_made types who (whole_view v) p parts m ≡ Ok new → KeepTree (whole_view v) new.steps
tree_keeps types who v p parts m new tree keep stored h =
    (each_keeps (KeepStored v) (with_part types who (whole_view v) p) (λ part k l e is. part_keeps types who v (p ++ part.path) part k l tree e is) parts m new h (keep, stored)).0

pub tree_stays : (types : List TypeDef) (who : Who) (view : View) (p q : Path) (parts : List TreeNode) (m new : Making) → tree_made types who view p parts m ≡ Ok new
    → is_some (drafted view m.steps q) ≡ true → is_some (drafted view new.steps q) ≡ true
tree_stays types who view p q parts m new h there =
    each_keeps (λ (k : Making). is_some (drafted view k.steps q) ≡ true) (with_part types who view p) (λ part k l e is. part_stays types who view (p ++ part.path) q part k l e is) parts m new h there
