-- The steps of the commands keep a tree a tree.
use Rattle.std.proofs.Common.{◌≡◌, ◌≢◌, Bool, true, false, cond, List, Option, Some, None, [], ◌∷◌, ◌-◌, nat_eq, length, take, refl, sym, ap, subst, ◌∙◌, arith}
use Rattle.std.specs.Prelude.{IsTrue, IsFalse, Result, Ok, Err, is_some, is_none, unwrap_or}
use Rattle.std.specs.Result.{is_ok}
use Rattle.std.specs.FinMap.{is_sorted}
use Rattle.std.specs.BTreeMap.{is_at}
use Rattle.std.proofs.lemmas.Bool.{eqb-true, false≢true}
use Rattle.std.proofs.lemmas.Option.{none-some}
use Rattle.jr_path.specs.Names.{is_under, last_name, name_cmp, parent_of}
use Rattle.jr_path.specs.declared.name.Name.{Name}
use Rattle.jr_path.specs.declared.path.Path.{Path}
use Rattle.std.proofs.lemmas.Cmp.{nat_list_cmp_total}
use Rattle.jr_value.specs.declared.value.Property.{Property}
use Rattle.jr_tree.proofs.Entries.{sorted_insert, sorted_remove}
use Rattle.jr_tree.specs.Trees.{IsTree, Nodes, node_at, subtree_of}
use Rattle.jr_tree.specs.declared.shared.Refusal.{Refusal}
use Rattle.jr_tree.specs.declared.tree.Node.{Node}
use Rattle.jr_items.specs.Items.{first_some, property_of}
use Rattle.jr_items.specs.Names.{child_order}
use Rattle.jr_items.specs.Refusals.{no_item, own_rule, taken, when}
use Rattle.jr_types.specs.declared.TypeDef.{TypeDef}
use Rattle.jr_overlay.proofs.KeepingSteps.{gone_keeps, one_more_keeps}
use Rattle.jr_overlay.proofs.KeptTrees.{names_after, parent_after}
use Rattle.jr_overlay.proofs.Moves.{moved_keeps}
use Rattle.jr_overlay.specs.Drafts.{Steps, drafted, with_step}
use Rattle.jr_overlay.specs.Overlays.{View, whole_view}
use Rattle.jr_overlay.specs.Views.{KeepTree, all_gone, all_moved}
use Rattle.jr_order.specs.Order.{listing, moved_before, ordered}
use Rattle.jcr_write.specs.Places.{above, of_node, path_refusal, putting, unless_refused, with_property, without_property}
use Rattle.jcr_write.specs.Writes.{above_ordered, absent, ends_refusal, is_root, kept_refusal, move_made, move_refusal, moved_limit, order_made, order_place, parent_ordered, remove_made, remove_refusal, set_made, set_refusal, stand_refusal, unset_made, unset_refusal}

-- what an answer has
ok_same : {A : Type 0} (a b : A) (r : Result A Refusal) → Ok a ≡ r → r ≡ Ok b → a ≡ b
ok_same a b r is h = ap (λ (x : Result _ Refusal). elim x [ Ok y ↦ y | Err e ↦ a ]) (is ∙ h)

not_ok : {A E P : Type 0} (e : E) (a : A) → Err e ≡ Ok a → P
not_ok e a h = absurd (false≢true (ap is_ok h))

pub passed : {A : Type 0} (o : Option Refusal) (due : Result A Refusal) (a : A)
    → unless_refused o due ≡ Ok a → (o ≡ None) × (due ≡ Ok a)
passed None due a h = (refl, h)
passed (Some r) due a h = not_ok r a h

-- the node that is put, and the one that it comes from
pub put_of : (steps new : Steps) (p : Path) (due : Result Node Refusal) → putting steps p due ≡ Ok new
    → (node : Node) × (due ≡ Ok node) × (with_step steps p (Some node) ≡ new)
put_of steps new p (Ok node) h = (node, refl, ok_same (with_step steps p (Some node)) new (Ok (with_step steps p (Some node))) refl h)
put_of steps new p (Err r) h = not_ok r new h

pub came_of : {A : Type 0} (p : Path) (o : Option Node) (then : Node → Result A Refusal) (a : A)
    → of_node p o then ≡ Ok a → (node : Node) × (o ≡ Some node) × (then node ≡ Ok a)
came_of p (Some node) then a h = (node, refl, h)
came_of p None then a h = not_ok (no_item p) a h

-- a node in the place of one that is there, with its names in order
pub in_place : (v : Nodes) (steps new : Steps) (p : Path) (node made : Node) → IsTree v
    → KeepTree (whole_view v) steps → drafted (whole_view v) steps p ≡ Some node
    → IsTrue (is_sorted name_cmp made.props) → with_step steps p (Some made) ≡ new
    → KeepTree (whole_view v) new
in_place v steps new p node made tree keep there sorted is =
    subst (λ (s : Steps). KeepTree (whole_view v) s) is
    (one_more_keeps v steps p made keep sorted (λ q up. parent_after v steps tree keep p q (ap is_some there) up))

pub set_keeps : (types : List TypeDef) (v : Nodes) (steps new : Steps) (p : Path) (n : Name)
    (x : Property) → IsTree v → KeepTree (whole_view v) steps
    → set_made types (whole_view v) steps p n x ≡ Ok new → KeepTree (whole_view v) new
set_keeps types v steps new p n x tree keep h =
    let put = put_of steps new p _ h in
    let placed = passed (path_refusal p) _ put.0 put.1 in
    let came = came_of p (drafted (whole_view v) steps p)
    (λ node. unless_refused (set_refusal types p n x node) (Ok (with_property node n x))) put.0 placed.1 in
    let made = passed (set_refusal types p n x came.0) (Ok (with_property came.0 n x)) put.0 came.2 in
    let same : with_property came.0 n x ≡ put.0 = ok_same (with_property came.0 n x) put.0 (Ok (with_property came.0 n x)) refl made.1 in
    in_place v steps new p came.0 (with_property came.0 n x) tree keep came.1
    (sorted_insert name_cmp nat_list_cmp_total n x came.0.props (names_after v steps tree keep p came.0 came.1))
    (ap (λ (node : Node). with_step steps p (Some node)) same ∙ put.2)

pub unset_keeps : (types : List TypeDef) (v : Nodes) (steps new : Steps) (p : Path) (n : Name)
    → IsTree v → KeepTree (whole_view v) steps
    → unset_made types (whole_view v) steps p n ≡ Ok new → KeepTree (whole_view v) new
unset_keeps types v steps new p n tree keep h =
    let put = put_of steps new p _ h in
    let placed = passed (path_refusal p) _ put.0 put.1 in
    let came = came_of p (drafted (whole_view v) steps p)
    (λ node. unless_refused (unset_refusal types p n node (property_of node n)) (Ok (without_property node n))) put.0 placed.1 in
    let made = passed (unset_refusal types p n came.0 (property_of came.0 n)) (Ok (without_property came.0 n)) put.0 came.2 in
    let same : without_property came.0 n ≡ put.0 = ok_same (without_property came.0 n) put.0 (Ok (without_property came.0 n)) refl made.1 in
    in_place v steps new p came.0 (without_property came.0 n) tree keep came.1
    (sorted_remove name_cmp (is_at (name_cmp n)) came.0.props (names_after v steps tree keep p came.0 came.1))
    (ap (λ (node : Node). with_step steps p (Some node)) same ∙ put.2)

-- the node above, and that it has a property more
ordered_of : (types : List TypeDef) (view : View) (p : Path) (n : Name) (before : Option Name)
    (o : Option Node) (made : Node) → parent_ordered types view p n before o ≡ Ok made
    → (node : Node) × (x : Property) × (o ≡ Some node) × (with_property node child_order x ≡ made)
ordered_of types view p n before None made h = not_ok _ made h
ordered_of types view p n before (Some node) made h =
    let x : Property = listing (moved_before n before (ordered types node (view.children p))) in
    let is = passed _ (Ok (with_property node child_order x)) made h in
    (node, x, refl, ok_same (with_property node child_order x) made (Ok (with_property node child_order x)) refl is.1)

above_of : (types : List TypeDef) (view : View) (steps : Steps) (p : Path) (before o : Option Name)
    (made : Node) → above_ordered types view steps p before o ≡ Ok made
    → (node : Node) × (x : Property) × (drafted view steps (above p) ≡ Some node)
    × (with_property node child_order x ≡ made)
above_of types view steps p before None made h = not_ok (own_rule p) made h
above_of types view steps p before (Some n) made h =
    ordered_of types view (above p) n before (drafted view steps (above p)) made h

pub order_keeps : (types : List TypeDef) (v : Nodes) (steps new : Steps) (p : Path)
    (before : Option Name) → IsTree v → KeepTree (whole_view v) steps
    → order_made types (whole_view v) steps p before ≡ Ok new → KeepTree (whole_view v) new
order_keeps types v steps new p before tree keep h =
    let put = put_of steps new (above p) _ h in
    let placed = passed (order_place (whole_view v) steps p) _ put.0 put.1 in
    let came = above_of types (whole_view v) steps p before (last_name p) put.0 placed.1 in
    in_place v steps new (above p) came.0 (with_property came.0 child_order came.1) tree keep came.2
    (sorted_insert name_cmp nat_list_cmp_total child_order came.1 came.0.props (names_after v steps tree keep (above p) came.0 came.2))
    (ap (λ (node : Node). with_step steps (above p) (Some node)) came.3 ∙ put.2)

-- where none of several comes, none of them does
pub none_here : (a : Option Refusal) (rest : List (Option Refusal)) → first_some (a ∷ rest) ≡ None → a ≡ None
none_here None rest h = refl
none_here (Some x) rest h = h

pub none_later : (a : Option Refusal) (rest : List (Option Refusal)) → first_some (a ∷ rest) ≡ None
    → first_some rest ≡ None
none_later None rest h = h
none_later (Some x) rest h = absurd (none-some x (sym h))

-- where a test refuses nothing, it fails
pub fails : (b : Bool) (r : Refusal) → when b r ≡ None → b ≡ false
fails true r h = absurd (none-some r (sym h))
fails false r h = refl

none_of : (o : Option Node) → is_some o ≡ false → o ≡ None
none_of None h = refl
none_of (Some x) h = absurd (false≢true (sym h))

some_of : (o : Option Node) → is_none o ≡ false → IsTrue (is_some o)
some_of None h = absurd (false≢true (sym h))
some_of (Some x) h = refl

pub remove_keeps : (types : List TypeDef) (v : Nodes) (new : Steps) (p : Path) → IsTree v
    → remove_made types (whole_view v) [] p ≡ Ok new → KeepTree (whole_view v) new
remove_keeps types v new p tree h =
    let w : View = whole_view v in
    let o0 : Option Refusal = path_refusal p in
    let o1 : Option Refusal = absent w [] p in
    let o2 : Option Refusal = is_root p in
    let o3 : Option Refusal = kept_refusal types w [] p in
    let done = passed (remove_refusal types w [] p) (Ok (all_gone [] (subtree_of v p))) new h in
    let root : is_root p ≡ None = none_here o2 (o3 ∷ []) (none_later o1 (o2 ∷ o3 ∷ []) (none_later o0 (o1 ∷ o2 ∷ o3 ∷ []) done.0)) in
    let apart : p ≢ [] = λ e. none-some (own_rule []) (sym (subst (λ (q : Path). is_root q ≡ None) e root)) in
    subst (λ (s : Steps). KeepTree (whole_view v) s) (ok_same (all_gone [] (subtree_of v p)) new (Ok (all_gone [] (subtree_of v p))) refl done.1)
    (gone_keeps v tree p apart)

-- only the root has none above it
empty_of : (q : Path) → length q ≡ 0 → q ≡ []
empty_of [] h = refl
empty_of (x ∷ q) h = absurd (omega arith)

alone : (b : Bool) (q a : Path) → nat_eq (length q) 0 ≡ b → cond b None (Some a) ≡ None → q ≡ []
alone true q a e h = empty_of q (eqb-true (length q) 0 e)
alone false q a e h = absurd (none-some a (sym h))

none-some_at : (o : Option Node) → IsTrue (is_some o) → o ≡ None → ⊥
none-some_at None there h = false≢true there
none-some_at (Some x) there h = none-some x (sym h)

parent_is : (q : Path) (o : Option Path) → parent_of q ≡ o → q ≢ [] → parent_of q ≡ Some (unwrap_or o [])
parent_is q (Some a) e low = e
parent_is q None e low = absurd (low (alone (nat_eq (length q) 0) q (take (length q - 1) q) refl e))

pub move_keeps : (v : Nodes) (new : Steps) (p q : Path) → IsTree v
    → move_made (whole_view v) [] p q ≡ Ok new → KeepTree (whole_view v) new
move_keeps v new p q tree h =
    let w : View = whole_view v in
    let a0 : Option Refusal = ends_refusal p q in
    let a1 : Option Refusal = stand_refusal w [] p q in
    let a2 : Option Refusal = moved_limit p q (subtree_of v p) in
    let b0 : Option Refusal = absent w [] p in
    let b1 : Option Refusal = absent w [] (above q) in
    let b2 : Option Refusal = when (is_some (node_at v q)) (taken q) in
    let b3 : Option Refusal = when (is_under q p) (own_rule q) in
    let done = passed (move_refusal w [] p q) (Ok (all_moved p q [] (subtree_of v p))) new h in
    let stand : a1 ≡ None = none_here a1 (a2 ∷ []) (none_later a0 (a1 ∷ a2 ∷ []) done.0) in
    let rest : first_some (b1 ∷ b2 ∷ b3 ∷ []) ≡ None = none_later b0 (b1 ∷ b2 ∷ b3 ∷ []) stand in
    let last : first_some (b2 ∷ b3 ∷ []) ≡ None = none_later b1 (b2 ∷ b3 ∷ []) rest in
    let there : IsTrue (is_some (node_at v p)) = some_of (node_at v p) (fails (is_none (node_at v p)) (no_item p) (none_here b0 (b1 ∷ b2 ∷ b3 ∷ []) stand)) in
    let parent : IsTrue (is_some (node_at v (above q))) = some_of (node_at v (above q)) (fails (is_none (node_at v (above q))) (no_item (above q)) (none_here b1 (b2 ∷ b3 ∷ []) rest)) in
    let free : node_at v q ≡ None = none_of (node_at v q) (fails (is_some (node_at v q)) (taken q) (none_here b2 (b3 ∷ []) last)) in
    let apart : IsFalse (is_under q p) = fails (is_under q p) (own_rule q) (none_here b3 [] (none_later b2 (b3 ∷ []) last)) in
    let low : q ≢ [] = λ e. none-some_at (node_at v []) tree.root (subst (λ (r : Path). node_at v r ≡ None) e free) in
    let up : parent_of q ≡ Some (above q) = parent_is q (parent_of q) refl low in
    subst (λ (s : Steps). KeepTree (whole_view v) s) (ok_same (all_moved p q [] (subtree_of v p)) new (Ok (all_moved p q [] (subtree_of v p))) refl done.1)
    (moved_keeps v tree p q (above q) there free up parent apart)
