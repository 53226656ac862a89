-- What is left of the writes of a lock: those that change something.
use Rattle.std.proofs.Common.{◌≡◌, ℕ, Bool, true, false, cond, ◌&&◌, Option, None, Some, is_some, is_none, Ok, Err, List, [], ◌∷◌, ◌++◌, refl, sym, ap, subst, ◌∙◌, IsTrue}
use Rattle.std.specs.Option.{option_map_or, option_or, unwrap_or}
use Rattle.std.specs.Ordering.{eq_by_cmp}
use Rattle.std.specs.Cmp.{eq_by_cmp_equiv}
use Rattle.std.specs.FinMap.{is_sorted}
use Rattle.std.specs.List.{filter, fold}
use Rattle.std.proofs.lemmas.Option.{none-some}
use Rattle.jr_path.specs.Names.{name_cmp, path_cmp}
use Rattle.jr_path.specs.declared.name.Name.{Name}
use Rattle.jr_path.specs.declared.path.Path.{Path}
use Rattle.jr_path.proofs.Maps.{path_total}
use Rattle.jr_value.specs.declared.value.Property.{Property}
use Rattle.jr_value.specs.declared.value.Property.TheVariants.{Single}
use Rattle.jr_value.specs.declared.value.Value.TheVariants as value
use Rattle.jr_value.specs.Values.{same_property}
use Rattle.jr_value.specs.Equality.{same_property_decides}
use Rattle.jr_tree.specs.declared.tree.Node.{Node}
use Rattle.jr_tree.specs.declared.shared.Refusal.{Refusal}
use Rattle.jr_tree.specs.declared.edit.Write.{Write}
use Rattle.jr_tree.specs.declared.edit.Write.TheVariants.{Put, Unset}
use Rattle.jr_tree.specs.Trees.{Nodes, node_at, property_at}
use Rattle.jr_tree.specs.Edits.{applied, is_change, last_writes}
use Rattle.jr_tree.specs.Items.{here_of, put_of, written}
use Rattle.jr_tree.proofs.AtPath.{come, filled, prop_of, node_at-applied}
use Rattle.jr_tree.proofs.EditLaw.{Orderly-all, property_applied}
use Rattle.jr_items.specs.Names.{lock_owner, lock_is_deep}
use Rattle.jr_items.specs.Items.{needed_writes, first_some}
use Rattle.jr_items.specs.Refusals.{IsTheRefusal, or_else, out_of_memory, place_refusal, too_deep, too_long, in_system, no_node}
use Rattle.jcr_lock.specs.Locks.{lock_edit, lock_refusal, lock_writes, unlock_edit, unlock_refusal, unlock_writes}
use Rattle.jcr_lock.specs.Needed.{is_needed, are_names_in_order}

-- the names of a node that is there stand in order
orderly : (o : Option Node) → option_map_or (λ node. is_sorted name_cmp node.props) o true ≡ true → (node : Node) → o ≡ Some node → is_sorted name_cmp node.props ≡ true
orderly o h node e = subst (λ (x : Option Node). option_map_or (λ node. is_sorted name_cmp node.props) x true ≡ true) e h

-- both tests hold of both writes alike
alike : (f g : Write → Bool) (v w : Write) → f v ≡ g v → f w ≡ g w → filter f (v ∷ w ∷ []) ≡ filter g (v ∷ w ∷ [])
alike f g v w h k = λ i. cond (h i) (v ∷ cond (k i) (w ∷ []) []) (cond (k i) (w ∷ []) [])

pub of_two : (f : Write → Bool) (v w : Write) → ([] ++ filter f (v ∷ [])) ++ filter f (w ∷ []) ≡ filter f (v ∷ w ∷ [])
of_two f v w = by (f v) (f w)
  where
    by : (b d : Bool) → cond b (v ∷ []) [] ++ cond d (w ∷ []) [] ≡ cond b (v ∷ cond d (w ∷ []) []) (cond d (w ∷ []) [])
    by true d = refl
    by false d = refl

and_true : (a b : Bool) → b ≡ true → (a && b) ≡ a
and_true true b h = h
and_true false b h = refl

-- what is put where it is put is needed where it wasn't there
put_alike : (t u : Nodes) (p : Path) (n : Name) (x : Property) → property_at u p n ≡ Some x → is_change t u (Put p n x) ≡ is_needed t (Put p n x)
put_alike t u p n x is = and_true _ _ (ap (λ (o : Option Property). option_map_or (same_property x) o false) is ∙ (same_property_decides x x).1 refl)

unset_alike : (t u : Nodes) (p : Path) (n : Name) → property_at u p n ≡ None → is_change t u (Unset p n) ≡ is_needed t (Unset p n)
unset_alike t u p n is = and_true _ _ (ap (λ (o : Option Property). is_none o) is)

same : (p : Path) → eq_by_cmp path_cmp p p ≡ true
same p = (eq_by_cmp_equiv path_total).refl p

-- ---- an edit that writes properties of one node alone

-- after it, each property is as its last write says, and else as it was
module _ (t : Nodes) (p : Path) (ws : List Write) (s : IsTrue (is_sorted path_cmp t)) (node : Node) (e : node_at t p ≡ Some node) (names : is_sorted name_cmp node.props ≡ true) (stays : written (here_of p) ws ≡ None) where
  -- the tree of this node alone
  abbrev alone : Nodes
  alone = (p, node) ∷ []

  at_p : node_at alone p ≡ Some node
  at_p = ap (λ b. cond b (Some node) None) (same p)

  alike_at : node_at (applied None t ws) p ≡ node_at (applied None alone ws) p
  alike_at = node_at-applied None p t ws s ∙ (ap (λ (o : Option Node). fold (filled p) (fold (come None p) o (last_writes ws)) (last_writes ws)) (e ∙ sym at_p) ∙ sym (node_at-applied None p alone ws refl))

  after : (n : Name) → property_at (applied None t ws) p n ≡ unwrap_or (written (put_of p n) ws) (property_at t p n)
  after n =
      ap (prop_of n) alike_at
      ∙ (property_applied None alone ws refl (Orderly-all alone (and_true (is_sorted name_cmp node.props) true refl ∙ names)) p n
      ∙ (ap (λ h. cond (unwrap_or h (is_some (node_at alone p))) (unwrap_or (written (put_of p n) ws) (property_at alone p n)) None) stays
      ∙ (ap (λ (o : Option Node). cond (is_some o) (unwrap_or (written (put_of p n) ws) (prop_of n o)) None) (at_p ∙ sym e)
      ∙ ap (λ (o : Option Node). cond (is_some o) (unwrap_or (written (put_of p n) ws) (property_at t p n)) None) e)))

-- ---- the node is there where its place isn't refused

head_none : {X : Type 0} (a : Option X) (xs : List (Option X)) → first_some (a ∷ xs) ≡ None → a ≡ None
head_none None xs h = refl
head_none (Some x) xs h = h

tail_none : {X : Type 0} (a : Option X) (xs : List (Option X)) → first_some (a ∷ xs) ≡ None → first_some xs ≡ None
tail_none None xs h = h
tail_none (Some x) xs h = absurd (none-some x (sym h))

there_of : (o : Option Node) (r : Refusal) → cond (is_none o) (Some r) None ≡ None → (node : Node) × (o ≡ Some node)
there_of None r h = absurd (none-some r (sym h))
there_of (Some node) r h = (node, refl)

stands : (t : Nodes) (p : Path) → place_refusal t p ≡ None → (node : Node) × (node_at t p ≡ Some node)
stands t p h =
    there_of (node_at t p) _ (head_none (no_node t p) [] (tail_none (in_system p) (no_node t p ∷ []) (tail_none (too_long p) (in_system p ∷ no_node t p ∷ []) (tail_none (too_deep p) (too_long p ∷ in_system p ∷ no_node t p ∷ []) h))))

-- ---- the two edits

pub locks : (t : Nodes) (p : Path) (deep : Bool) (token : List ℕ) (ws : List Write) → IsTrue (is_sorted path_cmp t) → IsTrue (are_names_in_order t p) → lock_refusal t p deep ≡ None
    → ws ≡ filter (is_needed t) (lock_writes p deep token) → lock_edit t p deep token ≡ Ok ws
locks t p deep token ws s names free made =
    let flag = Single (value.Boolean deep) in
    let owner = Single (value.Str token) in
    let stand = stands t p (head_none (place_refusal t p) _ free) in
    let first = after t p (lock_writes p deep token) s stand.0 stand.1 (orderly _ names stand.0 stand.1) refl lock_is_deep ∙ ap (λ w. unwrap_or w (property_at t p lock_is_deep)) (ap (λ b. option_or (option_or None (cond (b && false) (Some (Some owner)) None)) (cond (b && true) (Some (Some flag)) None)) (same p)) in
    let second = after t p (lock_writes p deep token) s stand.0 stand.1 (orderly _ names stand.0 stand.1) refl lock_owner ∙ ap (λ w. unwrap_or w (property_at t p lock_owner)) (ap (λ b. option_or (option_or None (cond (b && true) (Some (Some owner)) None)) (cond (b && false) (Some (Some flag)) None)) (same p)) in
    ap (λ (due : Option Refusal). or_else due (needed_writes t (lock_writes p deep token))) free
    ∙ ap Ok (alike (is_change t (applied None t (lock_writes p deep token))) (is_needed t) (Put p lock_is_deep flag) (Put p lock_owner owner) (put_alike t _ p lock_is_deep flag first) (put_alike t _ p lock_owner owner second) ∙ sym made)

pub unlocks : (t : Nodes) (p : Path) (tokens : List (List ℕ)) (ws : List Write) → IsTrue (is_sorted path_cmp t) → IsTrue (are_names_in_order t p) → unlock_refusal t p tokens ≡ None
    → ws ≡ filter (is_needed t) (unlock_writes p) → unlock_edit t p tokens ≡ Ok ws
unlocks t p tokens ws s names free made =
    let stand = stands t p (head_none (place_refusal t p) _ free) in
    let first = after t p (unlock_writes p) s stand.0 stand.1 (orderly _ names stand.0 stand.1) refl lock_is_deep ∙ ap (λ w. unwrap_or w (property_at t p lock_is_deep)) (ap (λ b. option_or (option_or None (cond (b && false) (Some None) None)) (cond (b && true) (Some None) None)) (same p)) in
    let second = after t p (unlock_writes p) s stand.0 stand.1 (orderly _ names stand.0 stand.1) refl lock_owner ∙ ap (λ w. unwrap_or w (property_at t p lock_owner)) (ap (λ b. option_or (option_or None (cond (b && true) (Some None) None)) (cond (b && false) (Some None) None)) (same p)) in
    ap (λ (due : Option Refusal). or_else due (needed_writes t (unlock_writes p))) free
    ∙ ap Ok (alike (is_change t (applied None t (unlock_writes p))) (is_needed t) (Unset p lock_is_deep) (Unset p lock_owner) (unset_alike t _ p lock_is_deep first) (unset_alike t _ p lock_owner second) ∙ sym made)

pub refused : (due : Option Refusal) (r : Refusal) (ws : List Write) → IsTheRefusal due r → ¬ (r ≡ out_of_memory) → or_else due ws ≡ Err r
refused due r ws is m = ap (λ (d : Option Refusal). or_else d ws) (is m)
