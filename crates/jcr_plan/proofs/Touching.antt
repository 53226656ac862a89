-- A node that an edit does not touch breaks no rule where it broke none before.
use Rattle.std.proofs.Common.{◌≡◌, ℕ, Bool, true, false, cond, ◌&&◌, ◌||◌, Option, None, Some, is_some, List, [], ◌∷◌, ◌++◌, map, refl, sym, ap, ◌∙◌, subst}
use Rattle.std.specs.Prelude.{◌==◌, codes, not, option_map, option_to_list}
use Rattle.std.proofs.lemmas.Bool.{false≢true, and_parts, false_from_ne_true}
use Rattle.std.proofs.lemmas.Cmp.{nat_list_cmp_total}
use Rattle.std.specs.FinMap.{is_sorted}
use Rattle.std.specs.List.{filter, flat_map, fold, list_all, list_any}
use Rattle.std.specs.Map.{lookup, remove_entry}
use Rattle.std.specs.BTreeMap.{is_at, insert_entry}
use Rattle.std.specs.Ordering.{eq_by_cmp}
use Rattle.jr_path.specs.Names.{name_cmp, parent_of, path_cmp}
use Rattle.jr_path.specs.declared.name.Name.{Name}
use Rattle.jr_path.specs.declared.path.Item.{Item}
use Rattle.jr_path.specs.declared.path.Path.{Path}
use Rattle.jr_path.proofs.Maps.{lookup-insert_entry}
use Rattle.jr_path.proofs.Parts.{parent_of-child}
use Rattle.jr_tree.specs.declared.tree.Node.{Node}
use Rattle.jr_tree.specs.declared.edit.Write.{Write}
use Rattle.jr_tree.specs.declared.edit.Write.TheVariants.{Here, Gone, Put, Unset}
use Rattle.jr_tree.specs.Trees.{IsTree, Nodes, node_at, property_at}
use Rattle.jr_tree.specs.Edits.{IsProper, applied, last_writes}
use Rattle.jr_tree.proofs.AtPath.{come, filled, prop_of, props_of, node_at-applied}
use Rattle.jr_tree.proofs.EditLaw.{fills_has}
use Rattle.jr_tree.proofs.Pointwise.{same_path as path_same}
use Rattle.jr_tree.proofs.Proper.{same_name as name_same}
use Rattle.jr_items.specs.Names.{mixin_types, primary_type}
use Rattle.jr_items.specs.Items.{child_path, first_of, first_some, same_name, same_path}
use Rattle.jr_items.specs.Refusals.{checked_in, dangling_refusal as dangling_refusal, locked, over_limit, when}
use Rattle.jr_tree.specs.declared.shared.Refusal.{Refusal}
use Rattle.jcr_ref.specs.References.{dangling}
use Rattle.oak_clash.specs.declared.mark.MarkAt.{MarkAt}
use Rattle.jcr_marks.specs.Marks.{is_type_name, marks_of}
use Rattle.jcr_marks.proofs.Stirred.{any_flat, none_last, or_false, path_self, removed_other}
use Rattle.jcr_plan.specs.Plans.{PlanOk, has_few_nodes}
use Rattle.jr_types.specs.declared.TypeDef.{TypeDef}
use Rattle.jr_types.specs.Rules.{TypesOk, child_at, child_faults, node_types, property_faults}
use Rattle.jr_rules.specs.Violations.{Violation, child_names, failing_at, faults_among, property_names, violations, violations_among, violations_at}
use Rattle.jcr_plan.specs.declared.causes.Assured.{Assured}
use Rattle.jcr_plan.specs.Checked.{IsAsAssured, above_typed, dangling_by, is_looked_at, is_renewed, is_node_touched, may_dangle, refusal_by, renewed_by, touched_by, violations_by, violations_touched}
use Rattle.jcr_plan.specs.Refusals.{frozen_over, locked_over, plan_refusal, type_refusal}
use Rattle.jcr_plan.proofs.Dangling.{dangles_not}
use Rattle.jcr_plan.proofs.Refused.{all_there, planned}

or_none : (b : Bool) → (b || false) ≡ b
or_none true = refl
or_none false = refl

-- ---- a node that no write touches

abbrev touches : Path → Write → Bool
touches p w = list_any (same_path p) (touched_by w)

not_first : (p q : Path) (rest : List Path) → list_any (same_path p) (q ∷ rest) ≡ false → eq_by_cmp path_cmp p q ≡ false
not_first p q rest h = (or_false (same_path p q) (list_any (same_path p) rest) h).0

come_still : (p : Path) (o : Option Node) (w : Write) → touches p w ≡ false → come None p o w ≡ o
come_still p o (Here q) h = ap (λ b. cond b (Some (record { props = props_of o; born = None })) o) (not_first p q _ h)
come_still p o (Gone q) h = ap (λ b. cond b None o) (not_first p q _ h)
come_still p o (Put q m x) h = refl
come_still p o (Unset q m) h = refl

filled_still : (p : Path) (o : Option Node) (w : Write) → touches p w ≡ false → filled p o w ≡ o
filled_still p o (Here q) h = refl
filled_still p o (Gone q) h = refl
filled_still p o (Put q m x) h = ap (λ b. cond b (option_map {T = Node} (λ node. record node { props = insert_entry name_cmp node.props m x }) o) o) (not_first p q _ h)
filled_still p o (Unset q m) h = ap (λ b. cond b (option_map {T = Node} (λ node. record node { props = remove_entry (is_at (name_cmp m)) node.props }) o) o) (not_first p q _ h)

comes_still : (p : Path) (o : Option Node) (ws : List Write) → list_any (touches p) ws ≡ false → fold (come None p) o ws ≡ o
comes_still p o [] h = refl
comes_still p o (w ∷ ws) h = let parts = or_false (touches p w) (list_any (touches p) ws) h in comes_still p (come None p o w) ws parts.1 ∙ come_still p o w parts.0

fills_still : (p : Path) (o : Option Node) (ws : List Write) → list_any (touches p) ws ≡ false → fold (filled p) o ws ≡ o
fills_still p o [] h = refl
fills_still p o (w ∷ ws) h = let parts = or_false (touches p w) (list_any (touches p) ws) h in fills_still p (filled p o w) ws parts.1 ∙ filled_still p o w parts.0

-- ---- its children

-- a path with the node above it has that one among the two
has_above : (p q : Path) → parent_of q ≡ Some p → list_any (same_path p) (option_to_list (parent_of q)) ≡ true
has_above p q up = ap (λ (o : Option Path). list_any (same_path p) (option_to_list o)) up ∙ (or_none (same_path p p) ∙ path_self p)

or_right : (a b : Bool) → b ≡ true → (a || b) ≡ true
or_right true b h = refl
or_right false b h = h

module _ (p c : Path) (up : parent_of c ≡ Some p) where
  up_of : (q : Path) → eq_by_cmp path_cmp c q ≡ true → parent_of q ≡ Some p
  up_of q e = ap parent_of (sym (path_same c q e)) ∙ up

  elsewhere : (q : Path) → list_any (same_path p) (q ∷ option_to_list (parent_of q)) ≡ false → eq_by_cmp path_cmp c q ≡ false
  elsewhere q h = false_from_ne_true _ (λ e. false≢true (sym h ∙ or_right (same_path p q) _ (has_above p q (up_of q e))))

  come_child : (o : Option Node) (w : Write) → touches p w ≡ false → come None c o w ≡ o
  come_child o (Here q) h = ap (λ b. cond b (Some (record { props = props_of o; born = None })) o) (elsewhere q h)
  come_child o (Gone q) h = ap (λ b. cond b None o) (elsewhere q h)
  come_child o (Put q m x) h = refl
  come_child o (Unset q m) h = refl

  other : (q : Path) (m : Name) → eq_by_cmp path_cmp c q ≡ true → list_any (same_path p) (q ∷ above_typed q m) ≡ false → eq_by_cmp name_cmp primary_type m ≡ false
  other q m e h = by (same_name primary_type m) (or_false (same_path p q) (list_any (same_path p) (above_typed q m)) h).1
    where
      by : (b : Bool) → list_any (same_path p) (cond b (option_to_list (parent_of q)) []) ≡ false → b ≡ false
      by true k = absurd (false≢true (sym k ∙ has_above p q (up_of q e)))
      by false k = refl

  filled_child : (o : Option Node) (w : Write) → touches p w ≡ false → prop_of primary_type (filled c o w) ≡ prop_of primary_type o
  filled_child o (Here q) h = refl
  filled_child o (Gone q) h = refl
  filled_child o (Put q m x) h = by (eq_by_cmp path_cmp c q) refl o
    where
      by : (b : Bool) → eq_by_cmp path_cmp c q ≡ b → (o : Option Node) → prop_of primary_type (cond b (option_map {T = Node} (λ node. record node { props = insert_entry name_cmp node.props m x }) o) o) ≡ prop_of primary_type o
      by false e o = refl
      by true e None = refl
      by true e (Some node) = lookup-insert_entry name_cmp nat_list_cmp_total primary_type m x node.props ∙ ap (λ b. cond b (Some x) (lookup (is_at (name_cmp primary_type)) node.props)) (other q m e h)
  filled_child o (Unset q m) h = by (eq_by_cmp path_cmp c q) refl o
    where
      by : (b : Bool) → eq_by_cmp path_cmp c q ≡ b → (o : Option Node) → prop_of primary_type (cond b (option_map {T = Node} (λ node. record node { props = remove_entry (is_at (name_cmp m)) node.props }) o) o) ≡ prop_of primary_type o
      by false e o = refl
      by true e None = refl
      by true e (Some node) = removed_other primary_type m (other q m e h) node.props

  comes_child : (o : Option Node) (ws : List Write) → list_any (touches p) ws ≡ false → fold (come None c) o ws ≡ o
  comes_child o [] h = refl
  comes_child o (w ∷ ws) h = let parts = or_false (touches p w) (list_any (touches p) ws) h in comes_child (come None c o w) ws parts.1 ∙ come_child o w parts.0

  fills_child : (o : Option Node) (ws : List Write) → list_any (touches p) ws ≡ false → prop_of primary_type (fold (filled c) o ws) ≡ prop_of primary_type o
  fills_child o [] h = refl
  fills_child o (w ∷ ws) h = let parts = or_false (touches p w) (list_any (touches p) ws) h in fills_child (filled c o w) ws parts.1 ∙ filled_child o w parts.0

-- ---- so its rules hold as before

filter_never : {X : Type 0} (xs : List X) → filter (λ x. false) xs ≡ []
filter_never [] = refl
filter_never (x ∷ xs) = filter_never xs

-- ---- the types of a node that isn't renewed

abbrev renews : Path → Write → Bool
renews p w = list_any (same_path p) (renewed_by w)

alone : (p q : Path) → (same_path p q || false) ≡ false → eq_by_cmp path_cmp p q ≡ false
alone p q h = (or_false (same_path p q) false h).0

come_types : (p : Path) (o : Option Node) (w : Write) → renews p w ≡ false → come None p o w ≡ o
come_types p o (Here q) h = ap (λ b. cond b (Some (record { props = props_of o; born = None })) o) (alone p q h)
come_types p o (Gone q) h = ap (λ b. cond b None o) (alone p q h)
come_types p o (Put q m x) h = refl
come_types p o (Unset q m) h = refl

-- no property that tells a type is among those that are written
other_type : (k m : Name) → is_type_name k ≡ true → (p q : Path) → eq_by_cmp path_cmp p q ≡ true → list_any (same_path p) (cond (is_type_name m) (q ∷ []) []) ≡ false → eq_by_cmp name_cmp k m ≡ false
other_type k m type p q here h = false_from_ne_true _ (λ e. by (is_type_name m) (ap is_type_name (sym (name_same k m e)) ∙ type) h)
  where
    by : (b : Bool) → b ≡ true → list_any (same_path p) (cond b (q ∷ []) []) ≡ false → ⊥
    by true e l = false≢true (sym (alone p q l) ∙ here)
    by false e l = false≢true e

filled_types : (k : Name) → is_type_name k ≡ true → (p : Path) (o : Option Node) (w : Write) → renews p w ≡ false → prop_of k (filled p o w) ≡ prop_of k o
filled_types k type p o (Here q) h = refl
filled_types k type p o (Gone q) h = refl
filled_types k type p o (Put q m x) h = by (eq_by_cmp path_cmp p q) refl o
  where
    by : (b : Bool) → eq_by_cmp path_cmp p q ≡ b → (o : Option Node) → prop_of k (cond b (option_map {T = Node} (λ node. record node { props = insert_entry name_cmp node.props m x }) o) o) ≡ prop_of k o
    by false e o = refl
    by true e None = refl
    by true e (Some node) = lookup-insert_entry name_cmp nat_list_cmp_total k m x node.props ∙ ap (λ b. cond b (Some x) (lookup (is_at (name_cmp k)) node.props)) (other_type k m type p q e h)
filled_types k type p o (Unset q m) h = by (eq_by_cmp path_cmp p q) refl o
  where
    by : (b : Bool) → eq_by_cmp path_cmp p q ≡ b → (o : Option Node) → prop_of k (cond b (option_map {T = Node} (λ node. record node { props = remove_entry (is_at (name_cmp m)) node.props }) o) o) ≡ prop_of k o
    by false e o = refl
    by true e None = refl
    by true e (Some node) = removed_other k m (other_type k m type p q e h) node.props

comes_types : (p : Path) (o : Option Node) (ws : List Write) → list_any (renews p) ws ≡ false → fold (come None p) o ws ≡ o
comes_types p o [] h = refl
comes_types p o (w ∷ ws) h = let parts = or_false (renews p w) (list_any (renews p) ws) h in comes_types p (come None p o w) ws parts.1 ∙ come_types p o w parts.0

fills_types : (k : Name) → is_type_name k ≡ true → (p : Path) (o : Option Node) (ws : List Write) → list_any (renews p) ws ≡ false → prop_of k (fold (filled p) o ws) ≡ prop_of k o
fills_types k type p o [] h = refl
fills_types k type p o (w ∷ ws) h = let parts = or_false (renews p w) (list_any (renews p) ws) h in fills_types k type p (filled p o w) ws parts.1 ∙ filled_types k type p o w parts.0

module _ (types : List TypeDef) (t : Nodes) (ws : List Write) (sorted : is_sorted path_cmp t ≡ true) (ok : TypesOk types t) where
  abbrev u : Nodes
  u = applied None t ws

  node_kept : (p : Path) → list_any (touches p) ws ≡ false → node_at u p ≡ node_at t p
  node_kept p none =
      let last = none_last (touches p) ws none in
      node_at-applied None p t ws sorted ∙ (fills_still p _ (last_writes ws) last ∙ comes_still p (node_at t p) (last_writes ws) last)

  child_kept : (p : Path) (n : Name) → list_any (touches p) ws ≡ false → child_at u p n ≡ child_at t p n
  child_kept p n none =
      let last = none_last (touches p) ws none in
      let c = child_path p n in
      let up = parent_of-child p n in
      let came = comes_child p c up (node_at t c) (last_writes ws) last in
      let here : is_some (node_at u c) ≡ is_some (node_at t c) = ap is_some (node_at-applied None c t ws sorted) ∙ (fills_has c _ (last_writes ws) ∙ ap is_some came) in
      let typed : property_at u c primary_type ≡ property_at t c primary_type = ap (prop_of primary_type) (node_at-applied None c t ws sorted) ∙ (fills_child p c up _ (last_writes ws) last ∙ ap (prop_of primary_type) came) in
      λ i. cond (here i) (Some (typed i)) None

  module _ (p : Path) (stands : is_some (node_at u p) ≡ true) (none : list_any (touches p) ws ≡ false) where
    stood : is_some (node_at t p) ≡ true
    stood = sym (ap is_some (node_kept p none)) ∙ stands

    property_none : (n : Name) → property_faults types (node_types u p) n (property_at u p n) ≡ []
    property_none n = subst (λ (o : Option Node). property_faults types (record { primary = prop_of primary_type o; mixins = prop_of mixin_types o }) n (prop_of n o) ≡ []) (sym (node_kept p none)) (ok.properties p n stood)

    child_none : (n : Name) → child_faults types (node_types u p) n (child_at u p n) ≡ []
    child_none n =
        subst (λ (o : Option Node). child_faults types (record { primary = prop_of primary_type o; mixins = prop_of mixin_types o }) n (child_at u p n) ≡ []) (sym (node_kept p none))
        (ap (child_faults types (node_types t p) n) (child_kept p n none) ∙ ok.children p n stood)

    failing_none : (rule : ℕ) → failing_at types u p rule ≡ []
    failing_none rule =
        (λ i. filter (λ n. list_any (λ r. r == rule) (property_none n i)) (property_names types u p) ++ filter (λ n. list_any (λ r. r == rule) (child_none n i)) (child_names types u p))
        ∙ (ap (λ (ns : List Name). ns ++ filter (λ n. false) (child_names types u p)) (filter_never (property_names types u p)) ∙ filter_never (child_names types u p))

    none_at : violations_at types u p ≡ []
    none_at = λ i. flat_map (λ rule. map (λ n. record { node = p; rule = rule; item = n }) (failing_none rule i)) (1 ∷ 2 ∷ 3 ∷ 4 ∷ 5 ∷ 6 ∷ 7 ∷ 8 ∷ 9 ∷ [])

  -- a node of which no more is written than properties stands and has its types as before
  module _ (p : Path) (stands : is_some (node_at u p) ≡ true) (none : list_any (renews p) ws ≡ false) where
    last : list_any (renews p) (last_writes ws) ≡ false
    last = none_last (renews p) ws none

    here : is_some (node_at t p) ≡ true
    here = sym (ap is_some (node_at-applied None p t ws sorted) ∙ (fills_has p _ (last_writes ws) ∙ ap is_some (comes_types p (node_at t p) (last_writes ws) last))) ∙ stands

    typed_as : (k : Name) → is_type_name k ≡ true → property_at u p k ≡ property_at t p k
    typed_as k type = ap (prop_of k) (node_at-applied None p t ws sorted) ∙ (fills_types k type p _ (last_writes ws) last ∙ ap (prop_of k) (comes_types p (node_at t p) (last_writes ws) last))

    -- a child that isn't touched breaks no rule either
    child_as : (n : Name) → list_any (touches (child_path p n)) ws ≡ false → child_faults types (node_types u p) n (child_at u p n) ≡ []
    child_as n still =
        (λ i. child_faults types (record { primary = typed_as primary_type refl i; mixins = typed_as mixin_types refl i }) n (child i)) ∙ ok.children p n here
      where
        child : child_at u p n ≡ child_at t p n
        child = ap (λ (o : Option Node). cond (is_some o) (Some (prop_of primary_type o)) None) (node_kept (child_path p n) still)

  -- at a touched node it is enough to look at the children that are asked for
  asked_alike : (p : Path) → is_some (node_at u p) ≡ true → violations_among (is_looked_at ws p) types u p ≡ violations_at types u p
  asked_alike p stands = λ i. flat_map
      (λ rule. map (λ n. record { node = p; rule = rule; item = n })
      (filter (λ n. list_any (λ r. r == rule) (property_faults types (node_types u p) n (property_at u p n))) (property_names types u p)
      ++ filter (λ n. list_any (λ r. r == rule) (faults n i)) (child_names types u p)))
      (1 ∷ 2 ∷ 3 ∷ 4 ∷ 5 ∷ 6 ∷ 7 ∷ 8 ∷ 9 ∷ [])
    where
      unasked : (n : Name) → (is_renewed ws p || is_node_touched ws (child_path p n)) ≡ false → [] ≡ child_faults types (node_types u p) n (child_at u p n)
      unasked n h =
          let parts = or_false (is_renewed ws p) (is_node_touched ws (child_path p n)) h in
          sym (child_as p stands (sym (any_flat (same_path p) renewed_by ws) ∙ parts.0) n (sym (any_flat (same_path (child_path p n)) touched_by ws) ∙ parts.1))

      faults : (n : Name) → faults_among (is_looked_at ws p) types u p n ≡ child_faults types (node_types u p) n (child_at u p n)
      faults n = by (is_renewed ws p || is_node_touched ws (child_path p n)) refl
        where
          by : (b : Bool) → (is_renewed ws p || is_node_touched ws (child_path p n)) ≡ b → cond b (child_faults types (node_types u p) n (child_at u p n)) [] ≡ child_faults types (node_types u p) n (child_at u p n)
          by true h = refl
          by false h = unasked n h

  each_alike : (es : Nodes) → list_all (λ e. is_some (node_at u e.0)) es ≡ true → flat_map (λ e. cond (is_node_touched ws e.0) (violations_among (is_looked_at ws e.0) types u e.0) []) es ≡ flat_map (λ e. violations_at types u e.0) es
  each_alike [] h = refl
  each_alike (e ∷ es) h =
      let parts = and_parts _ _ h in
      ap (λ (vs : List Violation). vs ++ flat_map (λ e. cond (is_node_touched ws e.0) (violations_among (is_looked_at ws e.0) types u e.0) []) es) (by (is_node_touched ws e.0) refl parts.0)
      ∙ ap (λ (vs : List Violation). violations_at types u e.0 ++ vs) (each_alike es parts.1)
    where
      by : (b : Bool) → is_node_touched ws e.0 ≡ b → is_some (node_at u e.0) ≡ true → cond b (violations_among (is_looked_at ws e.0) types u e.0) [] ≡ violations_at types u e.0
      by true k stands = asked_alike e.0 stands
      by false k stands = sym (none_at e.0 stands (sym (any_flat (same_path e.0) touched_by ws) ∙ k))

-- the refusal of a plan, by the violations that are found and the reference without a node
abbrev with_findings : List TypeDef → Nodes → List (List ℕ) → List Write → List Violation → Option Item → Option Refusal
with_findings types t tokens ws vs item = first_some
    (option_map checked_in (first_of (frozen_over types t ws))
    ∷ option_map locked (first_of (locked_over t tokens ws))
    ∷ option_map type_refusal (first_of vs)
    ∷ option_map dangling_refusal item
    ∷ when (not (has_few_nodes (applied None t ws))) (over_limit (codes "nodes") 100000)
    ∷ [])

touched_alike : (types : List TypeDef) (t : Nodes) (ws : List Write) → is_sorted path_cmp t ≡ true → TypesOk types t → violations_touched ws types (applied None t ws) ≡ violations types (applied None t ws)
touched_alike types t ws sorted ok = each_alike types t ws sorted ok (applied None t ws) (all_there (applied None t ws))

pub alike : (types : List TypeDef) (t : Nodes) (tokens : List (List ℕ)) (ws : List Write) → is_sorted path_cmp t ≡ true → TypesOk types t → refusal_by (record { typed = true; referring = false }) types t tokens ws ≡ plan_refusal types t tokens ws
alike types t tokens ws sorted ok = ap (λ (vs : List Violation). with_findings types t tokens ws vs (dangling (applied None t ws))) (touched_alike types t ws sorted ok)

-- ---- what the caller is assured of

violations_alike : (assured : Assured) (types : List TypeDef) (t : Nodes) (ws : List Write) → is_sorted path_cmp t ≡ true → IsAsAssured assured types t → violations_by assured types (applied None t ws) ws ≡ violations types (applied None t ws)
violations_alike assured types t ws sorted is = by assured.typed refl
  where
    by : (b : Bool) → assured.typed ≡ b → cond b (violations_touched ws types (applied None t ws)) (violations types (applied None t ws)) ≡ violations types (applied None t ws)
    by true h = touched_alike types t ws sorted (is.typed h)
    by false h = refl

dangling_alike : (assured : Assured) (types : List TypeDef) (t : Nodes) (ws : List Write) → IsTree t → IsAsAssured assured types t → dangling_by assured t (applied None t ws) ws ≡ dangling (applied None t ws)
dangling_alike assured types t ws tree is = by assured.referring (list_any (may_dangle t (applied None t ws)) ws) refl refl
  where
    by : (a b : Bool) → assured.referring ≡ a → list_any (may_dangle t (applied None t ws)) ws ≡ b → cond (a && not b) None (dangling (applied None t ws)) ≡ dangling (applied None t ws)
    by true false h none = sym (dangles_not t ws tree (is.referring h) none)
    by true true h any = refl
    by false b h k = refl

pub as_assured : (assured : Assured) (types : List TypeDef) (t : Nodes) (tokens : List (List ℕ)) (ws : List Write) → IsTree t → IsAsAssured assured types t → refusal_by assured types t tokens ws ≡ plan_refusal types t tokens ws
as_assured assured types t tokens ws tree is =
    ap (λ (vs : List Violation). with_findings types t tokens ws vs (dangling_by assured t (applied None t ws) ws)) (violations_alike assured types t ws tree.paths is)
    ∙ ap (with_findings types t tokens ws (violations types (applied None t ws))) (dangling_alike assured types t ws tree is)

-- what is not refused on a tree that is as the caller is assured is a plan
pub planned_as_assured : (assured : Assured) (types : List TypeDef) (t : Nodes) (tokens : List (List ℕ)) (ws : List Write) (marks : List MarkAt) → marks ≡ marks_of t ws → refusal_by assured types t tokens ws ≡ None
    → IsTree t → IsAsAssured assured types t → IsProper t ws → PlanOk types t tokens ws marks
planned_as_assured assured types t tokens ws marks is free tree so proper = planned types t tokens ws marks is (sym (as_assured assured types t tokens ws tree so) ∙ free) proper
