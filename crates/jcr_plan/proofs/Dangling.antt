-- After an edit that changes nothing by which references go each REFERENCE names a node, where each did before.
use Rattle.std.proofs.Common.{◌≡◌, ℕ, Bool, true, false, cond, ◌&&◌, ◌||◌, not, Option, None, Some, is_some, is_none, List, [], ◌∷◌, ◌++◌, map, refl, sym, ap, ◌∙◌, subst}
use Rattle.std.proofs.lemmas.Bool.{false≢true, and_from, and_parts, false_from_ne_true}
use Rattle.std.proofs.lemmas.Cmp.{nat_list_cmp_total}
use Rattle.std.specs.declared.cmp.Ordering.{Ordering}
use Rattle.std.specs.Cmp.{IsTotalOrder, tied_itself}
use Rattle.std.specs.FinMap.{is_sorted}
use Rattle.std.specs.List.{cons_option, filter, filter_map, find, flat_map, list_all, list_any}
use Rattle.std.specs.Map.{keys_of, lookup}
use Rattle.std.specs.BTreeMap.{is_at}
use Rattle.std.specs.Option.{option_map_or, option_or, unwrap_or}
use Rattle.std.specs.Ordering.{eq_by_cmp, is_eq}
use Rattle.jr_path.specs.Names.{name_cmp, path_cmp}
use Rattle.jr_path.specs.declared.name.Name.{Name}
use Rattle.jr_path.specs.declared.path.Item.{Item}
use Rattle.jr_path.specs.declared.path.Path.{Path}
use Rattle.jr_path.proofs.Maps.{path_total}
use Rattle.jr_value.specs.declared.value.Property.{Property}
use Rattle.jr_value.specs.declared.value.Value.{Value}
use Rattle.jr_value.specs.Values.{same_bytes}
use Rattle.jr_tree.specs.declared.tree.Node.{Node}
use Rattle.jr_tree.specs.declared.edit.Write.{Write}
use Rattle.jr_tree.specs.declared.edit.Write.TheVariants.{Here, Gone, Put, Unset}
use Rattle.jr_tree.specs.Trees.{IsTree, Nodes, node_at, property_at}
use Rattle.jr_tree.specs.Edits.{applied}
use Rattle.jr_tree.specs.Items.{has_after, here_of, put_of, written}
use Rattle.jr_tree.proofs.AtPath.{order-applied, prop_of}
use Rattle.jr_tree.proofs.EditLaw.{IsOrderly, Orderly-all, Orderly-applied, property_applied}
use Rattle.jr_tree.proofs.Entries.{exactly, none_below}
use Rattle.jr_tree.proofs.Pointwise.{same_path as path_same}
use Rattle.jr_items.specs.Names.{frozen_type, primary_type, uuid}
use Rattle.jr_items.specs.Items.{first_of, is_empty, is_of_type, one_name, one_text, reference_in, same_name, values_in}
use Rattle.jcr_ref.specs.References.{ReferencesOk, dangling, is_dangling, is_target, properties_where, references_at, target_of, uuid_text}
use Rattle.jcr_marks.specs.ByWrite.{references_in}
use Rattle.jcr_marks.proofs.Stirred.{or_false}
use Rattle.jcr_plan.specs.Checked.{has_reference, is_identity, may_dangle}

-- ---- lists

all_more : {X : Type 0} (f g : X → Bool) → ((x : X) → f x ≡ true → g x ≡ true) → (xs : List X) → list_all f xs ≡ true → list_all g xs ≡ true
all_more f g more [] h = refl
all_more f g more (x ∷ xs) h = let parts = and_parts _ _ h in and_from _ _ (more x parts.0) (all_more f g more xs parts.1)

none_passing : {X : Type 0} (test : X → Bool) (xs : List X) → list_all (λ x. not (test x)) xs ≡ true → filter test xs ≡ []
none_passing test [] h = refl
none_passing test (x ∷ xs) h = let parts = and_parts _ _ h in by (test x) parts.0 (none_passing test xs parts.1)
  where
    by : (b : Bool) → not b ≡ true → filter test xs ≡ [] → cond b (x ∷ filter test xs) (filter test xs) ≡ []
    by true k rest = absurd (false≢true k)
    by false k rest = rest

nothing_flat : {X Y : Type 0} (f : X → List Y) (xs : List X) → list_all (λ x. is_empty (f x)) xs ≡ true → flat_map f xs ≡ []
nothing_flat f [] h = refl
nothing_flat {Y = Y} f (x ∷ xs) h = let parts = and_parts _ _ h in by (f x) parts.0 (nothing_flat f xs parts.1)
  where
    by : (ys : List Y) → is_empty ys ≡ true → flat_map f xs ≡ [] → ys ++ flat_map f xs ≡ []
    by [] k rest = rest
    by (y ∷ ys) k rest = absurd (false≢true k)

-- what holds of each entry that is found holds of all entries of a list in order
module _ {K X : Type 0} (R : K → K → Ordering) (total : IsTotalOrder R) where
  all_found : (test : K × X → Bool) (es : List (K × X)) → is_sorted R es ≡ true → ((k : K) (x : X) → lookup (is_at (R k)) es ≡ Some x → test (k, x) ≡ true) → list_all test es ≡ true
  all_found test [] s each = refl
  all_found test (e ∷ es) s each = let parts = and_parts _ _ s in and_from _ _
      (each e.0 e.1 (ap (λ o. cond (is_eq o) (Some e.1) (lookup (is_at (R e.0)) es)) (tied_itself total e.0)))
      (all_found test es parts.1 (λ k x h. each k x (passed k x h (eq_by_cmp R k e.0) refl)))
    where
      passed : (k : K) (x : X) → lookup (is_at (R k)) es ≡ Some x → (b : Bool) → eq_by_cmp R k e.0 ≡ b → cond b (Some e.1) (lookup (is_at (R k)) es) ≡ Some x
      passed k x h true g = absurd (false≢true (ap is_some (sym (none_below R total k e.0 (exactly _ g) es (and_parts _ _ s).0) ∙ h)))
      passed k x h false g = h

-- what holds of each write holds of the last
last_of : {X : Type 0} (P : Option X → Type 0) (test : Write → Bool) (f : Write → Option X) → P None → ((w : Write) → test w ≡ false → P (f w)) → (ws : List Write) → list_any test ws ≡ false → P (written f ws)
last_of P test f begin each [] h = begin
last_of {X = X} P test f begin each (w ∷ ws) h = let parts = or_false (test w) (list_any test ws) h in by (written f ws) (last_of P test f begin each ws parts.1) (each w parts.0)
  where
    by : (o : Option X) → P o → P (f w) → P (option_or o (f w))
    by None past here = here
    by (Some x) past here = past

-- ---- references

no_references : (xs : List Value) → list_any (λ v. is_some (reference_in v)) xs ≡ false → filter_map reference_in xs ≡ []
no_references [] h = refl
no_references (v ∷ xs) h = let parts = or_false (is_some (reference_in v)) _ h in by (reference_in v) parts.0 (no_references xs parts.1)
  where
    by : (o : Option ℕ) → is_some o ≡ false → filter_map reference_in xs ≡ [] → cons_option o (filter_map reference_in xs) ≡ []
    by None k rest = rest
    by (Some id) k rest = absurd (false≢true (sym k))

none_lacking : {X : Type 0} (f : ℕ → Option X) (ids : List ℕ) → list_all (λ id. is_some (f id)) ids ≡ true → list_any (λ id. is_none (f id)) ids ≡ false
none_lacking f [] h = refl
none_lacking {X = X} f (id ∷ ids) h = let parts = and_parts _ _ h in by (f id) parts.0 (none_lacking f ids parts.1)
  where
    by : (o : Option X) → is_some o ≡ true → list_any (λ id. is_none (f id)) ids ≡ false → (is_none o || list_any (λ id. is_none (f id)) ids) ≡ false
    by None k rest = absurd (false≢true k)
    by (Some x) k rest = rest

-- where each reference names a node, none is found that names none
module _ (t : Nodes) (order : is_sorted path_cmp t ≡ true) (orderly : (p : Path) → IsOrderly (node_at t p)) (referring : ReferencesOk t) where
  holds : (p : Path) (n : Name) (x : Property) → property_at t p n ≡ Some x → not (is_dangling t p x) ≡ true
  holds p n x is = by (is_of_type t frozen_type p) refl
    where
      by : (b : Bool) → is_of_type t frozen_type p ≡ b → not (not b && list_any (λ id. is_none (target_of t id)) (filter_map reference_in (values_in x))) ≡ true
      by true e = refl
      by false e = ap not (none_lacking (target_of t) _ (subst (λ (o : Option Property). list_all (λ id. is_some (target_of t id)) (references_in o) ≡ true) is (referring p n e)))

  abbrev item_at : Path → Name → Item
  item_at p n = record { path = p; name = Some n }

  node_holds : (p : Path) (node : Node) → node_at t p ≡ Some node → is_empty (properties_where (is_dangling t p) p node.props) ≡ true
  node_holds p node is = ap (λ (es : List (Name × Property)). is_empty (map (λ (x : Name × Property). item_at p x.0) es))
      (none_passing (λ x. is_dangling t p x.1) node.props
      (all_found name_cmp nat_list_cmp_total (λ x. not (is_dangling t p x.1)) node.props (orderly p node is) (λ n x h. holds p n x (ap (prop_of n) is ∙ h))))

  none_dangling : dangling t ≡ None
  none_dangling = ap first_of (nothing_flat (λ e. properties_where (is_dangling t e.0) e.0 e.1.props) t (all_found path_cmp path_total _ t order node_holds))

-- ---- nodes that are named

found : (test : Path → Bool) (ps : List Path) → is_some (find test ps) ≡ true → (p : Path) × (test p ≡ true)
found test [] h = absurd (false≢true h)
found test (p ∷ ps) h = by (test p) refl h (found test ps)
  where
    by : (b : Bool) → test p ≡ b → is_some (cond b (Some p) (find test ps)) ≡ true → (is_some (find test ps) ≡ true → (q : Path) × (test q ≡ true)) → (q : Path) × (test q ≡ true)
    by true k l rest = (p, k)
    by false k l rest = rest l

found_at : (test : Path → Bool) (t : Nodes) (p : Path) → test p ≡ true → is_some (node_at t p) ≡ true → is_some (find test (keys_of t)) ≡ true
found_at test [] p h there = there
found_at test (e ∷ t) p h there = by (test e.0) refl (eq_by_cmp path_cmp p e.0) refl there (found_at test t p h)
  where
    by : (b : Bool) → test e.0 ≡ b → (c : Bool) → eq_by_cmp path_cmp p e.0 ≡ c → is_some (cond c (Some e.1) (node_at t p)) ≡ true → (is_some (node_at t p) ≡ true → is_some (find test (keys_of t)) ≡ true)
        → is_some (cond b (Some e.0) (find test (keys_of t))) ≡ true
    by true k c l m rest = refl
    by false k true l m rest = absurd (false≢true (sym k ∙ (ap test (sym (path_same p e.0 l)) ∙ h)))
    by false k false l m rest = rest m

has_node : (o : Option Node) → is_some (one_text (prop_of uuid o)) ≡ true → is_some o ≡ true
has_node None h = absurd (false≢true h)
has_node (Some node) h = refl

has_text : (text : List ℕ) (o : Option (List ℕ)) → option_map_or (same_bytes text) o false ≡ true → is_some o ≡ true
has_text text None h = absurd (false≢true h)
has_text text (Some s) h = refl

-- ---- what the writes leave

not_written : {X : Type 0} (a b : Bool) (o : Option X) → b ≡ false → cond (a && b) o None ≡ None
not_written true b o h = ap (λ c. cond c o None) h
not_written false b o h = refl

left_there : (written : Option Bool) (there : Bool) → unwrap_or written true ≡ true → there ≡ true → unwrap_or written there ≡ true
left_there None there h k = k
left_there (Some b) there h k = h

module _ (t : Nodes) (ws : List Write) (tree : IsTree t) (none : list_any (may_dangle t (applied None t ws)) ws ≡ false) where
  abbrev u : Nodes
  u = applied None t ws

  abbrev spares : Write → Type 0
  spares w = may_dangle t u w ≡ false

  -- the properties of a node that stays, as they are written or were
  stayed : (p : Path) (n : Name) → has_after t ws p ≡ true → property_at u p n ≡ unwrap_or (written (put_of p n) ws) (property_at t p n)
  stayed p n stays = property_applied None t ws tree.paths (Orderly-all t tree.names) p n ∙ ap (λ b. cond b (unwrap_or (written (put_of p n) ws) (property_at t p n)) None) stays

  kept : (p : Path) (n : Name) → has_after t ws p ≡ true → written (put_of p n) ws ≡ None → property_at u p n ≡ property_at t p n
  kept p n stays unwritten = stayed p n stays ∙ ap (λ (o : Option (Option Property)). unwrap_or o (property_at t p n)) unwritten

  -- identifiers
  no_uuid : (q : Path) (m : Name) → is_identity t u q m ≡ false → same_name uuid m ≡ false
  no_uuid q m h = (or_false (same_name uuid m) _ h).0

  uuid_spared : (p : Path) (w : Write) → spares w → put_of p uuid w ≡ None
  uuid_spared p (Here q) h = refl
  uuid_spared p (Gone q) h = refl
  uuid_spared p (Put q m x) h = not_written (eq_by_cmp path_cmp p q) _ _ (no_uuid q m (or_false (has_reference x) _ h).1)
  uuid_spared p (Unset q m) h = not_written (eq_by_cmp path_cmp p q) _ _ (no_uuid q m h)

  node_spared : (p : Path) → is_some (one_text (property_at t p uuid)) ≡ true → (w : Write) → spares w → unwrap_or (here_of p w) true ≡ true
  node_spared p has (Here q) h = elim (eq_by_cmp path_cmp p q) as (λ b. unwrap_or (cond b (Some true) None) true ≡ true) [ true ↦ refl | false ↦ refl ]
  node_spared p has (Gone q) h = by (eq_by_cmp path_cmp p q) refl
    where
      by : (b : Bool) → eq_by_cmp path_cmp p q ≡ b → unwrap_or (cond b (Some false) None) true ≡ true
      by true e = absurd (false≢true (sym h ∙ (ap (λ (r : Path). is_some (one_text (property_at t r uuid))) (sym (path_same p q e)) ∙ has)))
      by false e = refl
  node_spared p has (Put q m x) h = refl
  node_spared p has (Unset q m) h = refl

  uuid_kept : (p : Path) → is_some (one_text (property_at t p uuid)) ≡ true → property_at u p uuid ≡ property_at t p uuid
  uuid_kept p has = kept p uuid
      (left_there (written (here_of p) ws) (is_some (node_at t p)) (last_of (λ o. unwrap_or o true ≡ true) (may_dangle t u) (here_of p) refl (node_spared p has) ws none) (has_node (node_at t p) has))
      (last_of (λ o. o ≡ None) (may_dangle t u) (put_of p uuid) refl (uuid_spared p) ws none)

  named_still : (id : ℕ) → is_some (target_of t id) ≡ true → is_some (target_of u id) ≡ true
  named_still id h =
      let at = found (is_target t id) (keys_of t) h in
      let has = has_text (uuid_text id) (one_text (property_at t at.0 uuid)) at.1 in
      let same = uuid_kept at.0 has in
      found_at (is_target u id) u at.0 (ap (λ (o : Option Property). option_map_or (same_bytes (uuid_text id)) (one_text o) false) same ∙ at.1)
      (has_node (node_at u at.0) (ap (λ (o : Option Property). is_some (one_text o)) same ∙ has))

  -- nodes of a frozen type
  no_type : (q : Path) (m : Name) → is_of_type t frozen_type q ≡ true → is_identity t u q m ≡ false → same_name primary_type m ≡ false
  no_type q m frozen h = by (same_name primary_type m) (is_of_type t frozen_type q) frozen (or_false (same_name uuid m) _ h).1
    where
      by : (b c : Bool) → c ≡ true → (b && (c || is_of_type u frozen_type q)) ≡ false → b ≡ false
      by true true k l = absurd (false≢true (sym l))
      by true false k l = absurd (false≢true k)
      by false c k l = refl

  type_elsewhere : (p q : Path) (m : Name) (o : Option Property) → is_of_type t frozen_type p ≡ true → is_identity t u q m ≡ false → cond (eq_by_cmp path_cmp p q && same_name primary_type m) (Some o) None ≡ None
  type_elsewhere p q m o frozen h = by (eq_by_cmp path_cmp p q) refl
    where
      by : (b : Bool) → eq_by_cmp path_cmp p q ≡ b → cond (b && same_name primary_type m) (Some o) None ≡ None
      by true e = ap (λ c. cond c (Some o) None) (no_type q m (ap (is_of_type t frozen_type) (sym (path_same p q e)) ∙ frozen) h)
      by false e = refl

  type_spared : (p : Path) → is_of_type t frozen_type p ≡ true → (w : Write) → spares w → put_of p primary_type w ≡ None
  type_spared p frozen (Here q) h = refl
  type_spared p frozen (Gone q) h = refl
  type_spared p frozen (Put q m x) h = type_elsewhere p q m (Some x) frozen (or_false (has_reference x) _ h).1
  type_spared p frozen (Unset q m) h = type_elsewhere p q m None frozen h

  frozen_still : (p : Path) → has_after t ws p ≡ true → is_of_type t frozen_type p ≡ true → is_of_type u frozen_type p ≡ true
  frozen_still p stays frozen =
      ap (λ (o : Option Property). option_map_or (same_name frozen_type) (one_name o) false) (kept p primary_type stays (last_of (λ o. o ≡ None) (may_dangle t u) (put_of p primary_type) refl (type_spared p frozen) ws none)) ∙ frozen

  -- what is written has no reference
  bare : (p : Path) (n : Name) (w : Write) → spares w → references_in (unwrap_or (put_of p n w) None) ≡ []
  bare p n (Here q) h = refl
  bare p n (Gone q) h = refl
  bare p n (Put q m x) h =
      elim (eq_by_cmp path_cmp p q && eq_by_cmp name_cmp n m) as (λ b. references_in (unwrap_or (cond b (Some (Some x)) None) None) ≡ []) [ true ↦ no_references (values_in x) (or_false (has_reference x) _ h).0 | false ↦ refl ]
  bare p n (Unset q m) h = elim (eq_by_cmp path_cmp p q && eq_by_cmp name_cmp n m) as (λ b. references_in (unwrap_or (cond b (Some None) None) None) ≡ []) [ true ↦ refl | false ↦ refl ]

  abbrev AreNamed : Option Property → Type 0
  AreNamed o = list_all (λ id. is_some (target_of u id)) (references_in o) ≡ true

  refers : ReferencesOk t → ReferencesOk u
  refers ok p n thawed = subst AreNamed (sym (property_applied None t ws tree.paths (Orderly-all t tree.names) p n)) (by (has_after t ws p) refl)
    where
      none_written : (o : Option (Option Property)) → references_in (unwrap_or o None) ≡ [] → AreNamed (property_at t p n) → AreNamed (unwrap_or o (property_at t p n))
      none_written None h old = old
      none_written (Some o) h old = ap (list_all (λ id. is_some (target_of u id))) h

      by : (b : Bool) → has_after t ws p ≡ b → AreNamed (cond b (unwrap_or (written (put_of p n) ws) (property_at t p n)) None)
      by false e = refl
      by true e = none_written (written (put_of p n) ws) (last_of (λ o. references_in (unwrap_or o None) ≡ []) (may_dangle t u) (put_of p n) refl (bare p n) ws none)
          (all_more (λ id. is_some (target_of t id)) (λ id. is_some (target_of u id)) named_still (references_at t p n) (ok p n (false_from_ne_true _ (λ frozen. false≢true (sym thawed ∙ frozen_still p e frozen)))))

pub dangles_not : (t : Nodes) (ws : List Write) → IsTree t → ReferencesOk t → list_any (may_dangle t (applied None t ws)) ws ≡ false → dangling (applied None t ws) ≡ None
dangles_not t ws tree ok none =
    none_dangling (applied None t ws) (order-applied None t ws tree.paths) (Orderly-applied None t ws tree.paths (Orderly-all t tree.names)) (refers t ws tree none ok)
