-- Where no violation is listed, the rules hold at each node and for each name.
use Rattle.std.proofs.Common.{◌≡◌, ◌⊎◌, inl, inr, ℕ, Bool, true, false, cond, ◌&&◌, ◌||◌, ◌==◌, not, Option, None, Some, List, [], ◌∷◌, ◌++◌, refl, sym, ap, ◌∙◌, subst, is_some, map}
use Rattle.std.specs.Cmp.{tied_itself}
use Rattle.std.specs.Option.{option_and_then, option_map_or}
use Rattle.std.specs.Ordering.{is_eq, eq_by_cmp}
use Rattle.std.specs.List.{cons_option, filter, flat_map, list_any}
use Rattle.std.specs.Map.{lookup, keys_of}
use Rattle.std.specs.BTreeMap.{is_at, insert_entry}
use Rattle.std.proofs.lemmas.Cmp.{nat_list_cmp_total}
use Rattle.std.proofs.lemmas.List.Folds.{list_any-append}
use mathlib.Core.Bool.{false≢true}
use Rattle.jr_path.specs.Names.{name_cmp, path_cmp, last_name}
use Rattle.jr_path.specs.declared.name.Name.{Name}
use Rattle.jr_path.specs.declared.path.Path.{Path}
use Rattle.jr_path.proofs.Maps.{path_total, lookup-insert_entry}
use Rattle.jr_path.proofs.Parts.{parent_of-child, last_name-child}
use Rattle.jr_tree.specs.declared.tree.Node.{Node}
use Rattle.jr_tree.specs.Trees.{Nodes, node_at, property_at, is_child_of, children_of}
use Rattle.jr_tree.specs.Edits.{properties_at}
use Rattle.jr_tree.proofs.Pointwise.{same_path}
use Rattle.jr_items.specs.Names.{primary_type, mixin_types}
use Rattle.jr_items.specs.Items.{same_name, in_name_order, child_path}
use Rattle.jr_types.specs.declared.TypeDef.{TypeDef}
use Rattle.jr_types.specs.Types.{NodeTypes, types_of}
use Rattle.jr_types.specs.Rules.{TypesOk, failing, is_primary_type, are_mixins, is_undefined, is_misfit, is_outside, is_missing, is_stray, is_of_no_type, property_faults, child_faults, node_types, child_at, mandatory_props, mandatory_children}
use Rattle.jr_types.proofs.Same.{itself, left_nil, right_nil, same}
use Rattle.jr_rules.specs.Violations.{Violation, property_names, child_names, failing_at, violations_at, violations}

-- ---- lists

map_nil : {X Y : Type 0} (f : X → Y) (xs : List X) → map f xs ≡ [] → xs ≡ []
map_nil f [] h = refl
map_nil f (x ∷ xs) h = absurd (false≢true (ap is_cons (sym h)))
  where
    is_cons : {X : Type 0} → List X → Bool
    is_cons [] = false
    is_cons (x ∷ xs) = true

or_first : (a b : Bool) → (a || b) ≡ false → a ≡ false
or_first true b h = h
or_first false b h = refl

or_second : (a b : Bool) → (a || b) ≡ false → b ≡ false
or_second true b h = absurd (false≢true (sym h))
or_second false b h = h

-- ---- names in their order

found : {X : Type 0} (n : Name) (e : Name × X) (rest : List (Name × X)) → list_any (same_name n) (keys_of rest) ≡ is_some (lookup (is_at (name_cmp n)) rest)
    → (b : Bool) → (b || list_any (same_name n) (keys_of rest)) ≡ is_some (cond b (Some e.1) (lookup (is_at (name_cmp n)) rest))
found n e rest h true = refl
found n e rest h false = h

pub any-keys : {X : Type 0} (n : Name) (es : List (Name × X)) → list_any (same_name n) (keys_of es) ≡ is_some (lookup (is_at (name_cmp n)) es)
any-keys n [] = refl
any-keys n (e ∷ es) = found n e es (any-keys n es) (same_name n e.0)

pub keys-of-pairs : (ns : List Name) → keys_of (map (λ m. (m, true)) ns) ≡ ns
keys-of-pairs [] = refl
keys-of-pairs (n ∷ ns) = ap (λ ms. n ∷ ms) (keys-of-pairs ns)

in_order-step : (n m : Name) (ordered ns : List Name) → list_any (same_name n) ordered ≡ list_any (same_name n) ns
    → (b : Bool) → is_some (cond b (Some true) (lookup (is_at (name_cmp n)) (map (λ k. (k, true)) ordered))) ≡ (b || list_any (same_name n) ns)
in_order-step n m ordered ns h true = refl
in_order-step n m ordered ns h false = sym (any-keys n (map (λ k. (k, true)) ordered)) ∙ (ap (list_any (same_name n)) (keys-of-pairs ordered) ∙ h)

pub any-in_order : (n : Name) (ns : List Name) → list_any (same_name n) (in_name_order ns) ≡ list_any (same_name n) ns
any-in_order n [] = refl
any-in_order n (m ∷ ns) =
    any-keys n (insert_entry name_cmp (map (λ k. (k, true)) (in_name_order ns)) m true)
    ∙ (ap is_some (lookup-insert_entry name_cmp nat_list_cmp_total n m true (map (λ k. (k, true)) (in_name_order ns)))
    ∙ in_order-step n m (in_name_order ns) ns (any-in_order n ns) (same_name n m))

-- where the filter leaves nothing, the test fails at each name
filtered : (p : Name → Bool) (n : Name) (xs : List Name) → filter p xs ≡ [] → list_any (same_name n) xs ≡ true → p n ≡ false
filtered p n [] h any = absurd (false≢true any)
filtered p n (x ∷ xs) h any = by (p x) refl (same_name n x) refl h any (λ k l. filtered p n xs k l)
  where
    is_cons : List Name → Bool
    is_cons [] = false
    is_cons (x ∷ xs) = true

    by : (b : Bool) → p x ≡ b → (s : Bool) → same_name n x ≡ s → cond b (x ∷ filter p xs) (filter p xs) ≡ [] → (s || list_any (same_name n) xs) ≡ true
        → (filter p xs ≡ [] → list_any (same_name n) xs ≡ true → p n ≡ false) → p n ≡ false
    by true e s k h any rest = absurd (false≢true (ap is_cons (sym h)))
    by false e true k h any rest = ap p (same n x k) ∙ e
    by false e false k h any rest = rest h any

-- ---- the rules at one item

-- one of the list
abbrev In : ℕ → List ℕ → Type 0
In k [] = ⊥
In k (x ∷ xs) = (k ≡ x) ⊎ In k xs

in_more : (k : ℕ) (xs ys : List ℕ) → In k xs → In k (xs ++ ys)
in_more k [] ys i = absurd i
in_more k (x ∷ xs) ys i = elim i [ inl e ↦ inl e | inr j ↦ inr (in_more k xs ys j) ]

in_rest : (k : ℕ) (xs ys : List ℕ) → In k ys → In k (xs ++ ys)
in_rest k [] ys i = i
in_rest k (x ∷ xs) ys i = inr (in_rest k xs ys i)

abbrev of_properties : List ℕ
of_properties = 1 ∷ 2 ∷ 3 ∷ 4 ∷ 5 ∷ 6 ∷ []

abbrev of_children : List ℕ
of_children = 7 ∷ 8 ∷ 9 ∷ []

six : (a b c d e f : Bool)
    → ((k : ℕ) → In k of_properties → list_any (λ r. r == k) (failing 1 a ++ failing 2 b ++ failing 3 c ++ failing 4 d ++ failing 5 e ++ failing 6 f) ≡ false)
    → failing 1 a ++ failing 2 b ++ failing 3 c ++ failing 4 d ++ failing 5 e ++ failing 6 f ≡ []
six true b c d e f h = absurd (false≢true (sym (h 1 (inl refl))))
six false true c d e f h = absurd (false≢true (sym (h 2 (inr (inl refl)))))
six false false true d e f h = absurd (false≢true (sym (h 3 (inr (inr (inl refl))))))
six false false false true e f h = absurd (false≢true (sym (h 4 (inr (inr (inr (inl refl)))))))
six false false false false true f h = absurd (false≢true (sym (h 5 (inr (inr (inr (inr (inl refl))))))))
six false false false false false true h = absurd (false≢true (sym (h 6 (inr (inr (inr (inr (inr (inl refl)))))))))
six false false false false false false h = refl

three : (a b c : Bool) → ((k : ℕ) → In k of_children → list_any (λ r. r == k) (failing 7 a ++ failing 8 b ++ failing 9 c) ≡ false) → failing 7 a ++ failing 8 b ++ failing 9 c ≡ []
three true b c h = absurd (false≢true (sym (h 7 (inl refl))))
three false true c h = absurd (false≢true (sym (h 8 (inr (inl refl)))))
three false false true h = absurd (false≢true (sym (h 9 (inr (inr (inl refl))))))
three false false false h = refl

absent_six : (a b c : Bool) (x y : Bool) → a ≡ false → b ≡ false → c ≡ false → failing 1 (a && x) ++ failing 2 (b && y) ++ failing 3 false ++ failing 4 false ++ failing 5 false ++ failing 6 c ≡ []
absent_six true b c x y h k l = absurd (false≢true (sym h))
absent_six false true c x y h k l = absurd (false≢true (sym k))
absent_six false false true x y h k l = absurd (false≢true (sym l))
absent_six false false false x y h k l = refl

absent_three : (c : Bool) → c ≡ false → failing 7 false ++ failing 8 false ++ failing 9 c ≡ []
absent_three true h = absurd (false≢true (sym h))
absent_three false h = refl

-- ---- at a node

not_there : {X : Type 0} (o : Option X) → is_some o ≡ false → o ≡ None
not_there None h = refl
not_there (Some x) h = absurd (false≢true (sym h))

any_option : (n : Name) (o : Option Name) (ns : List Name) → list_any (same_name n) ns ≡ true → list_any (same_name n) (cons_option o ns) ≡ true
any_option n None ns h = h
any_option n (Some m) ns h = by (same_name n m)
  where
    by : (b : Bool) → (b || list_any (same_name n) ns) ≡ true
    by true = refl
    by false = h

in_children : (p : Path) (n : Name) (t : Nodes) → is_some (node_at t (child_path p n)) ≡ true → list_any (same_name n) (children_of t p) ≡ true
in_children p n [] h = absurd (false≢true h)
in_children p n (e ∷ t) h = by (eq_by_cmp path_cmp (child_path p n) e.0) refl h (in_children p n t)
  where
    name_of : Path → Option Name
    name_of q = cond (is_child_of p q) (last_name q) None

    own : cond (is_child_of p (child_path p n)) (last_name (child_path p n)) None ≡ Some n
    own = ap (λ (o : Option Path). cond (option_map_or (eq_by_cmp path_cmp p) o false) (last_name (child_path p n)) None) (parent_of-child p n)
        ∙ (ap (λ b. cond b (last_name (child_path p n)) None) (ap is_eq (tied_itself path_total p)) ∙ last_name-child p n)

    by : (b : Bool) → eq_by_cmp path_cmp (child_path p n) e.0 ≡ b → is_some (cond b (Some e.1) (node_at t (child_path p n))) ≡ true → (is_some (node_at t (child_path p n)) ≡ true → list_any (same_name n) (children_of t p) ≡ true)
        → list_any (same_name n) (cons_option (cond (is_child_of p e.0) (last_name e.0) None) (children_of t p)) ≡ true
    by true k s rest = subst (λ (q : Path). list_any (same_name n) (cons_option (cond (is_child_of p q) (last_name q) None) (children_of t p)) ≡ true) (same_path (child_path p n) e.0 k)
        (ap (λ o. list_any (same_name n) (cons_option o (children_of t p))) own ∙ ap (λ b. b || list_any (same_name n) (children_of t p)) (itself n))
    by false k s rest = any_option n _ (children_of t p) (rest s)

flat_nil : {Y : Type 0} (f : ℕ → List Y) (ks : List ℕ) → flat_map f ks ≡ [] → (k : ℕ) → In k ks → f k ≡ []
flat_nil f [] h k i = absurd i
flat_nil f (j ∷ ks) h k i = elim i [ inl e ↦ ap f e ∙ left_nil (f j) _ h | inr l ↦ flat_nil f ks (right_nil (f j) _ h) k l ]

absent_property : (n : Name) (o : Option Node) → lookup (is_at (name_cmp n)) (option_map_or (λ node. node.props) o []) ≡ None → option_and_then (λ node. lookup (is_at (name_cmp n)) node.props) o ≡ None
absent_property n None h = refl
absent_property n (Some node) h = h

module _ (types : List TypeDef) (t : Nodes) (p : Path) where
  abbrev its : NodeTypes
  its = node_types t p

  abbrev ds : List TypeDef
  ds = types_of types its

  -- no rule fails at a property that is neither there nor mandatory nor one of those that tell the types
  pub property_apart : (n : Name) → list_any (same_name n) (property_names types t p) ≡ false → property_faults types its n (property_at t p n) ≡ []
  property_apart n e =
      let all = sym (any-in_order n (primary_type ∷ mixin_types ∷ map (λ x. x.0) (properties_at t p) ++ mandatory_props ds)) ∙ e in
      let rest = or_second (same_name n mixin_types) _ (or_second (same_name n primary_type) _ all) in
      let parts = sym (list_any-append (same_name n) (keys_of (properties_at t p)) (mandatory_props ds)) ∙ rest in
      let absent : property_at t p n ≡ None = absent_property n (node_at t p) (not_there _ (sym (any-keys n (properties_at t p)) ∙ or_first _ _ parts)) in
      ap (property_faults types its n) absent
      ∙ absent_six (same_name n primary_type) (same_name n mixin_types) (list_any (same_name n) (mandatory_props ds)) _ _
      (or_first (same_name n primary_type) _ all) (or_first (same_name n mixin_types) _ (or_second (same_name n primary_type) _ all)) (or_second _ _ parts)

  -- no rule fails at a child that is neither there nor mandatory
  pub child_apart : (n : Name) → list_any (same_name n) (child_names types t p) ≡ false → child_faults types its n (child_at t p n) ≡ []
  child_apart n e =
      let parts = sym (list_any-append (same_name n) (children_of t p) (mandatory_children ds)) ∙ (sym (any-in_order n (children_of t p ++ mandatory_children ds)) ∙ e) in
      let gone = or_first (list_any (same_name n) (children_of t p)) _ parts in
      ap (child_faults types its n) (absent (is_some (node_at t (child_path p n))) refl gone) ∙ absent_three (list_any (same_name n) (mandatory_children ds)) (or_second _ _ parts)
    where
      absent : (b : Bool) → is_some (node_at t (child_path p n)) ≡ b → list_any (same_name n) (children_of t p) ≡ false → cond b (Some (property_at t (child_path p n) primary_type)) None ≡ None
      absent true h k = absurd (false≢true (sym k ∙ in_children p n t h))
      absent false h k = refl

module _ (types : List TypeDef) (t : Nodes) (p : Path) (none : violations_at types t p ≡ []) where
  at_rule : (k : ℕ) → In k (of_properties ++ of_children) → failing_at types t p k ≡ []
  at_rule k i = map_nil (λ n. record { node = p; rule = k; item = n }) (failing_at types t p k) (flat_nil (λ rule. map (λ n. violation rule n) (failing_at types t p rule)) (of_properties ++ of_children) none k i)
    where
      violation : ℕ → Name → Violation
      violation rule n = record { node = p; rule = rule; item = n }

  property_ok : (n : Name) → property_faults types (its types t p) n (property_at t p n) ≡ []
  property_ok n = by (list_any (same_name n) (property_names types t p)) refl
    where
      by : (b : Bool) → list_any (same_name n) (property_names types t p) ≡ b → property_faults types (its types t p) n (property_at t p n) ≡ []
      by true e = six (same_name n primary_type && not (is_primary_type types (property_at t p n))) (same_name n mixin_types && not (are_mixins types (property_at t p n)))
          (is_undefined (ds types t p) n (property_at t p n)) (is_misfit (ds types t p) n (property_at t p n)) (is_outside (ds types t p) n (property_at t p n)) (is_missing (mandatory_props (ds types t p)) n (property_at t p n))
          (λ k i. filtered (λ m. list_any (λ r. r == k) (property_faults types (its types t p) m (property_at t p m))) n (property_names types t p) (left_nil _ _ (at_rule k (in_more k of_properties of_children i))) e)
      by false e = property_apart types t p n e

  child_ok : (n : Name) → child_faults types (its types t p) n (child_at t p n) ≡ []
  child_ok n = by (list_any (same_name n) (child_names types t p)) refl
    where
      by : (b : Bool) → list_any (same_name n) (child_names types t p) ≡ b → child_faults types (its types t p) n (child_at t p n) ≡ []
      by true e = three (is_stray (ds types t p) n (child_at t p n)) (is_of_no_type types (ds types t p) n (child_at t p n)) (is_missing (mandatory_children (ds types t p)) n (child_at t p n))
          (λ k i. filtered (λ m. list_any (λ r. r == k) (child_faults types (its types t p) m (child_at t p m))) n (child_names types t p) (right_nil _ _ (at_rule k (in_rest k of_properties of_children i))) e)
      by false e = child_apart types t p n e

at_node : (types : List TypeDef) (t all : Nodes) (p : Path) → flat_map (λ e. violations_at types all e.0) t ≡ [] → is_some (node_at t p) ≡ true → violations_at types all p ≡ []
at_node types [] all p none h = absurd (false≢true h)
at_node types (e ∷ t) all p none h = by (eq_by_cmp path_cmp p e.0) refl h (λ k. at_node types t all p (right_nil (violations_at types all e.0) _ none) k)
  where
    by : (b : Bool) → eq_by_cmp path_cmp p e.0 ≡ b → is_some (cond b (Some e.1) (node_at t p)) ≡ true → (is_some (node_at t p) ≡ true → violations_at types all p ≡ []) → violations_at types all p ≡ []
    by true k s rest = ap (violations_at types all) (same_path p e.0 k) ∙ left_nil (violations_at types all e.0) _ none
    by false k s rest = rest s

-- where nothing is listed, the rules hold
pub meets_rules : (types : List TypeDef) (t : Nodes) → violations types t ≡ [] → TypesOk types t
meets_rules types t none = record {
  properties = λ p n h. property_ok types t p (at_node types t t p none h) n;
  children = λ p n h. child_ok types t p (at_node types t t p none h) n;
}
