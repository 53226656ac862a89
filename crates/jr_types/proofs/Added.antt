-- A type that is added under a new name leaves the rules of a tree as they were.
use Rattle.std.proofs.Common.{◌≡◌, ℕ, Bool, true, false, cond, ◌&&◌, ◌==◌, not, Option, None, Some, List, [], ◌∷◌, ◌++◌, refl, sym, ap, ◌∙◌, is_some, reverse}
use Rattle.std.specs.Prelude.{option_to_list}
use Rattle.std.specs.Option.{option_map_or}
use Rattle.std.specs.List.{cons_option, filter_map, find, flat_map, list_any, list_all}
use mathlib.Core.Bool.{false≢true}
use Rattle.std.proofs.lemmas.List.{reverse-append}
use Rattle.jr_path.specs.declared.name.Name.{Name}
use Rattle.jr_path.specs.declared.path.Path.{Path}
use Rattle.jr_value.specs.declared.value.Property.{Property}
use Rattle.jr_value.specs.declared.value.Property.TheVariants.{Single, Many}
use Rattle.jr_value.specs.declared.value.Value.{Value}
use Rattle.jr_value.specs.declared.value.Kind.TheVariants as kind
use Rattle.jr_value.specs.Values.{kind_number}
use Rattle.jr_tree.specs.Trees.{Nodes, node_at, property_at}
use Rattle.jr_items.specs.Names.{primary_type, mixin_types}
use Rattle.jr_items.specs.Items.{same_name, is_empty, name_in, one_name, many_names, child_path}
use Rattle.jr_types.specs.declared.ChildDef.{ChildDef}
use Rattle.jr_types.specs.declared.TypeDef.{TypeDef}
use Rattle.jr_types.specs.Types.{type_named, lineage, lineage_among, supertypes_of, is_a, types_of, child_defs, fits_child}
use Rattle.jr_types.proofs.Same.{left_nil, right_nil, same}
use Rattle.jr_types.specs.Rules.{PresentChild, TypesOk, failing, is_primary_type, is_mixin, are_mixins, are_distinct, is_undefined, is_misfit, is_outside, is_missing, is_stray, is_of_no_type, mandatory_props, mandatory_children, property_faults, child_faults, node_types, child_at}

first : (a b : Bool) → (a && b) ≡ true → a ≡ true
first true b h = refl
first false b h = h

second : (a b : Bool) → (a && b) ≡ true → b ≡ true
second true b h = h
second false b h = absurd (false≢true h)

passes : (k : ℕ) (b : Bool) → failing k b ≡ [] → b ≡ false
passes k false h = refl
passes k true h = absurd (false≢true (ap is_cons (sym h)))
  where
    is_cons : List ℕ → Bool
    is_cons [] = false
    is_cons (x ∷ xs) = true

two_of : (a b c d e f : List ℕ) → a ++ b ++ c ++ d ++ e ++ f ≡ [] → (a ≡ []) × (b ≡ [])
two_of a b c d e f h =
    let both : a ++ b ≡ [] = left_nil (a ++ b) c (left_nil (a ++ b ++ c) d (left_nil (a ++ b ++ c ++ d) e (left_nil (a ++ b ++ c ++ d ++ e) f h))) in
    (left_nil a b both, right_nil a b both)

holds : (b : Bool) → not b ≡ false → b ≡ true
holds true h = refl
holds false h = sym h

module _ (types : List TypeDef) (d : TypeDef) (new : type_named types d.name ≡ None) where
  abbrev more : List TypeDef
  more = types ++ d ∷ []

  abbrev IsRegistered : Name → Type 0
  IsRegistered n = is_some (type_named types n) ≡ true

  other : (n : Name) → IsRegistered n → same_name d.name n ≡ false
  other n h = by (same_name d.name n) refl
    where
      by : (b : Bool) → same_name d.name n ≡ b → b ≡ false
      by false e = refl
      by true e = absurd (false≢true (sym (ap is_some new) ∙ (ap (λ m. is_some (type_named types m)) (same d.name n e) ∙ h)))

  pub lineage-added : (n : Name) → IsRegistered n → lineage more n ≡ lineage types n
  lineage-added n h = ap (λ ts. lineage_among ts n) (reverse-append types (d ∷ [])) ∙ chosen (same_name d.name n) (other n h)
    where
      chosen : (b : Bool) → b ≡ false → (elim b as (λ b. List TypeDef) [ true ↦ d ∷ flat_map (lineage_among (reverse types)) (supertypes_of d) | false ↦ lineage_among (reverse types) n ]) ≡ lineage types n
      chosen true k = absurd (false≢true (sym k))
      chosen false k = refl

  find_more : (test : TypeDef → Bool) (ds : List TypeDef) → test d ≡ false → find test (ds ++ d ∷ []) ≡ find test ds
  find_more test [] h = ap (λ b. cond b (Some d) None) h
  find_more test (e ∷ ds) h = ap (λ o. cond (test e) (Some e) o) (find_more test ds h)

  pub named-added : (n : Name) → IsRegistered n → type_named more n ≡ type_named types n
  named-added n h = find_more (λ e. same_name e.name n) types (other n h)

  -- ---- a node's types

  primary_registered : (o : Option Property) → is_primary_type types o ≡ true → (n : Name) → one_name o ≡ Some n → IsRegistered n
  primary_registered o h n e = by (type_named types n) refl (sym (ap (λ (m : Option Name). option_map_or (λ n. option_map_or (λ d. not d.mixin && not d.is_abstract) (type_named types n) false) m false) e) ∙ h)
    where
      by : (t : Option TypeDef) → type_named types n ≡ t → option_map_or (λ d. not d.mixin && not d.is_abstract) t false ≡ true → is_some t ≡ true
      by None k l = absurd (false≢true l)
      by (Some x) k l = refl

  -- each of these names is registered
  abbrev AreRegistered : List Name → Type 0
  AreRegistered [] = Unit {0}
  AreRegistered (n ∷ ns) = IsRegistered n × AreRegistered ns

  mixin_registered : (n : Name) → is_mixin types n ≡ true → IsRegistered n
  mixin_registered n h = by (type_named types n) h
    where
      by : (t : Option TypeDef) → option_map_or (λ d. d.mixin) t false ≡ true → is_some t ≡ true
      by None l = absurd (false≢true l)
      by (Some x) l = refl

  values_registered : (xs : List Value) → list_all (λ x. option_map_or (is_mixin types) (name_in x) false) xs ≡ true → AreRegistered (filter_map name_in xs)
  values_registered [] h = tt
  values_registered (x ∷ xs) h = by (name_in x) (first _ _ h) (values_registered xs (second _ _ h))
    where
      by : (o : Option Name) → option_map_or (is_mixin types) o false ≡ true → AreRegistered (filter_map name_in xs) → AreRegistered (cons_option o (filter_map name_in xs))
      by None k rest = rest
      by (Some n) k rest = (mixin_registered n k, rest)

  mixins_registered : (o : Option Property) → are_mixins types o ≡ true → AreRegistered (many_names o)
  mixins_registered None h = tt
  mixins_registered (Some (Single x)) h = tt
  mixins_registered (Some (Many k xs)) h = values_registered xs (second _ _ (first _ _ h))

  same_lineages : (ns : List Name) → AreRegistered ns → flat_map (lineage more) ns ≡ flat_map (lineage types) ns
  same_lineages [] h = refl
  same_lineages (n ∷ ns) h = ap (λ ds. ds ++ flat_map (lineage more) ns) (lineage-added n h.0) ∙ ap (λ ds. lineage types n ++ ds) (same_lineages ns h.1)

  option_registered : (o : Option Name) → ((n : Name) → o ≡ Some n → IsRegistered n) → (ns : List Name) → AreRegistered ns → AreRegistered (option_to_list o ++ ns)
  option_registered None h ns k = k
  option_registered (Some n) h ns k = (h n refl, k)

  same_primary : (o : Option Property) → is_primary_type types o ≡ true → is_primary_type more o ≡ is_primary_type types o
  same_primary o h = by (one_name o) refl
    where
      by : (m : Option Name) → one_name o ≡ m → option_map_or (λ n. option_map_or (λ d. not d.mixin && not d.is_abstract) (type_named more n) false) m false ≡ option_map_or (λ n. option_map_or (λ d. not d.mixin && not d.is_abstract) (type_named types n) false) m false
      by None e = refl
      by (Some n) e = ap (λ (t : Option TypeDef). option_map_or (λ d. not d.mixin && not d.is_abstract) t false) (named-added n (primary_registered o h n e))

  same_values : (xs : List Value) → list_all (λ x. option_map_or (is_mixin types) (name_in x) false) xs ≡ true
      → list_all (λ x. option_map_or (is_mixin more) (name_in x) false) xs ≡ list_all (λ x. option_map_or (is_mixin types) (name_in x) false) xs
  same_values [] h = refl
  same_values (x ∷ xs) h = ap (λ b. b && list_all (λ x. option_map_or (is_mixin more) (name_in x) false) xs) (by (name_in x) (first _ _ h)) ∙ ap (λ b. option_map_or (is_mixin types) (name_in x) false && b) (same_values xs (second _ _ h))
    where
      by : (o : Option Name) → option_map_or (is_mixin types) o false ≡ true → option_map_or (is_mixin more) o false ≡ option_map_or (is_mixin types) o false
      by None k = refl
      by (Some n) k = ap (λ (t : Option TypeDef). option_map_or (λ d. d.mixin) t false) (named-added n (mixin_registered n k))

  same_mixins : (o : Option Property) → are_mixins types o ≡ true → are_mixins more o ≡ are_mixins types o
  same_mixins None h = refl
  same_mixins (Some (Single x)) h = refl
  same_mixins (Some (Many k xs)) h = ap (λ b. kind_number k == kind_number kind.Name && b && are_distinct (filter_map name_in xs)) (same_values xs (second _ _ (first _ _ h)))

  same_fits : (c : Option Property) → is_primary_type types c ≡ true → (x : ChildDef) → fits_child more x c ≡ fits_child types x c
  same_fits c h x = by (one_name c) refl
    where
      by : (m : Option Name) → one_name c ≡ m → option_map_or (λ n. list_all (is_a more n) x.types) m false ≡ option_map_or (λ n. list_all (is_a types n) x.types) m false
      by None e = refl
      by (Some n) e = ap (λ (ds : List TypeDef). list_all (λ y. list_any (λ e. same_name e.name y) ds) x.types) (lineage-added n (primary_registered c h n e))

  none_fits : (c : Option Property) → is_primary_type types c ≡ true → (xs : List ChildDef) → list_all (λ x. not (fits_child more x c)) xs ≡ list_all (λ x. not (fits_child types x c)) xs
  none_fits c h [] = refl
  none_fits c h (x ∷ xs) = ap (λ b. not b && list_all (λ x. not (fits_child more x c)) xs) (same_fits c h x) ∙ ap (λ b. not (fits_child types x c) && b) (none_fits c h xs)

  -- ---- a tree that meets the rules

  module _ (t : Nodes) (ok : TypesOk types t) where
    first_two : (p : Path) (n : Name) → is_some (node_at t p) ≡ true
        → (failing 1 (same_name n primary_type && not (is_primary_type types (property_at t p n))) ≡ []) × (failing 2 (same_name n mixin_types && not (are_mixins types (property_at t p n))) ≡ [])
    first_two p n h =
        let ds = types_of types (node_types t p) in
        let o = property_at t p n in
        two_of (failing 1 (same_name n primary_type && not (is_primary_type types o))) (failing 2 (same_name n mixin_types && not (are_mixins types o)))
        (failing 3 (is_undefined ds n o)) (failing 4 (is_misfit ds n o)) (failing 5 (is_outside ds n o)) (failing 6 (is_missing (mandatory_props ds) n o)) (ok.properties p n h)

    rule_one : (p : Path) → is_some (node_at t p) ≡ true → is_primary_type types (property_at t p primary_type) ≡ true
    rule_one p h = holds _ (passes 1 _ (first_two p primary_type h).0)

    rule_two : (p : Path) → is_some (node_at t p) ≡ true → are_mixins types (property_at t p mixin_types) ≡ true
    rule_two p h = holds _ (passes 2 _ (first_two p mixin_types h).1)

    same_types : (p : Path) → is_some (node_at t p) ≡ true → types_of more (node_types t p) ≡ types_of types (node_types t p)
    same_types p h = same_lineages (option_to_list (one_name (property_at t p primary_type)) ++ many_names (property_at t p mixin_types))
        (option_registered (one_name (property_at t p primary_type)) (λ n e. primary_registered (property_at t p primary_type) (rule_one p h) n e) _ (mixins_registered (property_at t p mixin_types) (rule_two p h)))

    one_same : (p : Path) (n : Name) → is_some (node_at t p) ≡ true → (same_name n primary_type && not (is_primary_type more (property_at t p n))) ≡ (same_name n primary_type && not (is_primary_type types (property_at t p n)))
    one_same p n h = by (same_name n primary_type) refl
      where
        by : (b : Bool) → same_name n primary_type ≡ b → (b && not (is_primary_type more (property_at t p n))) ≡ (b && not (is_primary_type types (property_at t p n)))
        by false e = refl
        by true e = ap not (same_primary (property_at t p n) (ap (λ m. is_primary_type types (property_at t p m)) (same n primary_type e) ∙ rule_one p h))

    two_same : (p : Path) (n : Name) → is_some (node_at t p) ≡ true → (same_name n mixin_types && not (are_mixins more (property_at t p n))) ≡ (same_name n mixin_types && not (are_mixins types (property_at t p n)))
    two_same p n h = by (same_name n mixin_types) refl
      where
        by : (b : Bool) → same_name n mixin_types ≡ b → (b && not (are_mixins more (property_at t p n))) ≡ (b && not (are_mixins types (property_at t p n)))
        by false e = refl
        by true e = ap not (same_mixins (property_at t p n) (ap (λ m. are_mixins types (property_at t p m)) (same n mixin_types e) ∙ rule_two p h))

    abbrev of_property : Name → Option Property → List TypeDef → Bool → Bool → List ℕ
    of_property n o ds one two = failing 1 one ++ failing 2 two ++ failing 3 (is_undefined ds n o) ++ failing 4 (is_misfit ds n o) ++ failing 5 (is_outside ds n o) ++ failing 6 (is_missing (mandatory_props ds) n o)

    same_property_faults : (p : Path) (n : Name) → is_some (node_at t p) ≡ true → property_faults more (node_types t p) n (property_at t p n) ≡ property_faults types (node_types t p) n (property_at t p n)
    same_property_faults p n h =
        ap (λ ds. of_property n (property_at t p n) ds (same_name n primary_type && not (is_primary_type more (property_at t p n))) (same_name n mixin_types && not (are_mixins more (property_at t p n)))) (same_types p h)
        ∙ (ap (λ b. of_property n (property_at t p n) (types_of types (node_types t p)) b (same_name n mixin_types && not (are_mixins more (property_at t p n)))) (one_same p n h)
        ∙ ap (of_property n (property_at t p n) (types_of types (node_types t p)) (same_name n primary_type && not (is_primary_type types (property_at t p n)))) (two_same p n h))

    abbrev of_child : Name → Option PresentChild → List TypeDef → Bool → List ℕ
    of_child n o ds eight = failing 7 (is_stray ds n o) ++ failing 8 eight ++ failing 9 (is_missing (mandatory_children ds) n o)

    eight_same : (p : Path) (n : Name) (ds : List TypeDef) → is_of_no_type more ds n (child_at t p n) ≡ is_of_no_type types ds n (child_at t p n)
    eight_same p n ds = by (is_some (node_at t (child_path p n))) refl
      where
        by : (b : Bool) → is_some (node_at t (child_path p n)) ≡ b
            → is_of_no_type more ds n (cond b (Some (property_at t (child_path p n) primary_type)) None) ≡ is_of_no_type types ds n (cond b (Some (property_at t (child_path p n) primary_type)) None)
        by false e = refl
        by true e = ap (λ b. not (is_empty (child_defs ds n)) && b) (none_fits (property_at t (child_path p n) primary_type) (rule_one (child_path p n) e) (child_defs ds n))

    same_child_faults : (p : Path) (n : Name) → is_some (node_at t p) ≡ true → child_faults more (node_types t p) n (child_at t p n) ≡ child_faults types (node_types t p) n (child_at t p n)
    same_child_faults p n h =
        ap (λ ds. of_child n (child_at t p n) ds (is_of_no_type more ds n (child_at t p n))) (same_types p h)
        ∙ ap (of_child n (child_at t p n) (types_of types (node_types t p))) (eight_same p n (types_of types (node_types t p)))

    -- the tree meets the rules of more types too
    pub rules_last : TypesOk more t
    rules_last = record {
      properties = λ p n h. same_property_faults p n h ∙ ok.properties p n h;
      children = λ p n h. same_child_faults p n h ∙ ok.children p n h;
    }
