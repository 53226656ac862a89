-- The first rule that a node breaks at one item.
use Rattle.std.proofs.Common.{arith, ◌<◌, length, ◌≡◌, ℕ, Bool, true, false, cond, not, ◌&&◌, ◌||◌, Option, None, Some, List, [], ◌∷◌, ◌++◌, map, refl, sym, ap, ◌∙◌}
use Rattle.std.specs.Prelude.{is_some}
use Rattle.std.specs.Option.{option_map_or}
use Rattle.std.specs.List.{cons_option, filter, filter_map, flat_map, list_any, list_all}
use denote.Ref.{Bor}
use Rattle.jr_path.specs.declared.name.Name.{Name}
use Rattle.jr_path.specs.declared.path.Path.{Path}
use Rattle.jr_value.specs.declared.value.Property.{Property}
use Rattle.jr_value.specs.declared.value.Value.{Value}
use Rattle.jr_tree.specs.declared.tree.Node.{Node}
use Rattle.jr_tree.specs.Trees.{Nodes, node_at, property_at}
use Rattle.jr_items.specs.Names.{mixin_types, primary_type}
use Rattle.jr_items.specs.Items.{child_path, first_of, is_empty, name_in, property_of, same_name}
use Rattle.jr_types.specs.declared.PropDef.{PropDef}
use Rattle.jr_types.specs.declared.ChildDef.{ChildDef}
use Rattle.jr_types.specs.declared.TypeDef.{TypeDef}
use Rattle.jr_rules.specs.Checking.{child_rule, definition_rule, property_rule}
use Rattle.jr_types.specs.Said.{counting_children, counting_props, types_said}
use Rattle.jr_types.specs.Registered.{IsAlike}
use Rattle.jr_types.specs.Rules.{PresentChild, are_distinct, are_mixins, child_at, child_faults, failing, is_misfit, is_missing, is_of_no_type, is_outside, is_primary_type, is_stray, is_undefined, mandatory_children, mandatory_props, node_types}
use Rattle.jr_types.specs.Types.{admits, child_defs, fits, fits_child, is_named, prop_defs, props_of, types_of}
use Rattle.jr_types.proofs.Alike.{any-alike, any_seen, empty-alike, filter-alike}
use Rattle.jr_types.proofs.Chosen.{children-alike, props-alike}

-- the first of the rules that fail
first_six : (p q a b c m : Bool) → first_of (failing 1 p ++ failing 2 q ++ failing 3 a ++ failing 4 b ++ failing 5 c ++ failing 6 m)
    ≡ cond p (Some 1) (cond q (Some 2) (cond a (Some 3) (cond b (Some 4) (cond c (Some 5) (cond m (Some 6) None)))))
first_six true q a b c m = refl
first_six false true a b c m = refl
first_six false false true b c m = refl
first_six false false false true c m = refl
first_six false false false false true m = refl
first_six false false false false false true = refl
first_six false false false false false false = refl

first_three : (a b m : Bool) → first_of (failing 7 a ++ failing 8 b ++ failing 9 m) ≡ cond a (Some 7) (cond b (Some 8) (cond m (Some 9) None))
first_three true b m = refl
first_three false true m = refl
first_three false false true = refl
first_three false false false = refl

-- all fail the test, or one passes it
none_passes : {X : Type 0} (p : X → Bool) (xs : List X) → list_all (λ x. not (p x)) xs ≡ not (list_any p xs)
none_passes p [] = refl
none_passes p (x ∷ xs) = by (p x) (none_passes p xs)
  where
    by : (b : Bool) → list_all (λ x. not (p x)) xs ≡ not (list_any p xs) → (not b && list_all (λ x. not (p x)) xs) ≡ not (b || list_any p xs)
    by true h = refl
    by false h = h

three_to_five : (a b c : Bool) → cond {A = Option ℕ} a (Some 3) (cond (not a && b) (Some 4) (cond (not b && not c) (Some 5) (cond false (Some 6) None))) ≡ cond a (Some 3) (cond b (Some 4) (cond c None (Some 5)))
three_to_five true b c = refl
three_to_five false true c = refl
three_to_five false false true = refl
three_to_five false false false = refl

seven_eight : (a c : Bool) → cond {A = Option ℕ} a (Some 7) (cond (not a && not c) (Some 8) (cond false (Some 9) None)) ≡ cond a (Some 7) (cond c None (Some 8))
seven_eight true c = refl
seven_eight false true = refl
seven_eight false false = refl

definition-alike : (xs ys : List PropDef) (x : Property) → IsAlike xs ys → definition_rule xs x ≡ definition_rule ys x
definition-alike xs ys x h =
    let k : IsAlike (filter (λ d. fits d x) xs) (filter (λ d. fits d x) ys) = filter-alike (λ d. fits d x) xs ys h in
    ap (λ b. cond b (Some 3) (cond (is_empty (filter (λ d. fits d x) xs)) (Some 4) (cond (list_any (λ d. admits d x) (filter (λ d. fits d x) xs)) None (Some 5)))) (empty-alike xs ys h)
    ∙ (ap (λ b. cond (is_empty ys) (Some 3) (cond b (Some 4) (cond (list_any (λ d. admits d x) (filter (λ d. fits d x) xs)) None (Some 5)))) (empty-alike _ _ k)
    ∙ ap (λ b. cond (is_empty ys) (Some 3) (cond (is_empty (filter (λ d. fits d x) ys)) (Some 4) (cond b None (Some 5)))) (any-alike (λ d. admits d x) _ _ k))

empty_seen : {X Y : Type 0} (f : X → Y) (xs : List X) → is_empty xs ≡ is_empty (map f xs)
empty_seen f [] = refl
empty_seen f (x ∷ xs) = refl

pub not_empty : {X : Type 0} (xs : List X) → 0 < length xs → is_empty xs ≡ false
not_empty [] l = grind arith
not_empty (x ∷ xs) l = refl

-- what the definitions that a property fits say of it, where there are definitions for it
pub fitting_rule : (counting : List (Bor PropDef)) (fit : List (Bor PropDef)) (x : Property) (r : Option ℕ) → is_empty counting ≡ false
    → map (λ d. d.now) fit ≡ filter (λ d. fits d x) (map (λ d. d.now) counting) → r ≡ cond (is_empty fit) (Some 4) (cond (list_any (λ d. admits d.now x) fit) None (Some 5))
    → r ≡ definition_rule (map (λ d. d.now) counting) x
fitting_rule counting fit x r some f h = h
    ∙ (ap (λ b. cond b (Some 4) (cond (list_any (λ d. admits d.now x) fit) None (Some 5))) (empty_seen (λ d. d.now) fit ∙ ap is_empty f)
    ∙ (ap (λ b. cond (is_empty (filter (λ d. fits d x) (map (λ d. d.now) counting))) (Some 4) (cond b None (Some 5))) (any_seen (λ d. admits d x) (λ d. d.now) fit ∙ ap (list_any (λ d. admits d x)) f)
    ∙ ap (λ b. cond b (Some 3) (cond (is_empty (filter (λ d. fits d x) (map (λ d. d.now) counting))) (Some 4) (cond (list_any (λ d. admits d x) (filter (λ d. fits d x) (map (λ d. d.now) counting))) None (Some 5))))
    (sym (sym (empty_seen (λ d. d.now) counting) ∙ some))))

pub none_rule : (counting : List (Bor PropDef)) (x : Property) → is_empty counting ≡ true → Some 3 ≡ definition_rule (map (λ d. d.now) counting) x
none_rule counting x h = ap (λ b. cond b (Some 3) (cond (is_empty (filter (λ d. fits d x) (map (λ d. d.now) counting))) (Some 4) (cond (list_any (λ d. admits d x) (filter (λ d. fits d x) (map (λ d. d.now) counting))) None (Some 5))))
    (sym (sym (empty_seen (λ d. d.now) counting) ∙ h))

-- a NAME is none of those that stand behind it
among_names : (n : Name) (vs : List Value) → list_any (λ x. option_map_or (same_name n) (name_in x) false) vs ≡ list_any (same_name n) (filter_map name_in vs)
among_names n [] = refl
among_names n (v ∷ vs) = by (name_in v) (among_names n vs)
  where
    by : (o : Option Name) → list_any (λ x. option_map_or (same_name n) (name_in x) false) vs ≡ list_any (same_name n) (filter_map name_in vs)
        → (option_map_or (same_name n) o false || list_any (λ x. option_map_or (same_name n) (name_in x) false) vs) ≡ list_any (same_name n) (cons_option o (filter_map name_in vs))
    by None h = h
    by (Some m) h = ap (λ b. same_name n m || b) h

pub distinct_step : (values rest : List Value) (first : Value) → values ≡ first ∷ rest
    → (not (option_map_or (λ n. list_any (λ x. option_map_or (same_name n) (name_in x) false) rest) (name_in first) false) && are_distinct (filter_map name_in rest)) ≡ are_distinct (filter_map name_in values)
distinct_step values rest first is = by (name_in first) ∙ ap (λ vs. are_distinct (filter_map name_in vs)) (sym is)
  where
    by : (o : Option Name) → (not (option_map_or (λ n. list_any (λ x. option_map_or (same_name n) (name_in x) false) rest) o false) && are_distinct (filter_map name_in rest)) ≡ are_distinct (cons_option o (filter_map name_in rest))
    by None = refl
    by (Some n) = ap (λ b. not b && are_distinct (filter_map name_in rest)) (among_names n rest)

-- the mandatory definitions of a name
wanted_step : (n : Name) (mandatory : Bool) (own : Option Name) (names : List Name) (rest : Bool) → list_any (same_name n) names ≡ rest
    → list_any (same_name n) (cons_option (cond mandatory own None) names) ≡ ((mandatory && is_named n own) || rest)
wanted_step n true None names rest h = h
wanted_step n true (Some m) names rest h = ap (λ b. same_name n m || b) h
wanted_step n false own names rest h = h

pub wanted_props : (n : Name) (ds : List PropDef) → list_any (same_name n) (filter_map (λ d. cond d.mandatory d.name None) ds) ≡ list_any (λ d. d.mandatory && is_named n d.name) ds
wanted_props n [] = refl
wanted_props n (d ∷ ds) = wanted_step n d.mandatory d.name _ _ (wanted_props n ds)

pub wanted_children : (n : Name) (ds : List ChildDef) → list_any (same_name n) (filter_map (λ d. cond d.mandatory d.name None) ds) ≡ list_any (λ d. d.mandatory && is_named n d.name) ds
wanted_children n [] = refl
wanted_children n (d ∷ ds) = wanted_step n d.mandatory d.name _ _ (wanted_children n ds)

-- ---- a property

module _ (types : List TypeDef) (node : Node) (n : Name) where
  abbrev ds : List TypeDef
  ds = types_of types (types_said node)

  abbrev pub bad_primary : Bool
  bad_primary = same_name n primary_type && not (is_primary_type types (property_of node n))

  abbrev pub bad_mixins : Bool
  bad_mixins = same_name n mixin_types && not (are_mixins types (property_of node n))

  abbrev behind : Option Property → Option ℕ
  behind o = cond (is_undefined ds n o) (Some 3) (cond (is_misfit ds n o) (Some 4) (cond (is_outside ds n o) (Some 5) (cond (is_missing (mandatory_props ds) n o) (Some 6) None)))

  chain : property_rule types node n ≡ cond bad_primary (Some 1) (cond bad_mixins (Some 2) (behind (property_of node n)))
  chain = first_six bad_primary bad_mixins (is_undefined ds n (property_of node n)) (is_misfit ds n (property_of node n)) (is_outside ds n (property_of node n)) (is_missing (mandatory_props ds) n (property_of node n))

  pub rule_one : bad_primary ≡ true → Some 1 ≡ property_rule types node n
  rule_one h = sym (chain ∙ ap (λ b. cond b (Some 1) (cond bad_mixins (Some 2) (behind (property_of node n)))) h)

  rest : bad_primary ≡ false → property_rule types node n ≡ cond bad_mixins (Some 2) (behind (property_of node n))
  rest h = chain ∙ ap (λ b. cond b (Some 1) (cond bad_mixins (Some 2) (behind (property_of node n)))) h

  pub rule_two : bad_primary ≡ false → bad_mixins ≡ true → Some 2 ≡ property_rule types node n
  rule_two h k = sym (rest h ∙ ap (λ b. cond b (Some 2) (behind (property_of node n))) k)

  later : bad_primary ≡ false → bad_mixins ≡ false → property_rule types node n ≡ behind (property_of node n)
  later h k = rest h ∙ ap (λ b. cond b (Some 2) (behind (property_of node n))) k

  behind_some : (x : Property) → behind (Some x) ≡ definition_rule (prop_defs ds n) x
  behind_some x =
      let fitting = filter (λ d. fits d x) (prop_defs ds n) in
      ap (λ b. cond (is_empty (prop_defs ds n)) (Some 3) (cond (not (is_empty (prop_defs ds n)) && is_empty fitting) (Some 4) (cond (not (is_empty fitting) && b) (Some 5) (cond false (Some 6) None)))) (none_passes (λ d. admits d x) fitting)
      ∙ three_to_five (is_empty (prop_defs ds n)) (is_empty fitting) (list_any (λ d. admits d x) fitting)

  pub rules_there : (x : Property) (counting all : List PropDef) → Some x ≡ property_of node n → bad_primary ≡ false → bad_mixins ≡ false
      → counting ≡ counting_props all n → IsAlike all (flat_map props_of ds) → definition_rule counting x ≡ property_rule types node n
  rules_there x counting all e h k c a = ap (λ ds. definition_rule ds x) c
      ∙ (definition-alike (counting_props all n) (prop_defs ds n) x (props-alike all (flat_map props_of ds) n a)
      ∙ (sym (behind_some x) ∙ (ap behind e ∙ sym (later h k))))

  pub rule_six : (all : List (Bor PropDef)) → None ≡ property_of node n → bad_primary ≡ false → bad_mixins ≡ false
      → IsAlike (map (λ d. d.now) all) (flat_map props_of ds) → cond (list_any (λ d. d.now.mandatory && is_named n d.now.name) all) (Some 6) None ≡ property_rule types node n
  rule_six all e h k a = ap (λ b. cond b (Some 6) None)
      (any_seen (λ d. d.mandatory && is_named n d.name) (λ d. d.now) all ∙ (any-alike (λ d. d.mandatory && is_named n d.name) (map (λ d. d.now) all) (flat_map props_of ds) a ∙ sym (wanted_props n (flat_map props_of ds))))
      ∙ (ap behind e ∙ sym (later h k))

-- ---- a child

module _ (types : List TypeDef) (t : Nodes) (p : Path) (n : Name) where
  abbrev its : List TypeDef
  its = types_of types (node_types t p)

  abbrev primary : Option Property
  primary = property_at t (child_path p n) primary_type

  of_child : (o : Option PresentChild) → first_of (child_faults types (node_types t p) n o) ≡ cond (is_stray its n o) (Some 7) (cond (is_of_no_type types its n o) (Some 8) (cond (is_missing (mandatory_children its) n o) (Some 9) None))
  of_child o = first_three (is_stray its n o) (is_of_no_type types its n o) (is_missing (mandatory_children its) n o)

  there : (b : Bool) → is_some (node_at t (child_path p n)) ≡ b → child_at t p n ≡ cond b (Some primary) None
  there b h = ap (λ b. cond b (Some primary) None) h

  pub rule_nine : (all : List (Bor ChildDef)) → is_some (node_at t (child_path p n)) ≡ false → IsAlike (map (λ d. d.now) all) (flat_map (λ d. d.children) its)
      → cond (list_any (λ d. d.now.mandatory && is_named n d.now.name) all) (Some 9) None ≡ child_rule types t p n
  rule_nine all h a = ap (λ b. cond b (Some 9) None)
      (any_seen (λ d. d.mandatory && is_named n d.name) (λ d. d.now) all ∙ (any-alike (λ d. d.mandatory && is_named n d.name) (map (λ d. d.now) all) (flat_map (λ d. d.children) its) a ∙ sym (wanted_children n (flat_map (λ d. d.children) its))))
      ∙ sym (ap (λ o. first_of (child_faults types (node_types t p) n o)) (there false h) ∙ of_child None)

  -- what rules 7 and 8 say of a child with these definitions
  abbrev kinds : List ChildDef → Option ℕ
  kinds cs = cond (is_empty cs) (Some 7) (cond (list_any (λ d. fits_child types d primary) cs) None (Some 8))

  kinds-alike : (xs ys : List ChildDef) → IsAlike xs ys → kinds xs ≡ kinds ys
  kinds-alike xs ys h = ap (λ b. cond b (Some 7) (cond (list_any (λ d. fits_child types d primary) xs) None (Some 8))) (empty-alike xs ys h)
      ∙ ap (λ b. cond (is_empty ys) (Some 7) (cond b None (Some 8))) (any-alike (λ d. fits_child types d primary) xs ys h)

  kinds_seen : (cs : List (Bor ChildDef)) → cond (is_empty cs) (Some 7) (cond (list_any (λ d. fits_child types d.now primary) cs) None (Some 8)) ≡ kinds (map (λ d. d.now) cs)
  kinds_seen cs = ap (λ b. cond b (Some 7) (cond (list_any (λ d. fits_child types d.now primary) cs) None (Some 8))) (empty_seen (λ d. d.now) cs)
      ∙ ap (λ b. cond (is_empty (map (λ d. d.now) cs)) (Some 7) (cond b None (Some 8))) (any_seen (λ d. fits_child types d primary) (λ d. d.now) cs)

  pub rules_of_child : (counting : List (Bor ChildDef)) (all : List ChildDef) → is_some (node_at t (child_path p n)) ≡ true → map (λ d. d.now) counting ≡ counting_children all n
      → IsAlike all (flat_map (λ d. d.children) its) → cond (is_empty counting) (Some 7) (cond (list_any (λ d. fits_child types d.now primary) counting) None (Some 8)) ≡ child_rule types t p n
  rules_of_child counting all h c a = kinds_seen counting ∙ (ap kinds c ∙ (kinds-alike (counting_children all n) (child_defs its n) (children-alike all (flat_map (λ d. d.children) its) n a)
      ∙ sym (ap (λ o. first_of (child_faults types (node_types t p) n o)) (there true h) ∙ (of_child (Some primary)
      ∙ (ap (λ b. cond (is_empty (child_defs its n)) (Some 7) (cond (not (is_empty (child_defs its n)) && b) (Some 8) (cond false (Some 9) None))) (none_passes (λ d. fits_child types d primary) (child_defs its n))
      ∙ seven_eight (is_empty (child_defs its n)) (list_any (λ d. fits_child types d primary) (child_defs its n)))))))
