-- Beside the names that a node's rules are asked of no rule fails.
use Rattle.std.proofs.Common.{Result, Ok, Err, ℕ, ◌≡◌, Bool, true, false, ◌||◌, Option, None, Some, List, [], ◌∷◌, ◌++◌, fold, refl, sym, ap, ◌∙◌, subst, cond}
use Rattle.std.specs.Prelude.{IfOk}
use Rattle.std.specs.List.{filter_map, flat_map, list_any}
use Rattle.std.specs.Map.{keys_of, lookup}
use Rattle.std.specs.BTreeMap.{is_at}
use Rattle.std.specs.Option.{option_and_then}
use Rattle.std.proofs.lemmas.List.Folds.{list_any-append}
use Rattle.jr_path.specs.Names.{name_cmp}
use Rattle.jr_path.specs.declared.name.Name.{Name}
use Rattle.jr_value.specs.declared.value.Property.{Property}
use Rattle.jr_path.specs.declared.path.Path.{Path}
use Rattle.jr_tree.specs.declared.tree.Node.{Node}
use Rattle.jr_tree.specs.Trees.{Nodes, children_of, node_at, property_at}
use Rattle.jr_items.specs.Names.{mixin_types, primary_type}
use Rattle.jr_items.specs.Items.{first_of, same_name}
use Rattle.jr_types.specs.declared.PropDef.{PropDef}
use Rattle.jr_types.specs.declared.ChildDef.{ChildDef}
use Rattle.jr_types.specs.declared.TypeDef.{TypeDef}
use Rattle.jr_rules.specs.declared.broken.Break.{Break}
use Rattle.jr_rules.specs.declared.checking.TypesOut.{TypesOut}
use Rattle.jr_rules.specs.declared.checking.TypesOut.TheVariants as out
use Rattle.jr_rules.specs.Violations.{Violation, is_among_names}
use Rattle.jr_rules.specs.Checking.{IsFirstBreak, IsFirstOf, IsViolation, child_rule, child_rule_among, earlier, first_break, property_rule}
use Rattle.jr_types.specs.Said.{types_said}
use Rattle.jr_types.specs.Registered.{IsAlike}
use Rattle.jr_types.specs.Rules.{child_at, child_faults, mandatory_children, mandatory_props, node_types, property_faults}
use Rattle.jr_types.specs.Types.{props_of, types_of}
use Rattle.jr_types.proofs.Alike.{any-alike}
use Rattle.jr_types.proofs.Same.{itself}
use Rattle.jr_rules.proofs.Breaks.{first_everywhere}
use Rattle.jr_rules.proofs.Faults.{wanted_children, wanted_props}
use Rattle.jr_rules.proofs.Meeting.{any-in_order, child_apart, property_apart}

-- the node alone, as a tree
abbrev alone : Node → Nodes
alone node = ([], node) ∷ []

pub first_property : (types : List TypeDef) (node : Node) (props : List PropDef) (names : List Name) (broken : Option Break) → IsAlike props (flat_map props_of (types_of types (types_said node)))
    → broken ≡ first_break (property_rule types node) names → names ≡ primary_type ∷ mixin_types ∷ keys_of node.props ++ filter_map (λ d. cond d.mandatory d.name None) props
    → IsFirstBreak (property_rule types node) broken
first_property types node props names broken alike is are = subst (IsFirstBreak (property_rule types node)) (sym is) (first_everywhere (property_rule types node) names apart)
  where
    ds : List TypeDef
    ds = types_of types (types_said node)

    wanted : List PropDef → List Name
    wanted all = filter_map (λ d. cond d.mandatory d.name None) all

    same_wanted : (n : Name) → list_any (same_name n) (wanted props) ≡ list_any (same_name n) (mandatory_props ds)
    same_wanted n = wanted_props n props ∙ (any-alike _ props (flat_map props_of ds) alike ∙ sym (wanted_props n (flat_map props_of ds)))

    known : List Name
    known = primary_type ∷ mixin_types ∷ keys_of node.props

    same_names : (n : Name) → list_any (same_name n) names ≡ list_any (same_name n) (known ++ mandatory_props ds)
    same_names n = ap (list_any (same_name n)) are
        ∙ (list_any-append (same_name n) known (wanted props) ∙ (ap (λ b. list_any (same_name n) known || b) (same_wanted n) ∙ sym (list_any-append (same_name n) known (mandatory_props ds))))

    apart : (n : Name) → list_any (same_name n) names ≡ false → property_rule types node n ≡ None
    apart n h = ap first_of (property_apart types (alone node) [] n (any-in_order n (known ++ mandatory_props ds) ∙ (sym (same_names n) ∙ h)))

pub first_child : (types : List TypeDef) (t : Nodes) (p : Path) (defs : List ChildDef) (names : List Name) (broken : Option Break) → IsAlike defs (flat_map (λ d. d.children) (types_of types (node_types t p)))
    → broken ≡ first_break (child_rule types t p) names → names ≡ children_of t p ++ filter_map (λ d. cond d.mandatory d.name None) defs
    → IsFirstBreak (child_rule types t p) broken
first_child types t p defs names broken alike is are = subst (IsFirstBreak (child_rule types t p)) (sym is) (first_everywhere (child_rule types t p) names apart)
  where
    ds : List TypeDef
    ds = types_of types (node_types t p)

    wanted : List ChildDef → List Name
    wanted all = filter_map (λ d. cond d.mandatory d.name None) all

    same_wanted : (n : Name) → list_any (same_name n) (wanted defs) ≡ list_any (same_name n) (mandatory_children ds)
    same_wanted n = wanted_children n defs ∙ (any-alike _ defs (flat_map (λ d. d.children) ds) alike ∙ sym (wanted_children n (flat_map (λ d. d.children) ds)))

    same_names : (n : Name) → list_any (same_name n) names ≡ list_any (same_name n) (children_of t p ++ mandatory_children ds)
    same_names n = ap (list_any (same_name n)) are
        ∙ (list_any-append (same_name n) (children_of t p) (wanted defs) ∙ (ap (λ b. list_any (same_name n) (children_of t p) || b) (same_wanted n) ∙ sym (list_any-append (same_name n) (children_of t p) (mandatory_children ds))))

    apart : (n : Name) → list_any (same_name n) names ≡ false → child_rule types t p n ≡ None
    apart n h = ap first_of (child_apart types t p n (any-in_order n (children_of t p ++ mandatory_children ds) ∙ (sym (same_names n) ∙ h)))

-- of children that are asked for, no rule fails beside their names
pub first_among : (types : List TypeDef) (t : Nodes) (p : Path) (names : List Name) (broken : Option Break)
    → broken ≡ first_break (child_rule types t p) names → IsFirstBreak (child_rule_among (is_among_names names) types t p) broken
first_among types t p names broken is =
    subst (IsFirstBreak asked) (sym (is ∙ agree names None (λ n h. h))) (first_everywhere asked names (λ n h. ap (λ b. first_of (cond b (faults n) [])) h))
  where
    faults : Name → List ℕ
    faults n = child_faults types (node_types t p) n (child_at t p n)

    asked : Name → Option ℕ
    asked = child_rule_among (is_among_names names) types t p

    -- at these names it is all the same whether they are asked for
    agree : (ns : List Name) (o : Option Break) → ((n : Name) → list_any (same_name n) ns ≡ true → list_any (same_name n) names ≡ true)
        → fold (λ b n. earlier b (child_rule types t p n) n) o ns ≡ fold (λ b n. earlier b (asked n) n) o ns
    agree [] o h = refl
    agree (n ∷ ns) o h =
        let one : list_any (same_name n) names ≡ true = h n (ap (λ b. b || list_any (same_name n) ns) (itself n)) in
        agree ns (earlier o (child_rule types t p n) n) (λ m k. h m (later (same_name m n) (list_any (same_name m) ns) k))
        ∙ ap (λ (r : Option ℕ). fold (λ b n. earlier b (asked n) n) (earlier o r n) ns) (ap (λ b. first_of (cond b (faults n) [])) (sym one))
      where
        later : (a b : Bool) → b ≡ true → (a || b) ≡ true
        later true b k = refl
        later false b k = k

-- what the node says is what stands at its path
pub rule_at : (types : List TypeDef) (t : Nodes) (p : Path) (node : Node) → node_at t p ≡ Some node → (broken : Option Break) → IsFirstBreak (property_rule types node) broken
    → IsFirstBreak (λ n. first_of (property_faults types (node_types t p) n (property_at t p n))) broken
rule_at types t p node e broken h = subst (λ (o : Option Node). IsFirstBreak (λ n. first_of (property_faults types (record { primary = of o primary_type; mixins = of o mixin_types }) n (of o n))) broken) (sym e) h
  where
    of : Option Node → Name → Option Property
    of o n = option_and_then (λ node. lookup (is_at (name_cmp n)) node.props) o

pub types_at_node : (t : Nodes) (p : Path) (node : Node) → node_at t p ≡ Some node → types_said node ≡ node_types t p
types_at_node t p node e = sym (ap (λ (o : Option Node). record { primary = of o primary_type; mixins = of o mixin_types }) e)
  where
    of : Option Node → Name → Option Property
    of o n = option_and_then (λ node. lookup (is_at (name_cmp n)) node.props) o

-- ---- what is told

pub if_ok : {X E : Type 0} (P Q : X → Type 0) (r : Result X E) → ((x : X) → P x → Q x) → IfOk r P → IfOk r Q
if_ok P Q (Ok x) f h = f x h
if_ok P Q (Err e) f h = tt

pub told : (violations : List Violation) (b : Break) (p : Path) (o : TypesOut) → first_of violations ≡ Some (record { node = p; rule = b.rule; item = b.item }) → IsViolation p b o → IsFirstOf violations o
told violations b p (out.Violation node item rule) h g = h
    ∙ (ap (λ (q : Path). Some (record { node = q; rule = b.rule; item = b.item })) (sym g.0)
    ∙ (ap (λ (n : Name). Some (record { node = node; rule = b.rule; item = n })) (sym g.1)
    ∙ ap (λ (r : ℕ). Some (record { node = node; rule = r; item = item })) (sym g.2)))
told violations b p out.Memory h g = tt

pub alike_by : {X : Type 0} (xs ys zs : List X) → IsAlike ys zs → xs ≡ ys → IsAlike xs zs
alike_by xs ys zs h e = subst (λ xs. IsAlike xs zs) (sym e) h
