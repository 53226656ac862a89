-- Which rule fails first at a node, said of one rule and one item at a time.
use Rattle.std.specs.Prelude.{◌≡◌, ℕ, Bool, false, cond, List, Option, None, Some, fold}
use Rattle.std.specs.List.{filter, list_any}
use Rattle.std.specs.Ordering.{is_lt, nat_cmp, on, then_cmp}
use Rattle.std.specs.declared.cmp.Ordering.{Ordering}
use Rattle.jr_path.specs.Names.{name_cmp}
use Rattle.jr_path.specs.declared.name.Name.{Name}
use Rattle.jr_path.specs.declared.path.Path.{Path}
use Rattle.jr_value.specs.declared.value.Property.{Property}
use Rattle.jr_tree.specs.declared.tree.Node.{Node}
use Rattle.jr_tree.specs.Trees.{Nodes}
use Rattle.jr_items.specs.Items.{first_of, is_empty, property_of}
use Rattle.jr_types.specs.declared.PropDef.{PropDef}
use Rattle.jr_types.specs.declared.TypeDef.{TypeDef}
use Rattle.jr_rules.specs.declared.broken.Break.{Break}
use Rattle.jr_rules.specs.declared.checking.TypesOut.{TypesOut}
use Rattle.jr_rules.specs.declared.checking.TypesOut.TheVariants as out
use Rattle.jr_types.specs.Said.{types_said}
use Rattle.jr_types.specs.Types.{admits, fits}
use Rattle.jr_types.specs.Rules.{node_types, child_at, property_faults, child_faults}
use Rattle.jr_rules.specs.Violations.{Violation, faults_among}

-- the first rule that a node breaks by its property of that name, or by having none
abbrev pub property_rule : List TypeDef → Node → Name → Option ℕ
property_rule types node n = first_of
    (property_faults types (types_said node) n (property_of node n))

-- the first rule that a node breaks by its child of that name, or by having none
abbrev pub child_rule : List TypeDef → Nodes → Path → Name → Option ℕ
child_rule types t p n = first_of (child_faults types (node_types t p) n (child_at t p n))

-- the same, where the child is asked for
abbrev pub child_rule_among : (Name → Bool) → List TypeDef → Nodes → Path → Name → Option ℕ
child_rule_among asked types t p n = first_of (faults_among asked types t p n)

-- the first of rules 3 to 5 that a property breaks, where these definitions count for it
abbrev pub definition_rule : List PropDef → Property → Option ℕ
definition_rule counting x =
    let fitting = filter (λ d. fits d x) counting in
    cond (is_empty counting) (Some 3)
    (cond (is_empty fitting) (Some 4) (cond (list_any (λ d. admits d x) fitting) None (Some 5)))

-- breaks are ordered by rule, and then by item
abbrev pub break_cmp : Break → Break → Ordering
break_cmp = then_cmp (on (λ b. b.rule) nat_cmp) (on (λ b. b.item) name_cmp)

-- of a break and a rule that fails at an item, whichever comes first
abbrev pub earlier : Option Break → Option ℕ → Name → Option Break
earlier b None n = b
earlier None (Some rule) n = Some (record { rule = rule; item = n })
earlier (Some b) (Some rule) n = cond (is_lt (break_cmp (record { rule = rule; item = n }) b))
    (Some (record { rule = rule; item = n })) (Some b)

-- the first break at these items, by rule and then by item
abbrev pub first_break : (Name → Option ℕ) → List Name → Option Break
first_break rule_of ns = fold (λ b n. earlier b (rule_of n) n) None ns

-- no rule and item come before the break, or no rule fails at any item
abbrev pub IsFirstBreak : (Name → Option ℕ) → Option Break → Type 0
IsFirstBreak rule_of None = (n : Name) → rule_of n ≡ None
IsFirstBreak rule_of (Some b) = (rule_of b.item ≡ Some b.rule)
    × ((n : Name) (rule : ℕ) → rule_of n ≡ Some rule
    → is_lt (break_cmp (record { rule = rule; item = n }) b) ≡ false)

-- what is told of a break at a node, unless memory was refused
abbrev pub IsViolation : Path → Break → TypesOut → Type 0
IsViolation p b (out.Violation node item rule) = (node ≡ p) × (item ≡ b.item) × (rule ≡ b.rule)
IsViolation p b out.Memory = Unit {0}

-- the first of the violations, or memory was refused
abbrev pub IsFirstOf : List Violation → TypesOut → Type 0
IsFirstOf violations (out.Violation node item rule) =
    first_of violations ≡ Some (record { node = node; rule = rule; item = item })
IsFirstOf violations out.Memory = Unit {0}
