use Rattle.std.proofs.Common.{rules, None, Some, ◌≡◌, ◌∙◌, map, ap, false, true, cond}
use Rattle.std.specs.Prelude.{is_some}
use Rattle.std.specs.List.{list_any}
use Rattle.std.specs.Option.{option_copied}
use Rattle.jr_tree.specs.Trees.{node_at, property_at}
use Rattle.jr_items.specs.Names.{primary_type}
use Rattle.jr_items.specs.Items.{child_path, is_empty}
use Rattle.jr_types.specs.Said.{counting_children}
use Rattle.jr_types.specs.Types.{fits_child}
use Rattle.jr_rules.proofs.Faults.{rule_nine, rules_of_child}
use Rattle.jr_rules.proofs.children.child_fault.Goals as goal

pub returns-then-not-has : goal.returns-then-not-has
returns-then-not-has c =
    let h : is_some (node_at c.args.tree.now (child_path c.args.path.now c.args.name.now)) ≡ false = search rules in
    c.missing_child.ensures ∙ rule_nine c.args.types.now c.args.tree.now c.args.path.now c.args.name.now c.args.defs.now h c.requires

pub returns : goal.returns
returns c =
    let h : is_some (node_at c.args.tree.now (child_path c.args.path.now c.args.name.now)) ≡ true = search rules in
    let k : map (λ d. d.now) c.deref.result.now ≡ counting_children (map (λ d. d.now) c.args.defs.now) c.args.name.now = search rules in
    let q : option_copied c.property.result ≡ property_at c.args.tree.now (child_path c.args.path.now c.args.name.now) primary_type = search rules in
    c.type_fault_of.ensures ∙ (ap (λ o. cond (is_empty c.deref.result.now) (Some 7) (cond (list_any (λ d. fits_child c.args.types.now d.now o) c.deref.result.now) None (Some 8))) q
    ∙ rules_of_child c.args.types.now c.args.tree.now c.args.path.now c.args.name.now c.deref.result.now _ h k c.requires)
