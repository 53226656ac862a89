-- Why an edit is no plan.
use Rattle.std.specs.Prelude.{◌≡◌, ℕ, List, None, Some, IsFalse, codes}
use Rattle.jr_path.specs.declared.path.Item.{Item}
use Rattle.jr_path.specs.declared.path.Path.{Path}
use Rattle.jr_tree.specs.declared.edit.Write.{Write}
use Rattle.jr_tree.specs.declared.shared.Refusal.{Refusal}
use Rattle.jr_tree.specs.Edits.{applied}
use Rattle.jr_tree.specs.Trees.{Nodes}
use Rattle.jr_items.specs.Items.{first_of}
use Rattle.jr_items.specs.Names.{version_storage}
use Rattle.jr_items.specs.Refusals.{checked_in, dangling_refusal as names_nothing, locked, over_limit, own_rule}
use Rattle.jr_types.specs.declared.TypeDef.{TypeDef}
use Rattle.jr_rules.specs.Violations.{Violation, first_violation}
use Rattle.jcr_ref.specs.References.{dangling}
use Rattle.jcr_plan.specs.Plans.{has_few_nodes}
use Rattle.jcr_plan.specs.Refusals.{frozen_over, locked_over, type_refusal}
use Rattle.jcr_law.specs.Proper.{is_proper}

-- the refusal tells why the writes are no plan on the tree for one who holds the tokens
pub data NoPlan (types : List TypeDef) (t : Nodes) (tokens : List (List ℕ)) (ws : List Write)
    : Refusal → Type 0 where
  -- 8: a checked-in node covers a node that they change, items with IGNORE aside; of several such
  -- the first in path order
  frozen : (q : Path) → first_of (frozen_over types t ws) ≡ Some q
      → NoPlan types t tokens ws (checked_in q)
  -- 7: a lock whose owner is not among the tokens covers a node that they change, this one first
  barred : (q : Path) → first_of (locked_over t tokens ws) ≡ Some q
      → NoPlan types t tokens ws (locked q)
  -- 4: the tree after them breaks a rule of node types, this one first
  rule_broken : (v : Violation) → first_violation types (applied None t ws) ≡ Some v
      → NoPlan types t tokens ws (type_refusal v)
  -- 9: a REFERENCE of the tree after them names no node, this one first
  reference_lost : (item : Item) → dangling (applied None t ws) ≡ Some item
      → NoPlan types t tokens ws (names_nothing item)
  -- 15: the tree after them has too many nodes
  too_many : IsFalse (has_few_nodes (applied None t ws))
      → NoPlan types t tokens ws (over_limit (codes "nodes") 100000)
  -- 4, rule 0, at the version storage: they are not proper, as that isn't whole
  improper : IsFalse (is_proper t ws) → NoPlan types t tokens ws (own_rule version_storage)
