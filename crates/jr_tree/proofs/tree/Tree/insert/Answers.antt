use Rattle.std.proofs.Common.{ap, ◌∙◌}
use Rattle.std.specs.FinMap.{is_sorted}
use Rattle.std.specs.Cmp.Lexicographic.{nat_list_cmp_total, lists_total}
use Rattle.jr_path.specs.Names.{path_cmp}
use Rattle.jr_tree.proofs.Entries.{sorted_insert}
use Rattle.jr_tree.proofs.tree.Tree.insert.Goals as goal

pub invariant_of-self-2 : goal.invariant_of-self-2
invariant_of-self-2 c = ap (is_sorted path_cmp) c.in_ok-put.ensures.ok ∙ sorted_insert path_cmp (lists_total nat_list_cmp_total) _ _ c.self.inside.nodes c.self.invariant
