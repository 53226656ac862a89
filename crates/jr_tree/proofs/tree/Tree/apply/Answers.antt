use Rattle.std.proofs.Common.{◌≡◌, map, ap, refl, ◌∙◌}
use Rattle.std.specs.FinMap.{is_sorted}
use Rattle.std.specs.Map.Iter.{deref}
use Rattle.jr_path.specs.Names.{path_cmp}
use Rattle.jr_tree.specs.Edits.{applied}
use Rattle.jr_tree.proofs.AtPath.{order-applied}
use Rattle.jr_tree.proofs.Merging.{applied_apart}
use Rattle.jr_tree.proofs.tree.Tree.apply.Goals as goal
use Rattle.jr_tree.proofs.tree.Tree.apply.Goals.{After-drop-last-2}

-- the nodes are those of the tree after the edit
done : (c : After-drop-last-2) → c.make.new.nodes ≡ applied c.args.born c.self.inside.nodes c.args.edit.now.writes
done c =
    applied_apart c.args.born c.self.inside.nodes c.args.edit.now.writes _ _ _ _ c.self.invariant (ap (map deref) c.deref.ensures.value ∙ c.in_ok-last.ensures) refl refl
    c.in_ok-make.ensures.ok

pub invariant_of-self-2 : goal.invariant_of-self-2
invariant_of-self-2 c = ap (is_sorted path_cmp) (done c) ∙ order-applied c.args.born c.self.inside.nodes c.args.edit.now.writes c.self.invariant

pub returns-clause-ok : goal.returns-clause-ok
returns-clause-ok c = done c ∙ ap (λ t. applied c.args.born t c.args.edit.now.writes) c.self.view_is
