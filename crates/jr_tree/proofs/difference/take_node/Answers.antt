use Rattle.std.proofs.Common.{◌≡◌, subst}
use Rattle.std.specs.Result.{OnOk}
use Rattle.jr_tree.proofs.Steps.{taken}
use Rattle.jr_tree.proofs.difference.take_node.Goals as goal

pub returns : goal.returns
returns c =
    subst (λ ws. OnOk c.unset_properties.result (c.unset_properties.new.writes ≡ ws)) (taken _ _ _ _ c.args.node.now _ c.in_ok-add.ensures c.in_ok-copy.ensures c.new.ensures) c.unset_properties.ensures
