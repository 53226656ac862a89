use Rattle.std.proofs.Common.{rules, ◌<◌, length}
use Rattle.std.specs.Prelude.{not}
use Rattle.jr_items.specs.Items.{same_name}
use Rattle.jr_items.specs.Names.{base_type}
use Rattle.jr_path.specs.declared.name.Name.{Name}
use Rattle.jr_cnd.proofs.Kept.{kept_more}
use Rattle.jr_cnd.proofs.types.without_base.Goals as goal

pub loop-name-preserved : goal.loop-name-preserved
loop-name-preserved c =
    let l : c.loop-name.name-index < length c.args.names.now = search rules in
    kept_more (λ (n : Name). not (same_name n base_type)) c.args.names.now c.loop-name.name-index c.name-item.result _ _ l c.name-item.is c.loop-name.invariant c.in_ok-add_unless_base.ensures
