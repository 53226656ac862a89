use Rattle.std.proofs.Common.{◌≡◌, take}
use Rattle.std.specs.Prelude.{not}
use Rattle.std.specs.List.{filter}
use Rattle.jr_items.specs.Items.{same_name}
use Rattle.jr_items.specs.Names.{base_type}
use Rattle.jr_cnd.proofs.types.without_base.Given as goal

abbrev pub invariant-loop-name : goal.invariant-loop-name
invariant-loop-name l = l.kept ≡ filter (λ n. not (same_name n base_type)) (take l.name-index l.names)
