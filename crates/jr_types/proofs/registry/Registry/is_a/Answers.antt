use Rattle.std.proofs.Common.{◌∙◌}
use Rattle.jr_items.specs.Items.{same_name}
use Rattle.jr_types.proofs.Alike.{any_line}
use Rattle.jr_types.proofs.registry.Registry.is_a.Goals as goal

pub returns : goal.returns
returns c = c.has_named.ensures ∙ any_line (λ d. same_name d.name c.args.of.now) c.args.self.now c.line.result.now _ c.line.ensures.line
