use Rattle.std.proofs.Common.{rules, ◌≡◌, map}
use Rattle.std.specs.Prelude.{is_some}
use Rattle.std.specs.List.{filter}
use Rattle.std.specs.Option.{option_copied}
use Rattle.jr_items.specs.Items.{first_of}
use Rattle.jr_types.specs.Said.{types_said}
use Rattle.jr_types.specs.Types.{types_of}
use Rattle.jr_types.proofs.Chosen.{default_chosen}
use Rattle.jr_types.proofs.registry.Registry.default_type.Goals as goal

pub returns : goal.returns
returns c =
    let f : map (λ d. d.now) c.in_ok-telling.telling.items ≡ filter (λ d. is_some d.default_type) (map (λ d. d.now) c.in_ok-counting.counting.items) = search rules in
    let a : option_copied c.first_def.result ≡ first_of (map (λ d. d.now) c.in_ok-telling.telling.items) = search rules in
    default_chosen (types_of c.args.self.now (types_said c.args.node.now)) c.args.name.now c.first_def.result _ _ _ a f c.in_ok-counting.ensures c.default_of.ensures
