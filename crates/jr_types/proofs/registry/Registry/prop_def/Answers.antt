use Rattle.std.proofs.Common.{rules, ◌≡◌, ◌∙◌, map, ap}
use Rattle.std.specs.List.{filter}
use Rattle.std.specs.Option.{option_copied}
use Rattle.jr_items.specs.Items.{first_of}
use Rattle.jr_types.specs.Said.{types_said}
use Rattle.jr_types.specs.Types.{fits, prop_defs, types_of}
use Rattle.jr_types.proofs.Chosen.{fit_or_first}
use Rattle.jr_types.proofs.registry.Registry.prop_def.Goals as goal

pub returns : goal.returns
returns c =
    let f : map (λ d. d.now) c.in_ok-fitting.fitting.items ≡ filter (λ d. fits d c.args.property.now) (map (λ d. d.now) c.in_ok-counting.counting.items) = search rules in
    let a : option_copied c.first_def.result ≡ first_of (map (λ d. d.now) c.in_ok-fitting.fitting.items) = search rules in
    let b : option_copied c.first_def-2.result ≡ first_of (map (λ d. d.now) c.in_ok-counting.counting.items) = search rules in
    ap option_copied c.or.ensures ∙ fit_or_first (λ d. fits d c.args.property.now) _ _ _ _ (prop_defs (types_of c.args.self.now (types_said c.args.node.now)) c.args.name.now) a b f c.in_ok-counting.ensures
