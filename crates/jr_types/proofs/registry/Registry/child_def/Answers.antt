use Rattle.std.proofs.Common.{rules, ◌≡◌, ◌∙◌, map, ap}
use Rattle.std.specs.List.{filter}
use Rattle.std.specs.Option.{option_copied}
use Rattle.jr_items.specs.Names.{primary_type}
use Rattle.jr_items.specs.Items.{first_of, property_of}
use Rattle.jr_types.specs.Said.{types_said}
use Rattle.jr_types.specs.Types.{child_defs, fits_child, types_of}
use Rattle.jr_types.proofs.Chosen.{fit_or_first}
use Rattle.jr_types.proofs.registry.Registry.child_def.Goals as goal

pub returns : goal.returns
returns c =
    let g : map (λ d. d.now) c.in_ok-fitting.fitting.items ≡ filter (λ d. fits_child c.args.self.now d (option_copied c.primary_of.result)) (map (λ d. d.now) c.in_ok-counting.counting.items) = search rules in
    let f = g ∙ ap (λ o. filter (λ d. fits_child c.args.self.now d o) (map (λ d. d.now) c.in_ok-counting.counting.items)) c.primary_of.ensures in
    let a : option_copied c.first_def.result ≡ first_of (map (λ d. d.now) c.in_ok-fitting.fitting.items) = search rules in
    let b : option_copied c.first_def-2.result ≡ first_of (map (λ d. d.now) c.in_ok-counting.counting.items) = search rules in
    ap option_copied c.or.ensures ∙ fit_or_first (λ d. fits_child c.args.self.now d (property_of c.args.child.now primary_type)) _ _ _ _ (child_defs (types_of c.args.self.now (types_said c.args.node.now)) c.args.name.now) a b f c.in_ok-counting.ensures
