use Rattle.std.proofs.Common.{rules, Some, None, ◌≡◌, ◌++◌, [], List, map, ap, ◌∙◌, subst}
use Rattle.std.specs.Prelude.{option_to_list}
use Rattle.std.specs.List.{filter_map, flat_map}
use Rattle.jr_path.specs.declared.name.Name.{Name}
use Rattle.jr_items.specs.Items.{many_names, name_in, one_name, property_of}
use Rattle.jr_items.specs.Names.{mixin_types, primary_type}
use Rattle.jr_types.specs.Registered.{IsAlike}
use Rattle.jr_types.specs.Types.{lineage}
use Rattle.jr_types.proofs.Further.{first_line, no_line}
use Rattle.jr_types.proofs.registry.Registry.types_of.Goals as goal
use Rattle.jr_types.proofs.registry.Registry.types_of.Goals.{in-Some+in_ok-add_line, in_default}

pub returns : goal.returns
returns c =
    let one : List Name = option_to_list (one_name (property_of c.args.node.now primary_type)) in
    let mixins : filter_map name_in c.values_of.result.now ≡ many_names (property_of c.args.node.now mixin_types) = c.values_of.ensures ∙ ap many_names c.mixins_of.ensures in
    let before : IsAlike (map (λ d. d.now) c.match-one_name.types.items) (flat_map (lineage c.args.self.now) (option_to_list (one_name (property_of c.args.node.now primary_type)))) =
    elim c.match-one_name.branch [
      | in-Some+in_ok-add_line w ↦
          let s : Some w.in-Some.name.now ≡ one_name (property_of c.args.node.now primary_type) = search rules in
          let p : map (λ d. d.now) c.match-one_name.types.items ≡ map (λ d. d.now) w.add_line.new.types.items = search rules in
          first_line c.args.self.now _ _ _ _ _ s (ap (map (λ d. d.now)) c.new-types.ensures.items) p w.in_ok-add_line.ensures
      | in_default w ↦
          let s : None ≡ one_name (property_of c.args.node.now primary_type) = search rules in
          let p : map (λ d. d.now) c.match-one_name.types.items ≡ [] = search rules in
          no_line c.args.self.now _ _ s p
    ] in
    subst (λ ns. IsAlike (map (λ d. d.now) c.add_lines.new.types.items) (flat_map (lineage c.args.self.now) (one ++ ns))) mixins (c.in_ok-add_lines.ensures one before)
