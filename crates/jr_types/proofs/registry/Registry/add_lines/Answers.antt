use Rattle.std.proofs.Common.{rules, Some, None, ◌≡◌, ◌<◌, ◌≤◌, [], length, map, subst}
use Rattle.std.specs.Prelude.{slice_index_or}
use Rattle.std.specs.List.{cons_option, filter_map}
use Rattle.jr_items.specs.Items.{name_in}
use Rattle.jr_types.specs.Registered.{IsFurther}
use Rattle.jr_types.proofs.Further.{further_given, further_not, value_step}
use Rattle.jr_types.proofs.Lines.{take_all}
use Rattle.jr_types.proofs.registry.Registry.add_lines.Goals as goal
use Rattle.jr_types.proofs.registry.Registry.add_lines.Goals.{in-Some+in_ok-add_line, in_default}

pub loop-value-preserved : goal.loop-value-preserved
loop-value-preserved c =
    let l : c.loop-value.value-index < length c.args.values.now = search rules in
    let step : IsFurther c.args.self.now (map (λ d. d.now) c.loop-value.types.items) (cons_option (name_in (slice_index_or c.args.values.now c.loop-value.value-index c.value-item.result)) []) (map (λ d. d.now) c.match-name_in.types.items) =
    elim c.match-name_in.branch [
      | in-Some+in_ok-add_line w ↦
          let s : Some w.in-Some.name.now ≡ name_in (slice_index_or c.args.values.now c.loop-value.value-index c.value-item.result) = search rules in
          let p : map (λ d. d.now) c.match-name_in.types.items ≡ map (λ d. d.now) w.add_line.new.types.items = search rules in
          further_given c.args.self.now _ _ _ _ _ s p w.in_ok-add_line.ensures
      | in_default w ↦
          let s : None ≡ name_in (slice_index_or c.args.values.now c.loop-value.value-index c.value-item.result) = search rules in
          let p : map (λ d. d.now) c.match-name_in.types.items ≡ map (λ d. d.now) c.loop-value.types.items = search rules in
          further_not c.args.self.now _ _ _ s p
    ] in
    value_step c.args.self.now c.args.values.now c.loop-value.value-index c.value-item.result _ _ _ l c.loop-value.invariant step

pub returns : goal.returns
returns c =
    let l : length c.args.values.now ≤ c.loop-value.value-index = search rules in
    subst (λ vs. IsFurther c.args.self.now (map (λ d. d.now) c.args.types.now.items) (filter_map name_in vs) (map (λ d. d.now) c.loop-value.types.items)) (take_all c.args.self.now c.args.values.now c.loop-value.value-index l) c.loop-value.invariant
