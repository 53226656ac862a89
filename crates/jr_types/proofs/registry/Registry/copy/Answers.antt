use Rattle.std.proofs.Common.{ℕ, List, ap, ◌∙◌}
use Rattle.jr_path.specs.declared.name.Name.{Name}
use Rattle.jr_types.specs.declared.PropDef.{PropDef}
use Rattle.jr_types.specs.declared.registry.Registered.{Registered}
use Rattle.jr_types.specs.Registered.{definitions}
use Rattle.jr_types.proofs.registry.Registry.copy.Goals as goal

pub invariant_of-result : goal.invariant_of-result
invariant_of-result c =
    let types = ap (λ (t : List Registered × List (Name × ℕ)). t.0) c.in_ok-types.ensures in
    let places = ap (λ (t : List Registered × List (Name × ℕ)). t.1) c.in_ok-types.ensures in
    record {
      types = rw types c.self.invariant.types;
      places_are = rw (types, places) c.self.invariant.places_are;
      primary_is = ap (λ (t : Name × Name × PropDef). t.0) c.in_ok-primary_type.ensures;
      mixins_is = ap (λ (t : Name × Name × PropDef). t.1) c.in_ok-primary_type.ensures;
      order_is = ap (λ (t : Name × Name × PropDef). t.2) c.in_ok-primary_type.ensures;
    }

pub returns : goal.returns
returns c = ap (λ (t : List Registered × List (Name × ℕ)). definitions t.0) c.in_ok-types.ensures ∙ c.self.view_is
