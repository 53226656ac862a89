use Rattle.std.proofs.Common.{rules, ◌≡◌, map}
use Rattle.std.proofs.lemmas.Result.{IfOk-weaker}
use Rattle.std.specs.List.{flat_map}
use Rattle.jr_types.specs.Said.{types_said}
use Rattle.jr_types.specs.Types.{types_of}
use Rattle.jr_types.proofs.Chosen.{children_counting}
use Rattle.jr_types.proofs.registry.Registry.counting_below.Goals as goal

pub returns : goal.returns
returns c =
    let p : map (λ d. d.now) c.deref-2.result.now ≡ flat_map (λ d. d.children) (map (λ d. d.now) c.in_ok-types.types.items) = search rules in
    IfOk-weaker c.counting_children.result _ _
    (λ counting h. children_counting (map (λ d. d.now) c.in_ok-types.types.items) (types_of c.args.self.now (types_said c.args.node.now)) c.args.name.now _ _ c.in_ok-types.ensures p h) c.counting_children.ensures
