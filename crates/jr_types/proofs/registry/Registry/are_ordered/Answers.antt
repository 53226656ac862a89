use Rattle.std.proofs.Common.{rules, ◌≡◌, ap, ◌∙◌}
use Rattle.std.specs.List.{list_any}
use Rattle.jr_types.proofs.Alike.{any-alike, any_seen}
use Rattle.jr_types.proofs.registry.Registry.are_ordered.Goals as goal

pub returns : goal.returns
returns c =
    let e : c.deref.result.now ≡ c.in_ok-types_of.field-0.items = search rules in
    c.is_one_ordered.ensures ∙ (ap (list_any (λ d. d.now.orderable)) e ∙ (any_seen (λ d. d.orderable) (λ d. d.now) c.in_ok-types_of.field-0.items ∙ any-alike (λ d. d.orderable) _ _ c.in_ok-types_of.ensures))
