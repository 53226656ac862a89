use Rattle.std.proofs.Common.{rules, arith, ◌≡◌, ◌<◌, ◌∙◌, ap, map, length}
use Rattle.jr_rules.proofs.Faults.{fitting_rule, not_empty}
use Rattle.jr_rules.proofs.properties.definition_fault.Goals as goal

pub returns : goal.returns
returns c =
    let e : c.deref.result.now ≡ c.in_ok-fitting.fitting.items = search rules in
    let l : 0 < length c.args.counting.now = search (arith, rules) in
    fitting_rule c.args.counting.now c.deref.result.now c.args.property.now _ (not_empty c.args.counting.now l) (ap (map (λ d. d.now)) e ∙ c.in_ok-fitting.ensures) c.constraint_fault.ensures
