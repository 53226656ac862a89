use Rattle.std.proofs.Common.{rules, ◌≡◌, ◌∷◌, ◌-◌, ◌∙◌, ◌&&◌, ap, sym, not, true, false, drop, take, length}
use Rattle.std.specs.List.{filter_map}
use Rattle.jr_constraint.proofs.NamesText.{behind}
use Rattle.jr_items.specs.Items.{name_in}
use Rattle.jr_types.specs.Rules.{are_distinct}
use Rattle.jr_rules.proofs.Faults.{distinct_step}
use Rattle.jr_rules.proofs.own_types.+are_distinct.Goals as goal

pub returns-then-not-is_among : goal.returns-then-not-is_among
returns-then-not-is_among t c =
    let n : c.args.values.now ≡ c.first-item.result ∷ drop 1 c.args.values.now = search rules in
    let rest = take (length c.args.values.now - 1) (drop 1 c.args.values.now) in
    let k : not c.is_among.result ≡ true = search rules in
    c.are_distinct.ensures ∙ (sym (ap (λ b. b && are_distinct (filter_map name_in rest)) k) ∙ (ap (λ b. not b && are_distinct (filter_map name_in rest)) c.is_among.ensures ∙ distinct_step c.args.values.now rest c.first-item.result (behind _ _ n)))

pub returns-else-not-is_among : goal.returns-else-not-is_among
returns-else-not-is_among t c =
    let n : c.args.values.now ≡ c.first-item.result ∷ drop 1 c.args.values.now = search rules in
    let rest = take (length c.args.values.now - 1) (drop 1 c.args.values.now) in
    let k : not c.is_among.result ≡ false = search rules in
    k ∙ (sym (ap (λ b. b && are_distinct (filter_map name_in rest)) k) ∙ (ap (λ b. not b && are_distinct (filter_map name_in rest)) c.is_among.ensures ∙ distinct_step c.args.values.now rest c.first-item.result (behind _ _ n)))
