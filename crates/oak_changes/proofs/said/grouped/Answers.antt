use Rattle.std.proofs.Common.{rules, ◌≡◌, ◌≤◌, [], ap, ◌∙◌, fold, length, map, subst}
use Rattle.std.specs.Prelude.{IfOk}
use Rattle.std.specs.Map.{values_of}
use Rattle.std.proofs.lemmas.List.{take_all}
use Rattle.oak_changes.specs.Saying.{Grouped, with_said}
use Rattle.oak_changes.proofs.said.grouped.Goals as goal

pub returns : goal.returns
returns c =
    let over : length c.args.said.now ≤ c.loop-one.one-index = search rules in
    let all_put : c.loop-one.groups ≡ fold with_said [] c.args.said.now = c.loop-one.invariant ∙ ap (fold with_said []) (take_all c.loop-one.one-index c.args.said.now over) in
    subst (λ (g : Grouped). IfOk c.listed.result (λ commits. commits ≡ map (λ e. record { revision = e.0; changes = values_of e.1 }) g)) all_put c.listed.ensures
