use Rattle.std.proofs.Common.{rules, arith, ◌≡◌, ap, sym, ◌∙◌}
use mir.Val.{to_z, of_z}
use mir.Syntax.{w64}
use Rattle.jr_constraint.specs.Constraints.{meets, ranges_over}
use Rattle.jr_constraint.proofs.constraints.meets.Goals as goal

pub returns-in-Long : goal.returns-in-Long
returns-in-Long c =
    let y : to_z w64 (of_z w64 c.in-Long.number) ≡ c.in-Long.number = search (arith, rules) in
    c.ranges_over.ensures ∙ (ap (ranges_over c.args.constraint.now) y ∙ ap (λ v. meets v c.args.constraint.now) (sym c.in-Long.is))

pub returns-in-Date : goal.returns-in-Date
returns-in-Date c =
    let y : to_z w64 (of_z w64 c.in-Date.time) ≡ c.in-Date.time = search (arith, rules) in
    c.ranges_over-in-Date.ensures ∙ (ap (ranges_over c.args.constraint.now) y ∙ ap (λ v. meets v c.args.constraint.now) (sym c.in-Date.is))

pub returns-in-Binary : goal.returns-in-Binary
returns-in-Binary c =
    let y : to_z w64 (of_z w64 c.length_of.result) ≡ c.length_of.result = search (arith, rules) in
    c.ranges_over-in-Binary.ensures ∙ (ap (ranges_over c.args.constraint.now) (y ∙ c.length_of.ensures) ∙ ap (λ v. meets v c.args.constraint.now) (sym c.in-Binary.is))
