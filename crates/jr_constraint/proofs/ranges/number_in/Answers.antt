use Rattle.std.proofs.Common.{rules, arith, ◌≡◌, ◌∷◌, ◌∙◌, ap, drop, take, length, ◌-◌, pos}
use Rattle.std.specs.Prelude.{neg_ℤ}
use mir.Val.{to_z, of_z}
use mir.Syntax.{w128}
use lib.IntN.{◌-ℤ◌}
use Rattle.jr_constraint.proofs.Below.{behind, below, read}
use Rattle.jr_constraint.proofs.ranges.number_in.Goals as goal

pub returns-in_ok-size_of-in-45 : goal.returns-in_ok-size_of-in-45
returns-in_ok-size_of-in-45 c =
    let z = c.in_ok-size_of-in-45.field-0 in
    let x : c.args.digits.now ≡ 45 ∷ drop 1 c.args.digits.now = search rules in
    let y : to_z w128 (of_z w128 (pos 0 -ℤ to_z w128 (of_z w128 z))) ≡ neg_ℤ z = search (arith, rules) in
    below c.args.digits.now (take (length c.args.digits.now - 1) (drop 1 c.args.digits.now)) z c.within_64_bits.result (behind c.args.digits.now x)
    c.in_ok-size_of-in-45.ensures (c.within_64_bits.ensures ∙ ap read y)
