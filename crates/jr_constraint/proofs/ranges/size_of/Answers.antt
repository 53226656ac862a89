use Rattle.std.proofs.Common.{rules, ◌∙◌, ◌<◌, length}
use Rattle.jr_constraint.proofs.Digits.{more_digits, all_digits}
use Rattle.jr_constraint.proofs.ranges.size_of.Goals as goal

pub loop-byte-preserved : goal.loop-byte-preserved
loop-byte-preserved c =
    let l : c.loop-byte.byte-index < length c.args.digits.now = search rules in
    record {
      size = c.min-size.ensures ∙ more_digits c.args.digits.now c.loop-byte.byte-index c.loop-byte.size c.in-Some.digit l c.in-Some.ensures c.loop-byte.invariant.size;
      digits = all_digits c.args.digits.now c.loop-byte.byte-index c.in-Some.digit l c.in-Some.ensures c.loop-byte.invariant.digits;
    }
