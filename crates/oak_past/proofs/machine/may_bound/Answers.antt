use Rattle.std.proofs.Common.{sym, ◌∙◌}
use mathlib.Core.Bool.{false≢true}
use Rattle.oak_machine.proofs.Deciding.{kept_at}
use Rattle.oak_past.proofs.machine.may_bound.Goals as goal

pub returns-then-not-is_below_kept : goal.returns-then-not-is_below_kept
returns-then-not-is_below_kept c =
    let d = kept_at _ _ c.args.m.now c.is_below_kept.result c.as_slice.ensures c.is_below_kept.ensures in
    (λ t. absurd (false≢true t), λ b. sym c.if-not-is_below_kept.true ∙ d.1 b.checkpoints)

pub returns : goal.returns
returns c =
    let d = kept_at _ _ c.args.m.now c.is_below_kept.result c.as_slice.ensures c.is_below_kept.ensures in
    (λ t. record { heads = c.is_below_heads.ensures.0 c.if-not-is_below_heads.false; checkpoints = d.0 c.if-not-is_below_kept.false; sweep = sym c.is_below.ensures ∙ t }, λ b. c.is_below.ensures ∙ b.sweep)
