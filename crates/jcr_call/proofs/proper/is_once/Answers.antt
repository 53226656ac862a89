use Rattle.std.proofs.Common.{refl, rules, sym, ap, ◌∙◌, drop, ◌≡◌, arith}
use Rattle.jr_tree.specs.Edits.{is_once}
use Rattle.jcr_call.proofs.Written.{not_once, seen_first, seen_none, seen_twice}
use Rattle.jr_tree.proofs.LastWrites.{dropped}
use Rattle.jcr_call.proofs.proper.is_once.Goals as goal

pub loop-at-init : goal.loop-at-init
loop-at-init c = seen_none c.args.writes.now c.new-seen.result _ refl c.new-seen.ensures.empty

pub loop-at-preserved : goal.loop-at-preserved
loop-at-preserved c =
    seen_first _ _ _ _ c.index-writes-at.result c.in_ok-item.field-0 c.in_ok-insert.field-0 c.loop-at.invariant
    (dropped _ _ c.loop-at.at _ refl c.loop-at-test.true (search rules) c.index-writes-at.is)
    c.in_ok-item.ensures c.in_ok-insert.ensures.added c.in_ok-insert.ensures.updates c.if-not-branch.false

pub returns-then-not-branch : goal.returns-then-not-branch
returns-then-not-branch c =
    sym (not_once c.args.writes.now _ (seen_twice _ _ _ c.index-writes-at.result c.in_ok-item.field-0 c.in_ok-insert.field-0
    c.loop-at.invariant (dropped _ _ c.loop-at.at _ refl c.loop-at-test.true (search rules) c.index-writes-at.is)
    c.in_ok-item.ensures c.in_ok-insert.ensures.added c.if-not-branch.true))

pub returns : goal.returns
returns c =
    let first : c.loop-at.at ≡ 0 = omega arith in
    sym (ap (λ k. is_once (drop k c.args.writes.now)) (sym first) ∙ c.loop-at.invariant.once)
