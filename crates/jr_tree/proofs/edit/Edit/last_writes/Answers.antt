use Rattle.std.proofs.Common.{◌≡◌, ◌∷◌, [], map, ap, ◌∙◌, arith, rules}
use Rattle.std.specs.Map.Iter.{deref}
use Rattle.std.proofs.lemmas.List.{map-append}
use Rattle.jr_tree.proofs.LastWrites.{read_kept, read_passed, read_none, read_all, dropped}
use Rattle.jr_tree.proofs.edit.Edit.last_writes.Goals as goal

pub loop-at-init : goal.loop-at-init
loop-at-init c = read_none _ _ _ _ _ (search rules) c.inner-writes.ensures (ap (map deref) c.new-last.ensures.items) c.new-seen.ensures.empty

pub loop-at-preserved-in_ok-push : goal.loop-at-preserved-in_ok-push
loop-at-preserved-in_ok-push c =
    read_kept _ _ _ _ _ _ c.index-write.result.now c.in_ok-item.field-0 c.in_ok-insert.field-0 c.loop-at.invariant (dropped _ _ c.loop-at.at _ c.inner-writes.ensures c.loop-at-test.true (search rules) c.index-write.ensures) c.in_ok-item.ensures
    c.in_ok-insert.ensures.added c.in_ok-insert.ensures.updates c.if-branch.true (ap (map deref) c.in_ok-push.ensures.items ∙ map-append deref c.loop-at.last.items (c.index-write.result ∷ []))

pub loop-at-preserved : goal.loop-at-preserved
loop-at-preserved c =
    read_passed _ _ _ _ _ c.index-write.result.now c.in_ok-item.field-0 c.in_ok-insert.field-0 c.loop-at.invariant (dropped _ _ c.loop-at.at _ c.inner-writes.ensures c.loop-at-test.true (search rules) c.index-write.ensures) c.in_ok-item.ensures
    c.in_ok-insert.ensures.added c.in_ok-insert.ensures.updates c.if-branch.false

pub returns : goal.returns
returns c = let first : c.loop-at.at ≡ 0 = omega arith in read_all deref _ _ _ _ _ c.loop-at.invariant first c.reverse.ensures.items
