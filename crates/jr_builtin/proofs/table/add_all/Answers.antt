use Rattle.jr_builtin.proofs.Added.{may_be_added, one_more}
use Rattle.jr_builtin.proofs.table.add_all.Goals as goal

pub add_next-requires : goal.add_next-requires
add_next-requires c = may_be_added c.loop-place.registry c.loop-place.place c.in_ok-at.field-0.definition c.loop-place.invariant c.in_ok-at.ensures

pub loop-place-preserved : goal.loop-place-preserved
loop-place-preserved c = one_more c.loop-place.registry _ c.loop-place.place c.in_ok-at.field-0.definition c.loop-place.invariant c.in_ok-at.ensures c.in_ok-add_next.ensures
