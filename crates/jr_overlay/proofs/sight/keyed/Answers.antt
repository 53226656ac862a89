use Rattle.jr_overlay.proofs.NamesPut.{name_more}
use Rattle.jr_overlay.proofs.sight.keyed.Goals as goal

pub loop-name-preserved : goal.loop-name-preserved
loop-name-preserved c = name_more _ _ _ _ _ _ c.loop-name-test.true c.loop-name-item.is c.requires c.loop-name.invariant c.in_ok-put.ensures.ok c.in_ok-copy.ensures
