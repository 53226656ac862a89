use Rattle.std.proofs.Common.{refl}
use Rattle.std.specs.Map.Iter.{deref_pair}
use Rattle.jr_tree.proofs.Under.{copied_more}
use Rattle.jr_overlay.proofs.overlay.copied.Goals as goal

pub loop-path-preserved : goal.loop-path-preserved
loop-path-preserved c =
    copied_more deref_pair _ _ c.args.nodes.now _ _ _ _ _ _ c.loop-path-test.true c.loop-path-item.is refl refl c.requires c.loop-path.invariant c.in_ok-insert.ensures.ok c.in_ok-copy.ensures c.in_ok-copy-2.ensures
