use Rattle.std.proofs.Common.{length, ap, arith}
use Rattle.std.specs.Map.Iter.{deref_pair}
use Rattle.std.proofs.lemmas.List.{length-drop}
use Rattle.jr_overlay.proofs.SideBySide.{left_at, merge_on, slice_from}
use Rattle.jr_overlay.proofs.merge.merged.Goals as goal

pub loop-path-preserved : goal.loop-path-preserved
loop-path-preserved c =
    let slice = slice_from c.args.known.now c.loop-path.from in
    record {
      within = omega (arith, c.in_ok-passed.ensures.within, ap length slice, length-drop c.loop-path.from c.args.known.now);
      merge =
          merge_on deref_pair _ _ _ _ _ _ _ _ _ _ _ (deref_pair c.loop-path-item.result) c.loop-path.invariant.merge (left_at deref_pair _ _ _ c.loop-path-test.true c.loop-path-item.is) slice c.in_ok-passed.ensures.lent
          c.in_ok-lend_new.ensures c.in_ok-passed.ensures.rest;
    }
