use Rattle.std.proofs.Common.{List, ◌+◌, drop, sym, subst}
use Rattle.basics.proofs.Lists.{drop_next}
use Rattle.jr_path.specs.declared.path.Path.{Path}
use Rattle.jr_known.specs.Renewal.{IsRenewedBut}
use Rattle.jr_known.proofs.renewal.renew_all.Goals as goal

pub loop-path-preserved : goal.loop-path-preserved
loop-path-preserved c = record {
  renewed = λ t agrees was.
      c.in_ok-renew_at.ensures.renewed t (drop (c.loop-path.path-index + 1) c.args.told.now) agrees
      (subst (λ (ps : List Path). IsRenewedBut t ps c.loop-path.part) (drop_next c.args.told.now c.loop-path.path-index c.path-item.result c.loop-path-test.true c.path-item.is) (c.loop-path.invariant.renewed t agrees was));
  listed = λ was. c.in_ok-renew_at.ensures.listed c.args.told.now (c.loop-path.path-index, c.loop-path-test.true, sym c.path-item.is) (c.loop-path.invariant.listed was);
}
