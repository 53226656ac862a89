use Rattle.std.specs.Prelude.{◌&&◌}
use Rattle.jr_rev.specs.Revisions.{is_before}
use Rattle.jr_rev.specs.Vectors.{sees}
use Rattle.oak_gc.specs.Newest.{is_older}
use Rattle.oak_gc.proofs.Newest.{counted_with}
use Rattle.oak_gc.proofs.garbage.newest_of.Goals as goal

pub loop-q-preserved : goal.loop-q-preserved
loop-q-preserved g c = λ r.
    counted_with (λ q. is_before r q && sees c.args.bound.now.base q && sees c.args.bound.now.sweep q) (is_older r c.loop-q.newest) _ _ (c.in-Some.q.now, c.in-Some.field-0-1.now) c.loop-q.q-iterator c.next.new.self
    (c.newest_with-newest.ensures r) c.in-Some.ensures.steps (c.loop-q.invariant r)
