use Rattle.jr_rev.proofs.Joined.{nothing_next, revision_next, two_fronts, fits_none, fits_some, fits_all}
use Rattle.jr_rev.proofs.vector.put_entries.Goals as goal
use Rattle.jr_rev.proofs.vector.put_entries.Goals.{in-Some+in_ok-put_next, in_default}

pub loop-entry-preserved : goal.loop-entry-preserved
loop-entry-preserved c =
    let left = c.loop-entry.invariant.left in
    let front = c.loop-entry.invariant.front in
    elim c.match-entry.branch [
      | in-Some+in_ok-put_next w ↦
          (let put = w.in_ok-put_next.ensures.ok in
          rw (w.first-is, w.out-is) (record {
            left = revision_next _ c.loop-entry.out.items w.put_next.new.out.items c.args.entries.now c.loop-entry.entry-index c.loop-entry.first w.in-Some.revision c.loop-entry-test.true w.in-Some.is put left;
            front = two_fronts c.args.out.now.items c.loop-entry.out.items w.put_next.new.out.items _ _ front.1 put;
            fits = fits_some c.args.entries.now c.loop-entry.entry-index w.in-Some.revision c.loop-entry-test.true w.in-Some.is w.in_ok-put_next.ensures.fits c.loop-entry.invariant.fits;
          }))
      | in_default w ↦
          rw (w.first-is, w.out-is) (record {
            left = nothing_next _ c.loop-entry.out.items c.args.entries.now c.loop-entry.entry-index c.loop-entry.first c.loop-entry-test.true w.in_default.is left;
            front = front;
            fits = fits_none c.args.entries.now c.loop-entry.entry-index c.loop-entry-test.true w.in_default.is c.loop-entry.invariant.fits;
          })
    ]

pub returns-clause-fits : goal.returns-clause-fits
returns-clause-fits c = fits_all _ _ c.loop-entry-test.false c.loop-entry.invariant.fits
