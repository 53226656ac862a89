use Rattle.oak_commit.proofs.Indexed.{finds_more}
use Rattle.oak_commit.proofs.places.places_of_marks.Goals as goal

pub loop-at-preserved : goal.loop-at-preserved
loop-at-preserved c =
    finds_more c.args.marks.now (λ m. m.path) c.loop-at.at c.index-marks-at.result c.loop-at.places c.put_place.new.places c.loop-at-test.true c.index-marks-at.is c.loop-at.invariant c.in_ok-put_place.ensures
