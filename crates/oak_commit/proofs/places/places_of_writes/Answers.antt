use Rattle.std.proofs.Common.{ap, ◌∙◌}
use Rattle.oak_commit.specs.Places.{path_of_write, with_path_place}
use Rattle.oak_commit.proofs.Indexed.{finds_more}
use Rattle.oak_commit.proofs.places.places_of_writes.Goals as goal

pub loop-at-preserved : goal.loop-at-preserved
loop-at-preserved c =
    finds_more c.args.writes.now path_of_write c.loop-at.at c.index-writes-at.result c.loop-at.places c.put_place.new.places c.loop-at-test.true c.index-writes-at.is c.loop-at.invariant
    (c.in_ok-put_place.ensures ∙ ap (λ p. with_path_place c.loop-at.places p c.loop-at.at) c.path.ensures)
