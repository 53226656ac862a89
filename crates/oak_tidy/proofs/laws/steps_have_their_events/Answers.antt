use Rattle.oak_tidy.proofs.Reading.{appends_its_events, collections_begin, splits_begin}
use Rattle.oak_tidy.proofs.laws.steps_have_their_events.Goals as goal

pub returns-clause-appends : goal.returns-clause-appends
returns-clause-appends c = appends_its_events

pub returns-clause-splits : goal.returns-clause-splits
returns-clause-splits c = splits_begin

pub returns-clause-collections : goal.returns-clause-collections
returns-clause-collections c = collections_begin
