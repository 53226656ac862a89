use Rattle.core_changes.proofs.Instants.{observing_begins, observing_feeds, observing_gives, observing_lasts, reply_keeps}
use Rattle.core_changes.proofs.observers_read_on.Goals as goal

pub returns-clause-begins : goal.returns-clause-begins
returns-clause-begins c = observing_begins

pub returns-clause-feeds : goal.returns-clause-feeds
returns-clause-feeds c = observing_feeds

pub returns-clause-lasts : goal.returns-clause-lasts
returns-clause-lasts c = observing_lasts

pub returns-clause-gives : goal.returns-clause-gives
returns-clause-gives c = observing_gives

pub returns-clause-keeps : goal.returns-clause-keeps
returns-clause-keeps c = reply_keeps
