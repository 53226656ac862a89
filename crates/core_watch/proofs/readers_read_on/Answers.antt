use Rattle.core_watch.proofs.Fed.{reading_feeds}
use Rattle.core_watch.proofs.Instants.{begins_children, begins_node, gives_children, gives_node}
use Rattle.core_watch.proofs.Lasting.{reading_lasts}
use Rattle.core_watch.proofs.Moments.{fed_keeps}
use Rattle.core_watch.proofs.readers_read_on.Goals as goal

pub returns-clause-begins : goal.returns-clause-begins
returns-clause-begins c = λ start ds past formers a pin p. (begins_node start ds past formers a pin p, begins_children start ds past formers a pin p)

pub returns-clause-feeds : goal.returns-clause-feeds
returns-clause-feeds c = reading_feeds

pub returns-clause-lasts : goal.returns-clause-lasts
returns-clause-lasts c = reading_lasts

pub returns-clause-node : goal.returns-clause-node
returns-clause-node c = gives_node

pub returns-clause-children : goal.returns-clause-children
returns-clause-children c = gives_children

pub returns-clause-keeps : goal.returns-clause-keeps
returns-clause-keeps c = fed_keeps
