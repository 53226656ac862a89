use Rattle.oak_node.proofs.Rules.{seen_before_draw, drawn_before_draw}
use Rattle.oak_node.proofs.laws.draws_rise.Goals as goal

pub returns-clause-seen : goal.returns-clause-seen
returns-clause-seen c = seen_before_draw

pub returns-clause-drawn : goal.returns-clause-drawn
returns-clause-drawn c = drawn_before_draw
