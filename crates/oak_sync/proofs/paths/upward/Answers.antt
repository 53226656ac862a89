use Rattle.std.proofs.Common.{ap, ◌∙◌, reverse}
use Rattle.oak_sync.proofs.Sets.{is_upward_list}
use Rattle.oak_sync.proofs.paths.upward.Goals as goal

pub returns : goal.returns
returns c = is_upward_list c.args.paths.now c.of.result c.in_ok-ids.ids (c.of.ensures ∙ (c.reverse.ensures.items ∙ ap reverse c.in_ok-up.ensures.paths)) c.in_ok-up.ensures.ordered c.in_ok-ids.ensures
