use Rattle.std.proofs.Common.{◌∙◌}
use Rattle.oak_prev.proofs.Entries.{is_among}
use Rattle.oak_prev.proofs.moving.is_among.Goals as goal

pub returns : goal.returns
returns c = c.contains.ensures ∙ is_among c.args.revisions.now c.args.r
