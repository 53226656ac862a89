use Rattle.std.proofs.Common.{subst}
use Rattle.jr_overlay.specs.Overlays.{View}
use Rattle.jcr_read.specs.Reading.{Replies, shown}
use Rattle.jcr_view.proofs.whole.show.Goals as goal

pub returns-in_default : goal.returns-in_default
returns-in_default c =
    subst (λ (v : View). Replies (shown c.args.types.now v c.args.base.now c.args.command.now) c.read_nodes.result)
    c.requires (c.read_nodes.ensures c.args.base.now)
