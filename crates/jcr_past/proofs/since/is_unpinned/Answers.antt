use Rattle.std.proofs.Common.{ap, ◌∙◌}
use Rattle.std.specs.Prelude.{not, reverse}
use Rattle.jcr_law.specs.Since.{is_pinning}
use Rattle.jcr_past.proofs.Coming.{came_any}
use Rattle.jcr_past.proofs.since.is_unpinned.Goals as goal

pub returns : goal.returns
returns c =
    let s = c.args.session in
    ap not (c.has_pin.ensures ∙ came_any s (is_pinning s) (reverse c.args.events.now))
