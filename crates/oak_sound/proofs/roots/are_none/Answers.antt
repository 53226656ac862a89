use Rattle.std.proofs.Common.{ap, ◌∙◌}
use Rattle.std.specs.Prelude.{◌==◌}
use Rattle.oak_sound.proofs.Lists.{all_of_none}
use Rattle.oak_sound.proofs.roots.are_none.Goals as goal

pub returns : goal.returns
returns g c = ap (λ n. n == 0) c.len.ensures.len ∙ all_of_none c.args.entries.now
