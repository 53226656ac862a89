use Rattle.std.proofs.Common.{◌∙◌}
use Rattle.jr_rev.specs.Vectors.{entry}
use Rattle.oak_sound.specs.Sound.{eight, is_drawable}
use Rattle.oak_sound.proofs.Lists.{all_found}
use Rattle.oak_sound.proofs.revisions.is_drawable_vector.Goals as goal

pub returns : goal.returns
returns c = c.are_drawable_entries.ensures ∙ all_found (entry c.args.vector.now) (is_drawable c.args.clusters) eight
