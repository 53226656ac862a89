use Rattle.std.proofs.Common.{[], ◌∷◌}
use Rattle.oak_commit.proofs.Indexed.{nothing_made}
use Rattle.oak_commit.proofs.places.push_mark.Goals as goal

pub returns-in_default : goal.returns-in_default
returns-in_default c = nothing_made (λ m. m.mark ∷ []) c.args.marks.now c.args.at c.args.here.now.items c.in_default.ensures.lookup.3
