use Rattle.std.proofs.Common.{refl}
use Rattle.jcr_held.proofs.Holding.{all_known_of}
use Rattle.jcr_held.proofs.held.Held.query.Goals as goal

pub whole-requires : goal.whole-requires
whole-requires c = all_known_of c.args.self.now.part _ refl c.requires.known
