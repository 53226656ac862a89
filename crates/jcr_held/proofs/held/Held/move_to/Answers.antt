use Rattle.std.proofs.Common.{refl}
use Rattle.jcr_law.specs.Calls.{call_moved}
use Rattle.jcr_held.specs.Alike.{moved_to}
use Rattle.jcr_held.proofs.Holding.{holds_alike, holds_moved}
use Rattle.jcr_held.proofs.held.Held.move_to.Goals as goal

pub returns-clause-moved : goal.returns-clause-moved
returns-clause-moved c = λ d t h settled tree.
    holds_alike (call_moved d c.args.base t) (moved_to c.args.self.now c.args.base) _ (record {
      types = refl;
      who = refl;
      part = c.new.ensures;
      earlier = refl;
      pending = refl;
      is_kept = refl;
      references = refl;
      tokens = refl;
      cursor = refl;
    }) (holds_moved d c.args.self.now c.args.base t h settled tree)
